use Rattle.std.proofs.Common.{◌≡◌, ℕ, true, false, ◌&&◌, eqb, List, [], ◌∷◌, ◌++◌, length, take, drop, refl, ap, sym, ◌∙◌}
use Rattle.std.specs.Str.{bytes_eq}
use Rattle.ccp_base.proofs.primitive_names.is_word.Goals as goal

-- a list is a front and what follows it if its own front is that front, and what follows is the same
bytes_eq-append : (word front rest : List ℕ) → bytes_eq word (front ++ rest) ≡ (bytes_eq (take (length front) word) front && bytes_eq (drop (length front) word) rest)
bytes_eq-append word [] rest = refl
bytes_eq-append [] (y ∷ front) rest = refl
bytes_eq-append (x ∷ word) (y ∷ front) rest =
    ap (λ same. eqb x y && same) (bytes_eq-append word front rest)
    ∙ elim (eqb x y) as (λ b. (b && (bytes_eq (take (length front) word) front && bytes_eq (drop (length front) word) rest)) ≡ ((b && bytes_eq (take (length front) word) front) && bytes_eq (drop (length front) word) rest)) [ true ↦ refl | false ↦ refl ]

pub returns-in-Some : goal.returns-in-Some
returns-in-Some c =
    let word = c.args.word.now in
    let front = c.args.prefix.now in
    let rest = 46 ∷ c.args.name.now in
    c.is_dotted.ensures
    ∙ ap (λ xs. bytes_eq xs rest) c.in-Some.ensures.cases.1
    ∙ ap (λ same. same && bytes_eq (drop (length front) word) rest) (sym c.in-Some.ensures.cases.0)
    ∙ sym (bytes_eq-append word front rest)

pub returns-in-None : goal.returns-in-None
returns-in-None c =
    let word = c.args.word.now in
    let front = c.args.prefix.now in
    let rest = 46 ∷ c.args.name.now in
    ap (λ same. same && bytes_eq (drop (length front) word) rest) (sym c.in-None.ensures.cases)
    ∙ sym (bytes_eq-append word front rest)
