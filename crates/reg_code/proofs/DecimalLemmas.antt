-- Lemmas on texts that end with a decimal number.
use Rattle.std.proofs.Common.{◌≡◌, refl, ap, sym, ◌∙◌, ℕ, zero, suc, ◌+◌, ◌*◌, ◌/◌, ◌%◌, ◌^◌, ◌<◌, ◌≤◌, true, false, ◌==◌, cond, List, [], ◌∷◌, ◌++◌, arith, nat_lt, decimal}
use Rattle.std.proofs.lemmas.Bool.Decides.{nat_tests}
use Rattle.std.specs.Fmt.{digits, digits_onto, digit_glyph}

-- a power of ten
abbrev tens : ℕ → ℕ
tens zero = 1
tens (suc k) = 10 * tens k

abbrev onto : ℕ → ℕ → List ℕ → List ℕ
onto k n acc = digits_onto k 10 false n acc

abbrev glyph : ℕ → ℕ
glyph n = digit_glyph false (n % 10)

-- what stands after the digits stays there
onto-append : (k n : ℕ) (acc more : List ℕ) → onto k n (acc ++ more) ≡ onto k n acc ++ more
onto-append zero n acc more = refl
onto-append (suc k) n acc more =
    elim (n / 10 == 0) as (λ b. cond b (glyph n ∷ (acc ++ more)) (onto k (n / 10) (glyph n ∷ (acc ++ more))) ≡ cond b (glyph n ∷ acc) (onto k (n / 10) (glyph n ∷ acc)) ++ more) [
      | true ↦ refl
      | false ↦ onto-append k (n / 10) (glyph n ∷ acc) more
    ]

-- a place more than the number has digits changes nothing
onto-enough : (k n : ℕ) (acc : List ℕ) → n < tens (suc k) → onto (suc (suc k)) n acc ≡ onto (suc k) n acc
onto-enough zero n acc below =
    let e : n / 10 ≡ 0 = omega arith in
    rw e refl
onto-enough (suc k) n acc below =
    elim (n / 10 == 0) as (λ b. cond b (glyph n ∷ acc) (onto (suc (suc k)) (n / 10) (glyph n ∷ acc)) ≡ cond b (glyph n ∷ acc) (onto (suc k) (n / 10) (glyph n ∷ acc))) [
      | true ↦ refl
      | false ↦ onto-enough k (n / 10) (glyph n ∷ acc) (omega arith)
    ]

onto-more : (k n : ℕ) → 10 ≤ n → n / 10 < tens (suc k) → onto (suc (suc k)) n [] ≡ onto (suc (suc k)) (n / 10) [] ++ glyph n ∷ []
onto-more k n some below =
    let tested : (n / 10 == 0) ≡ false = grind (arith, nat_tests) in
    ap (λ b. cond b (glyph n ∷ []) (onto (suc k) (n / 10) (glyph n ∷ []))) tested
    ∙ onto-append (suc k) (n / 10) [] (glyph n ∷ [])
    ∙ ap (λ front. front ++ glyph n ∷ []) (sym (onto-enough k (n / 10) [] below))

glyph-digit : (n : ℕ) → glyph n ≡ 48 + n % 10
glyph-digit n =
    let tested : nat_lt (n % 10) 10 ≡ true = grind (arith, nat_tests) in
    ap (λ b. cond b (48 + n % 10) (87 + n % 10)) tested

-- the digits of a number of two and more are those of its tens, and the last one
pub decimal-more : (n : ℕ) → 10 ≤ n → n < 2 ^ 128 → decimal n ≡ decimal (n / 10) ++ (48 + n % 10) ∷ []
unfolding digits
decimal-more n some below =
    onto-more 62 n some (omega arith) ∙ ap (λ last. onto 64 (n / 10) [] ++ last ∷ []) (glyph-digit n)
