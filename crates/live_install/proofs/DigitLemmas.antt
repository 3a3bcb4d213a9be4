-- Where digits end: the number in front of a text, and what follows it.
use Rattle.std.proofs.Common.{◌≡◌, ℕ, true, false, List, [], ◌∷◌, ◌++◌, cond, ap, sym, ◌∙◌}
use Rattle.std.specs.List.{list_all}
use Rattle.std.specs.Fmt.{decimal}
use Rattle.std.proofs.lemmas.Bool.{and_parts}
use Rattle.ccp_base.specs.Numerals.{is_digit}
use Rattle.ccp_base.proofs.DecimalLemmas.{decimal-digits}

-- the digits in front of a text
abbrev front : List ℕ → List ℕ
front [] = []
front (b ∷ rest) = cond (is_digit b) (b ∷ front rest) []

-- what follows them
abbrev after : List ℕ → List ℕ
after [] = []
after (b ∷ rest) = cond (is_digit b) (after rest) (b ∷ rest)

front-of : (ds : List ℕ) (b : ℕ) (rest : List ℕ) → list_all is_digit ds ≡ true → is_digit b ≡ false → front (ds ++ b ∷ rest) ≡ ds
front-of [] b rest are is = ap (λ t. cond t (b ∷ front rest) []) is
front-of (d ∷ ds) b rest are is =
    let parts = and_parts (is_digit d) (list_all is_digit ds) are in
    ap (λ t. cond t (d ∷ front (ds ++ b ∷ rest)) []) parts.0 ∙ ap (λ (xs : List ℕ). d ∷ xs) (front-of ds b rest parts.1 is)

after-of : (ds : List ℕ) (b : ℕ) (rest : List ℕ) → list_all is_digit ds ≡ true → is_digit b ≡ false → after (ds ++ b ∷ rest) ≡ b ∷ rest
after-of [] b rest are is = ap (λ t. cond t (after rest) (b ∷ rest)) is
after-of (d ∷ ds) b rest are is =
    let parts = and_parts (is_digit d) (list_all is_digit ds) are in
    ap (λ t. cond t (after (ds ++ b ∷ rest)) (d ∷ (ds ++ b ∷ rest))) parts.0 ∙ after-of ds b rest parts.1 is

-- two texts that begin with numbers, after which a byte comes that is no digit
pub same-front : (m n b c : ℕ) (x y : List ℕ) → is_digit b ≡ false → is_digit c ≡ false
    → decimal m ++ b ∷ x ≡ decimal n ++ c ∷ y → (decimal m ≡ decimal n) × (b ∷ x ≡ c ∷ y)
same-front m n b c x y left right same = (
  sym (front-of (decimal m) b x (decimal-digits m) left) ∙ ap front same ∙ front-of (decimal n) c y (decimal-digits n) right,
  sym (after-of (decimal m) b x (decimal-digits m) left) ∙ ap after same ∙ after-of (decimal n) c y (decimal-digits n) right,
)
