-- The decimal digits of a number: they are digits, and its numeral. Also a text of pieces.
use Rattle.std.proofs.Common.{◌≡◌, ℕ, ◌+◌, ◌-◌, ◌*◌, ◌/◌, ◌%◌, ◌^◌, ◌<◌, ◌≤◌, zero, suc, Bool, true, false, ◌&&◌, ◌==◌, nat_le, nat_lt, Some, None, List, [], ◌∷◌, ◌++◌, length, refl, ap, ◌∙◌, arith, cond, append_assoc}
use Rattle.std.specs.List.{list_all}
use Rattle.std.specs.Fmt.{decimal, digits, digits_onto, digit_glyph}
use Rattle.std.specs.Int.{IsInRange}
use Rattle.std.proofs.lemmas.Bool.{and_parts, and_from, lt-ltb, leb-true, le-leb}
use Rattle.std.proofs.lemmas.Str.Parse.{IsNumeralModel, IsDigitsTest, FoldsDigits, numerals_by_fold}
use Rattle.std.proofs.lemmas.Fmt.{digits_value-decimal, decimal_nonempty}
use Rattle.ccp_base.specs.Numerals.{is_digit, digit_after, value_after, numeral_of}

-- ---- pieces

-- pieces, and what follows them
abbrev pub joined : List (List ℕ) → List ℕ → List ℕ
joined [] rest = rest
joined (piece ∷ pieces) rest = piece ++ joined pieces rest

pub joined-append : (pieces : List (List ℕ)) (rest more : List ℕ) → joined pieces rest ++ more ≡ joined pieces (rest ++ more)
joined-append [] rest more = refl
joined-append (piece ∷ pieces) rest more = append_assoc piece (joined pieces rest) more ∙ ap (λ x. piece ++ x) (joined-append pieces rest more)

-- ---- digits

digit-byte : (n : ℕ) → is_digit (digit_glyph false (n % 10)) ≡ true
digit-byte n =
    let below : n % 10 < 10 = omega arith in
    ap (λ b. is_digit (cond b (48 + n % 10) (87 + n % 10))) (lt-ltb (n % 10) 10 below)
    ∙ and_from (nat_le 48 (48 + n % 10)) (nat_le (48 + n % 10) 57) (le-leb 48 (48 + n % 10) (omega arith)) (le-leb (48 + n % 10) 57 (omega (arith, below)))

onto-digits : (k n : ℕ) (more : List ℕ) → list_all is_digit more ≡ true → list_all is_digit (digits_onto k 10 false n more) ≡ true
onto-digits zero n more is = is
onto-digits (suc k) n more is =
    let next = digit_glyph false (n % 10) ∷ more in
    let these : list_all is_digit next ≡ true = and_from (is_digit (digit_glyph false (n % 10))) (list_all is_digit more) (digit-byte n) is in
    either (n / 10 == 0) next (digits_onto k 10 false (n / 10) next) these (onto-digits k (n / 10) next these)
  where
    either : (b : Bool) (xs ys : List ℕ) → list_all is_digit xs ≡ true → list_all is_digit ys ≡ true → list_all is_digit (cond b xs ys) ≡ true
    either true xs ys these those = these
    either false xs ys these those = those

pub decimal-digits : (n : ℕ) → list_all is_digit (decimal n) ≡ true
unfolding digits
decimal-digits n = onto-digits 64 n [] refl

-- ---- the numeral

-- the number that has these decimal digits after those of another number
abbrev decimal_from : ℕ → List ℕ → ℕ
decimal_from value [] = value
decimal_from value (b ∷ rest) = decimal_from (value * 10 + (b - 48)) rest

-- further digits make no number smaller
decimal_from-grows : (value : ℕ) (digits : List ℕ) → value ≤ decimal_from value digits
decimal_from-grows value [] = omega arith
decimal_from-grows value (b ∷ rest) = omega (arith, decimal_from-grows (value * 10 + (b - 48)) rest)

digit_by_digit : (value : ℕ) (digits : List ℕ) → list_all is_digit digits ≡ true → decimal_from value digits < 2 ^ 64 → value_after (Some value) digits ≡ Some (decimal_from value digits)
digit_by_digit value [] are below = refl
digit_by_digit value (b ∷ rest) are below =
    let parts = and_parts (is_digit b) (list_all is_digit rest) are in
    let next : ℕ = value * 10 + (b - 48) in
    let fits : next < 2 ^ 64 = omega (arith, below, decimal_from-grows next rest) in
    let taken : digit_after value b ≡ Some next =
    ap (λ t. cond (t && nat_lt next (2 ^ 64)) (Some next) None) parts.0 ∙ ap (λ t. cond t (Some next) None) (lt-ltb next (2 ^ 64) fits) in
    ap (λ o. value_after o rest) taken ∙ digit_by_digit next rest parts.1 below

abbrev AreDigits : List ℕ → Type 0
AreDigits ds = list_all is_digit ds ≡ true

in_range : (b : ℕ) → is_digit b ≡ true → IsInRange 48 57 b
in_range b h = let parts = and_parts (nat_le 48 b) (nat_le b 57) h in (leb-true 48 b parts.0, leb-true b 57 parts.1)

tells_digits : IsDigitsTest AreDigits
tells_digits = record {
  empty = refl;
  parts = λ c cs h. let parts = and_parts (is_digit c) (list_all is_digit cs) h in (in_range c parts.0, parts.1);
  more = λ c cs h k. and_from (is_digit c) (list_all is_digit cs) (and_from (nat_le 48 c) (nat_le c 57) (le-leb 48 c h.0) (le-leb c 57 h.1)) k;
}

folds_digits : FoldsDigits decimal_from
folds_digits = record { empty = λ n. refl; more = λ n c cs h. refl }

digits_model : IsNumeralModel AreDigits (decimal_from 0)
digits_model = numerals_by_fold AreDigits tells_digits decimal_from folds_digits

some_bytes : (ds : List ℕ) → 0 < length ds → numeral_of ds ≡ value_after (Some 0) ds
some_bytes [] some = absurd (omega arith)
some_bytes (d ∷ ds) some = refl

-- the decimal digits of a number below 2^64 are its numeral
pub numeral_of-decimal : (value : ℕ) → value < 2 ^ 64 → numeral_of (decimal value) ≡ Some value
numeral_of-decimal value fits =
    let same = digits_value-decimal digits_model value fits in
    let below : decimal_from 0 (decimal value) < 2 ^ 64 = omega (arith, same, fits) in
    some_bytes (decimal value) (decimal_nonempty value fits)
    ∙ digit_by_digit 0 (decimal value) (decimal-digits value) below
    ∙ ap (λ n. Some n) same
