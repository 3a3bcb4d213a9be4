-- The value of a numeral is below 2^64.
use Rattle.std.specs.Prelude.{ℕ, ◌+◌, ◌-◌, ◌*◌, ◌^◌, ◌<◌, Bool, true, false, ◌&&◌, nat_lt, Option, Some, None, if◌then◌else◌, List, [], ◌∷◌, ◌≡◌}
use Rattle.std.proofs.Common.{subst, refl, arith}
use Rattle.std.proofs.lemmas.Bool.{ltb-true}
use Rattle.ccp_base.specs.Numerals.{is_digit, digit_after, value_after, numeral_of}

abbrev some_if : Bool → ℕ → Option ℕ
some_if test value = if test then Some value else None

fits_if : (digit fits : Bool) (w next : ℕ) → (fits ≡ true → w < 2 ^ 64) → some_if (digit && fits) w ≡ Some next → next < 2 ^ 64
fits_if true true w next below h = let e : w ≡ next = cc in subst (λ (n : ℕ). n < 2 ^ 64) e (below refl)
fits_if true false w next below h = absurd (cc)
fits_if false fits w next below h = absurd (cc)

digit_fits : (value b next : ℕ) → digit_after value b ≡ Some next → next < 2 ^ 64
digit_fits value b next h =
    let w = value * 10 + (b - 48) in
    fits_if (is_digit b) (nat_lt w (2 ^ 64)) w next (λ e. ltb-true w (2 ^ 64) e) h

after_fits : (value : Option ℕ) (digits : List ℕ) (total : ℕ) → ((n : ℕ) → value ≡ Some n → n < 2 ^ 64) → value_after value digits ≡ Some total → total < 2 ^ 64
after_fits None digits total fits e = absurd (cc)
after_fits (Some n) [] total fits e = fits total e
after_fits (Some n) (b ∷ rest) total fits e = after_fits (digit_after n b) rest total (λ m h. digit_fits n b m h) e

zero_fits : (n : ℕ) → Some 0 ≡ Some n → n < 2 ^ 64
zero_fits n e = let same : 0 ≡ n = cc in let fits : 0 < 2 ^ 64 = omega arith in subst (λ (k : ℕ). k < 2 ^ 64) same fits

-- a numeral's value is below 2^64
pub numeral_fits : (text : List ℕ) (value : ℕ) → numeral_of text ≡ Some value → value < 2 ^ 64
numeral_fits [] value e = absurd (cc)
numeral_fits (b ∷ rest) value e = after_fits (Some 0) (b ∷ rest) value zero_fits e
