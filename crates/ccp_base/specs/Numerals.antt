-- Numerals: texts of decimal digits, and their numbers.
use Rattle.std.specs.Prelude.{ℕ, ◌+◌, ◌-◌, ◌*◌, ◌^◌, Bool, ◌&&◌, nat_lt, nat_le, Option, Some, None, if◌then◌else◌, List, [], ◌∷◌}

-- an ASCII digit
abbrev pub is_digit : ℕ → Bool
is_digit byte = nat_le 48 byte && nat_le byte 57

-- a number with one more decimal digit, if the byte is a digit and the number stays below 2^64
abbrev pub digit_after : ℕ → ℕ → Option ℕ
digit_after number byte =
    if is_digit byte && nat_lt (number * 10 + (byte - 48)) (2 ^ 64) then Some (number * 10 + (byte - 48)) else None

-- the number with each of these digits appended in turn
abbrev pub value_after : Option ℕ → List ℕ → Option ℕ
value_after None digits = None
value_after (Some number) [] = Some number
value_after (Some number) (byte ∷ rest) = value_after (digit_after number byte) rest

-- the value of a numeral: one or more decimal digits alone, below 2^64
abbrev pub numeral_of : List ℕ → Option ℕ
numeral_of [] = None
numeral_of (byte ∷ rest) = value_after (Some 0) (byte ∷ rest)
