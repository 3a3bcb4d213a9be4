-- Operations on numbers from 0 to 2^64-1, each with its result or why it has none.
use Rattle.std.specs.Prelude.{ℕ, ◌+◌, ◌-◌, ◌*◌, ◌/◌, ◌^◌, ◌==◌, nat_lt, if◌then◌else◌, Result, Ok, Err}
use Rattle.ccp_base.specs.declared.arithmetic.FaultKind.{FaultKind}
use Rattle.ccp_base.specs.declared.arithmetic.FaultKind.TheVariants.{Overflow, Underflow, ZeroDivisor}

-- a number if it is a value, from 0 to 2^64-1
abbrev pub fitted : ℕ → Result ℕ FaultKind
fitted n = if nat_lt n (2 ^ 64) then Ok n else Err Overflow

-- the exact sum, difference, product and cut quotient of two values, or why there is none
abbrev pub sum_of : ℕ → ℕ → Result ℕ FaultKind
sum_of a b = fitted (a + b)

abbrev pub difference_of : ℕ → ℕ → Result ℕ FaultKind
difference_of a b = if nat_lt a b then Err Underflow else Ok (a - b)

abbrev pub product_of : ℕ → ℕ → Result ℕ FaultKind
product_of a b = fitted (a * b)

abbrev pub quotient_of : ℕ → ℕ → Result ℕ FaultKind
quotient_of a b = if b == 0 then Err ZeroDivisor else Ok (a / b)
