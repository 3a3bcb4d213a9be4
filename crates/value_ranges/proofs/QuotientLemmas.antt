-- Quotients of greater numbers by lesser ones are greater.
use Rattle.std.proofs.Common.{ℕ, ◌*◌, ◌/◌, ◌<◌, ◌≤◌, arith}
use Rattle.std.proofs.lemmas.Nat.{le-div}
use Rattle.std.proofs.Math.Nat.{mul-le-mul_left, div-mul-le_self}

pub quotient_grows : (a d x y : ℕ) → a ≤ x → y ≤ d → 0 < y → a / d ≤ x / y
quotient_grows a d x y less more some =
    let step : a / d * y ≤ a / d * d = mul-le-mul_left (a / d) more in
    let whole : a / d * d ≤ a = div-mul-le_self a d in
    le-div (a / d) x y some (omega arith)
