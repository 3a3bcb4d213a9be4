-- An operation's number is its own, and at most the greatest one.
use Rattle.std.proofs.Common.{◌≡◌, ◌≤◌, refl, Some, arith}
use Rattle.ccp_base.specs.declared.operation.Op2.{Op2}
use Rattle.ccp_base.specs.declared.operation.Op2.TheVariants.{Add, Sub, Mul, Div, Max, Min, Gt, Lt, Eq, And, Or}
use Rattle.ccp_base.specs.Limits.{most_operation}
use Rattle.ccp_base.specs.Operations.{written_as, operation_numbered}

pub operation-back : (o : Op2) → operation_numbered (written_as o).number ≡ Some o
operation-back Add = refl
operation-back Sub = refl
operation-back Mul = refl
operation-back Div = refl
operation-back Max = refl
operation-back Min = refl
operation-back Gt = refl
operation-back Lt = refl
operation-back Eq = refl
operation-back And = refl
operation-back Or = refl

pub operation-low : (o : Op2) → (written_as o).number ≤ most_operation
operation-low Add = omega arith
operation-low Sub = omega arith
operation-low Mul = omega arith
operation-low Div = omega arith
operation-low Max = omega arith
operation-low Min = omega arith
operation-low Gt = omega arith
operation-low Lt = omega arith
operation-low Eq = omega arith
operation-low And = omega arith
operation-low Or = omega arith
