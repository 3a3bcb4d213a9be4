use Rattle.std.proofs.Common.{◌≡◌, length}
use Rattle.ccp_base.specs.Operations.{first_where, is_written}
use Rattle.ccp_base.proofs.operation.first_written.Given as goal

-- the first one of the rest is the first one of all
abbrev pub invariant-loop-operation : goal.invariant-loop-operation
invariant-loop-operation l = first_where (is_written l.text) l.left ≡ first_where (is_written l.text) l.operations

abbrev pub decreases-loop-operation : goal.decreases-loop-operation
decreases-loop-operation l = length l.left
