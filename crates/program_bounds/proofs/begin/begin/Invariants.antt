use Rattle.std.proofs.Common.{◌⊎◌, length}
use Rattle.ccp_base.specs.declared.ack.Ack.{Ack}
use Rattle.portus_core.specs.declared.env.Env.{Env}
use Rattle.portus_core.specs.Blocks.{before_blocks}
use Rattle.range_cases.specs.Cases.{IsKept, HasSizes, IsAmong}
use Rattle.program_bounds.specs.Premises.{IsOfSome}
use Rattle.program_bounds.proofs.begin.begin.Given as goal

abbrev pub invariant-loop-kind : goal.invariant-loop-kind
invariant-loop-kind l = (env : Env) (ack : Ack) → IsKept l.state env → HasSizes l.sizes env → IsOfSome l.kinds ack
    → IsOfSome l.left ack ⊎ IsAmong l.cases.items ack (before_blocks env)

abbrev pub decreases-loop-kind : goal.decreases-loop-kind
decreases-loop-kind l = length l.left
