use Rattle.std.proofs.Common.{◌⊎◌, length}
use Rattle.ccp_base.specs.declared.ack.Ack.{Ack}
use Rattle.portus_core.specs.Command.{Going}
use Rattle.range_cases.specs.Cases.{IsAmong, KeepsCases, Parts}
use Rattle.range_cases.proofs.steps.leave.Given as goal

abbrev pub invariant-loop-case : goal.invariant-loop-case
invariant-loop-case l = record {
  parts : (ack : Ack) (going : Going) → IsAmong l.cases ack going → IsAmong l.left ack going ⊎ Parts l.next.items l.ends.items ack going;
  next : KeepsCases l.initial.next.items l.next.items;
  ends : KeepsCases l.initial.ends.items l.ends.items;
}

abbrev pub decreases-loop-case : goal.decreases-loop-case
decreases-loop-case l = length l.left
