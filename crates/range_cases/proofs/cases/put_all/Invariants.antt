use Rattle.std.proofs.Common.{◌⊎◌, length}
use Rattle.ccp_base.specs.declared.ack.Ack.{Ack}
use Rattle.portus_core.specs.Command.{Going}
use Rattle.range_cases.specs.Cases.{IsAmong, KeepsCases}
use Rattle.range_cases.proofs.cases.put_all.Given as goal

abbrev pub invariant-loop-case : goal.invariant-loop-case
invariant-loop-case l = record {
  has : (ack : Ack) (going : Going) → IsAmong l.others ack going → IsAmong l.left ack going ⊎ IsAmong l.cases.items ack going;
  keeps : KeepsCases l.initial.cases.items l.cases.items;
}

abbrev pub decreases-loop-case : goal.decreases-loop-case
decreases-loop-case l = length l.left
