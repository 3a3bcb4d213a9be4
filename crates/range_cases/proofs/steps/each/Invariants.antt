use Rattle.std.proofs.Common.{◌⊎◌, length}
use Rattle.ccp_base.specs.declared.ack.Ack.{Ack}
use Rattle.portus_core.specs.Programs.{action_of}
use Rattle.portus_core.specs.Command.{Going, command_of}
use Rattle.range_cases.specs.Listing.{KeepsListed}
use Rattle.range_cases.specs.Cases.{IsAmong, LeadsTo}
use Rattle.range_cases.proofs.steps.each.Given as goal

abbrev pub invariant-loop-case : goal.invariant-loop-case
invariant-loop-case l = record {
  leads : (ack : Ack) (going : Going) → IsAmong l.cases ack going → IsAmong l.left ack going ⊎ LeadsTo l.faults l.turn l.made.items ack (command_of (action_of l.cmd) ack going);
  listed : KeepsListed l.initial.faults l.faults;
}

abbrev pub decreases-loop-case : goal.decreases-loop-case
decreases-loop-case l = length l.left
