use Rattle.std.proofs.Common.{◌⊎◌, length}
use Rattle.ccp_base.specs.declared.ack.Ack.{Ack}
use Rattle.portus_core.specs.Programs.{term_of}
use Rattle.portus_core.specs.Command.{Going, value_in}
use Rattle.portus_core.specs.Blocks.{at_block}
use Rattle.range_cases.specs.Listing.{KeepsListed}
use Rattle.range_cases.specs.Cases.{IsAmong, Enters}
use Rattle.range_cases.proofs.steps.enter.Given as goal

abbrev pub invariant-loop-case : goal.invariant-loop-case
invariant-loop-case l = record {
  enters : (ack : Ack) (going : Going) → IsAmong l.cases ack going → IsAmong l.left ack going ⊎ Enters l.faults l.turn l.held.items l.next.items ack (at_block going) (value_in (term_of l.condition) ack (at_block going));
  listed : KeepsListed l.initial.faults l.faults;
}

abbrev pub decreases-loop-case : goal.decreases-loop-case
decreases-loop-case l = length l.left
