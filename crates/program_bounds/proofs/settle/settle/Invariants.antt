use Rattle.std.proofs.Common.{◌⊎◌, Bool, IsTrue, length}
use Rattle.ccp_base.specs.declared.ack.Ack.{Ack}
use Rattle.portus_core.specs.Command.{Going}
use Rattle.portus_core.specs.ProgramForm.{form_of}
use Rattle.portus_core.specs.OneAcknowledgement.{IsEnvOf, answered}
use Rattle.range_cases.specs.Cases.{IsAmong}
use Rattle.program_bounds.specs.Turns.{IsSettled, IsWithin, KeepsReport}
use Rattle.program_bounds.proofs.settle.settle.Given as goal

abbrev pub invariant-loop-case : goal.invariant-loop-case
invariant-loop-case l = record {
  settled : (ack : Ack) (going : Going) (room : Bool) → IsAmong l.ends ack going → IsEnvOf (form_of l.program) going.env → (IsTrue l.has_room → IsTrue room)
      → IsAmong l.left ack going ⊎ IsSettled l.report l.next (answered (form_of l.program) going.asked room going.env);
  within : IsWithin l.initial.next l.next;
  keeps : KeepsReport l.initial.report l.report;
}

abbrev pub decreases-loop-case : goal.decreases-loop-case
decreases-loop-case l = length l.left
