use Rattle.std.proofs.Common.{◌⊎◌, length}
use Rattle.ccp_base.specs.FieldReg.{Pair}
use Rattle.program_bounds.specs.Premises.{IsAllowed}
use Rattle.program_bounds.specs.Turns.{IsWritten, Widens}
use Rattle.program_bounds.proofs.updates.update.Given as goal

abbrev pub invariant-loop-item : goal.invariant-loop-item
invariant-loop-item l = record {
  widens : Widens l.initial.state l.state;
  has : (pair : Pair) → IsAllowed l.items pair → IsAllowed l.left pair ⊎ IsWritten l.state pair.0 pair.1;
}

abbrev pub decreases-loop-item : goal.decreases-loop-item
decreases-loop-item l = length l.left
