use Rattle.std.proofs.Common.{length}
use Rattle.fold_run.specs.Fronts.{LeavesOf}
use Rattle.fold_run.proofs.front.after_bytes.Given as goal

abbrev pub invariant-loop-byte : goal.invariant-loop-byte
invariant-loop-byte l = LeavesOf l.text l.front l.left l.known

abbrev pub decreases-loop-byte : goal.decreases-loop-byte
decreases-loop-byte l = length l.known
