use Rattle.std.proofs.Common.{length}
use Rattle.fold_run.specs.Fronts.{LeavesOf}
use Rattle.fold_run.proofs.front.after_words.Given as goal

abbrev pub invariant-loop-word : goal.invariant-loop-word
invariant-loop-word l = LeavesOf l.text l.front l.left l.known

abbrev pub decreases-loop-word : goal.decreases-loop-word
decreases-loop-word l = length l.known
