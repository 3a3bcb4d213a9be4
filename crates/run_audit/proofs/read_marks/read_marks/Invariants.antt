use Rattle.std.proofs.Common.{◌≡◌, ◌++◌, length}
use Rattle.run_audit.specs.Marks.{text_marks}
use Rattle.run_audit.proofs.read_marks.read_marks.Given as goal

abbrev pub invariant-loop-left : goal.invariant-loop-left
invariant-loop-left l = l.marks ++ text_marks l.left ≡ text_marks l.text

abbrev pub decreases-loop-left : goal.decreases-loop-left
decreases-loop-left l = length l.left
