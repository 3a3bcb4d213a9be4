use Rattle.std.proofs.Common.{◌≡◌, length}
use Rattle.run_audit.specs.Marks.{past}
use Rattle.run_audit.proofs.read_marks.after_name.Given as goal

abbrev pub invariant-loop-rest : goal.invariant-loop-rest
invariant-loop-rest l = past l.name l.left ≡ past l.name l.line

abbrev pub decreases-loop-rest : goal.decreases-loop-rest
decreases-loop-rest l = length l.left
