use Rattle.std.proofs.Common.{◌≡◌, length}
use Rattle.program_bounds.specs.Premises.{range_for}
use Rattle.program_bounds.proofs.begin.range_for.Given as goal

abbrev pub invariant-loop-item : goal.invariant-loop-item
invariant-loop-item l = range_for l.register l.left ≡ range_for l.register l.items

abbrev pub decreases-loop-item : goal.decreases-loop-item
decreases-loop-item l = length l.left
