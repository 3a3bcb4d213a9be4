use Rattle.std.proofs.Common.{◌≡◌, ◌++◌, length}
use Rattle.scene_members.proofs.open_case.copy_of.Given as goal

abbrev pub invariant-loop-text : goal.invariant-loop-text
invariant-loop-text l = l.copies ++ l.rest ≡ l.texts

abbrev pub decreases-loop-text : goal.decreases-loop-text
decreases-loop-text l = length l.rest
