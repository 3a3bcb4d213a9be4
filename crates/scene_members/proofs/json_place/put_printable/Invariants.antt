use Rattle.std.proofs.Common.{◌≡◌, ◌++◌, length}
use Rattle.scene_members.specs.Paths.{printable}
use Rattle.scene_members.proofs.json_place.put_printable.Given as goal

abbrev pub invariant-loop-byte : goal.invariant-loop-byte
invariant-loop-byte l = l.path ++ printable l.rest ≡ l.initial.path ++ printable l.name

abbrev pub decreases-loop-byte : goal.decreases-loop-byte
decreases-loop-byte l = length l.rest
