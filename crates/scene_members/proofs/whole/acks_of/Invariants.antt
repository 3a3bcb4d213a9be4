use Rattle.std.proofs.Common.{◌≡◌, ◌+◌, ◌*◌, ◌≤◌, length}
use Rattle.scene_members.specs.Whole.{total_acks}
use Rattle.scene_members.proofs.whole.acks_of.Given as goal

abbrev pub invariant-loop-plan : goal.invariant-loop-plan
invariant-loop-plan l =
    (l.total + total_acks l.rest ≡ total_acks l.plans) × (l.total + 4294967296 * length l.rest ≤ 4294967296 * 1024)

abbrev pub decreases-loop-plan : goal.decreases-loop-plan
decreases-loop-plan l = length l.rest
