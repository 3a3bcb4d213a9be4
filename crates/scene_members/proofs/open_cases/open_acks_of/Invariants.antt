use Rattle.std.proofs.Common.{◌≡◌, ◌+◌, ◌*◌, ◌≤◌, length, map}
use Rattle.scene_members.specs.Rollout.{open_acks_of}
use Rattle.scene_members.specs.OpenCases.{open_plan_of}
use Rattle.scene_members.proofs.open_cases.open_acks_of.Given as goal

abbrev pub invariant-loop-case : goal.invariant-loop-case
invariant-loop-case l =
    (l.total + open_acks_of (map open_plan_of l.rest) ≡ open_acks_of (map open_plan_of l.cases))
    × (l.total + 4294967296 * length l.rest ≤ 4294967296 * 64)

abbrev pub decreases-loop-case : goal.decreases-loop-case
decreases-loop-case l = length l.rest
