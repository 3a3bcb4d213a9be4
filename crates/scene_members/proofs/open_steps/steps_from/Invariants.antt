use Rattle.std.proofs.Common.{◌≡◌, ◌+◌, [], length}
use Rattle.serde_json.specs.View.{items_view}
use Rattle.scene_members.specs.Rollout.{steps_from}
use Rattle.scene_members.specs.OpenCases.{texts_of}
use Rattle.scene_members.proofs.open_steps.steps_from.Given as goal

abbrev pub invariant-loop-value : goal.invariant-loop-value
invariant-loop-value l =
    (steps_from (texts_of l.texts) l.i l.steps (items_view l.rest) ≡ steps_from (texts_of l.texts) l.i [] (items_view l.values))
    × (length l.steps + length l.rest ≡ length l.values)

abbrev pub decreases-loop-value : goal.decreases-loop-value
decreases-loop-value l = length l.rest
