use Rattle.std.proofs.Common.{◌≡◌, [], length}
use Rattle.std.specs.List.Sorted.{IsStrictlyIncreasing}
use Rattle.serde_json.specs.View.{items_view}
use Rattle.scene_members.specs.CaseWalk.{losses_from}
use Rattle.scene_members.proofs.case_losses.losses_from.Given as goal

abbrev pub invariant-loop-value : goal.invariant-loop-value
invariant-loop-value l =
    (losses_from l.i l.losses (items_view l.rest) ≡ losses_from l.i [] (items_view l.values))
    × IsStrictlyIncreasing l.losses

abbrev pub decreases-loop-value : goal.decreases-loop-value
decreases-loop-value l = length l.rest
