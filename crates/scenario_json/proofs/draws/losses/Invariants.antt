use Rattle.std.proofs.Common.{◌≡◌, ◌+◌, ◌*◌, ◌≤◌, []}
use Rattle.std.specs.Option.{ForSome}
use Rattle.std.specs.List.Sorted.{IsStrictlyIncreasing}
use Rattle.scenario_json.specs.Soak.{drawn_losses}
use Rattle.scene_members.specs.CaseWalk.{last_of}
use Rattle.scenario_json.proofs.draws.losses.Given as goal

abbrev pub invariant-loop-left : goal.invariant-loop-left
invariant-loop-left l =
    (drawn_losses l.left l.before l.losses l.draws.x ≡ drawn_losses l.count 0 [] l.initial.draws.x)
    × IsStrictlyIncreasing l.losses
    × ForSome (last_of l.losses) (λ b. b ≤ l.before)
    × (l.before + 550 * l.left ≤ 4400)

abbrev pub decreases-loop-left : goal.decreases-loop-left
decreases-loop-left l = l.left
