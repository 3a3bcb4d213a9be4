use Rattle.std.proofs.Common.{◌≡◌, ◌+◌, []}
use Rattle.std.specs.List.{All}
use Rattle.std.proofs.Common.{length}
use Rattle.ccp_base.specs.Limits.{most_flows}
use Rattle.agent_core.specs.Kinds.{built_in_count}
use Rattle.scene_members.specs.Plans.{IsPlan}
use Rattle.scenario_json.specs.Soak.{drawn_plans}
use Rattle.scenario_json.proofs.draws.plans.Given as goal

abbrev pub invariant-loop-left : goal.invariant-loop-left
invariant-loop-left l =
    (drawn_plans l.left l.plans l.draws.x ≡ drawn_plans most_flows [] l.number)
    × All (IsPlan built_in_count) l.plans × (length l.plans + l.left ≡ most_flows)

abbrev pub decreases-loop-left : goal.decreases-loop-left
decreases-loop-left l = l.left
