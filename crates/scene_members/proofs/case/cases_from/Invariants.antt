use Rattle.std.proofs.Common.{◌≡◌, ◌+◌, [], length}
use Rattle.std.specs.List.{All}
use Rattle.serde_json.specs.View.{items_view}
use Rattle.agent_core.specs.Kinds.{built_in_count}
use Rattle.scene_members.specs.CaseWalk.{cases_from}
use Rattle.scene_members.specs.Traces.{table_of}
use Rattle.scene_members.specs.Plans.{IsPlan, IsStart}
use Rattle.scene_members.proofs.case.cases_from.Given as goal

abbrev pub invariant-loop-value : goal.invariant-loop-value
invariant-loop-value l =
    (cases_from l.mode l.names (table_of l.traces.entries) l.plans (items_view l.rest) ≡ cases_from l.mode l.names (table_of l.traces.entries) [] (items_view l.values))
    × All (IsPlan (length l.names + built_in_count)) l.plans
    × All (λ p. IsStart l.mode p.start_us) l.plans
    × (length l.plans + length l.rest ≡ length l.values)

abbrev pub decreases-loop-value : goal.decreases-loop-value
decreases-loop-value l = length l.rest
