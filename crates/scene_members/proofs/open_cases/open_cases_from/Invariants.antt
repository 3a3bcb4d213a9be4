use Rattle.std.proofs.Common.{◌≡◌, ◌+◌, [], length, map}
use Rattle.serde_json.specs.View.{items_view}
use Rattle.scene_members.specs.Traces.{table_of}
use Rattle.scene_members.specs.Rollout.{open_cases_from}
use Rattle.scene_members.specs.OpenCases.{open_plan_of, AreOpenFlowsFrom, texts_of}
use Rattle.scene_members.proofs.open_cases.open_cases_from.Given as goal

abbrev pub invariant-loop-value : goal.invariant-loop-value
invariant-loop-value l =
    (open_cases_from (texts_of l.texts) (table_of l.traces.entries) (map open_plan_of l.cases) (items_view l.rest)
    ≡ open_cases_from (texts_of l.texts) (table_of l.traces.entries) [] (items_view l.values))
    × AreOpenFlowsFrom 0 l.cases
    × (length l.cases + length l.rest ≡ length l.values)

abbrev pub decreases-loop-value : goal.decreases-loop-value
decreases-loop-value l = length l.rest
