use Rattle.std.proofs.Common.{◌≡◌, ◌+◌, length}
use Rattle.std.specs.List.{All}
use Rattle.std.specs.Vec.Iter.{into_iter_items, into_iter_len}
use Rattle.scene_members.specs.Plans.{IsPlan}
use Rattle.scenario_json.proofs.SceneLemmas.{ArePut}
use Rattle.scenario_json.proofs.scenario.put_cases.Given as goal

abbrev pub invariant-loop-plan : goal.invariant-loop-plan
invariant-loop-plan l =
    ArePut l.programs l.fn.plans l.cases (into_iter_items l.plan-iterator) l.names
    × All (IsPlan (length l.programs)) (into_iter_items l.plan-iterator)
    × (length l.cases + length (into_iter_items l.plan-iterator) ≡ length l.fn.plans)
    × (into_iter_len l.plan-iterator ≡ length (into_iter_items l.plan-iterator))
