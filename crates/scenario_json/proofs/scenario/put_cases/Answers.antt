use Rattle.std.proofs.Common.{rules, arith, ◌≡◌, ◌+◌, List, ℕ, [], ◌∷◌, ◌++◌, length, sym, ap, ◌∙◌, subst}
use Rattle.std.proofs.lemmas.List.{length-append}
use Rattle.std.proofs.lemmas.List.Elements.{All-tail}
use Rattle.std.specs.List.{All}
use Rattle.std.specs.Vec.Iter.{into_iter_items}
use Rattle.flow_core.specs.declared.case.Case.{Case}
use Rattle.scene_members.specs.declared.plan.Plan.{Plan}
use Rattle.scene_members.specs.Plans.{IsPlan}
use Rattle.scene_core.specs.CasePlans.{plan_of, at_once}
use Rattle.scenario_json.specs.Cases.{IsCoded}
use Rattle.scenario_json.proofs.SceneLemmas.{ArePut, put_step}
use Rattle.scenario_json.proofs.scenario.put_cases.Goals as goal

pub loop-plan-preserved : goal.loop-plan-preserved
loop-plan-preserved c =
    let l = c.loop-plan in
    let programs = c.args.programs.now in
    let plan = c.in-Some.plan in
    let left = into_iter_items l.plan-iterator in
    let rest = into_iter_items c.next.new.self in
    let one = c.in_ok-case.field-0 in
    let named = l.names ++ plan.name ∷ [] in
    let done = l.cases ++ one ∷ [] in
    let is : left ≡ plan ∷ rest = c.in-Some.ensures.steps.0 in
    let cases : c.push.new.self ≡ done = search rules in
    let names : c.push-in-loop-plan.new.self ≡ named = search rules in
    let flow : one.flow ≡ length l.cases = search rules in
    let said : plan_of one ≡ at_once plan = c.in_ok-case.ensures.plan in
    let coded : IsCoded programs one = search rules in
    let put = put_step programs c.args.plans l.cases left rest plan one l.names is l.invariant.0 flow said coded in
    let within : All (IsPlan (length programs)) (plan ∷ rest) = subst (λ (plans : List Plan). All (IsPlan (length programs)) plans) is l.invariant.1 in
    let longer : length c.push.new.self ≡ length l.cases + 1 = ap length cases ∙ length-append l.cases (one ∷ []) in
    let shorter = ap length is in (
      subst (λ (ns : List (List ℕ)). ArePut programs c.args.plans c.push.new.self rest ns) (sym names)
          (subst (λ (cs : List Case). ArePut programs c.args.plans cs rest named) (sym cases) put),
      All-tail (IsPlan (length programs)) plan rest within,
      omega (arith, longer, shorter, l.invariant.2),
      omega (arith, shorter, c.in-Some.ensures.steps.1, l.invariant.3),
    )
