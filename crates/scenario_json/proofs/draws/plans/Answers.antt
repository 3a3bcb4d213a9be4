use Rattle.std.proofs.Common.{rules, arith, ◌≡◌, ◌+◌, ◌-◌, ◌<◌, [], ◌∷◌, ◌++◌, length, sym, ap, ◌∙◌, subst}
use Rattle.std.proofs.lemmas.List.{length-append}
use Rattle.std.proofs.lemmas.List.Elements.{All-push}
use Rattle.std.specs.List.{All}
use Rattle.agent_core.specs.Kinds.{built_in_count}
use Rattle.scene_members.specs.Plans.{IsPlan}
use Rattle.scenario_json.specs.Soak.{drawn_plan, drawn_plans}
use Rattle.scenario_json.proofs.DrawLemmas.{plans_done, plans_more}
use Rattle.scenario_json.proofs.draws.plans.Goals as goal

pub loop-left-preserved : goal.loop-left-preserved
loop-left-preserved c =
    let l = c.loop-left in
    let plan = c.in_ok-next.next in
    let x = c.plan.new.draws.x in
    let pushed : c.push.new.self ≡ l.plans ++ plan ∷ [] = search rules in
    let drawn : (plan, x) ≡ drawn_plan (length l.plans) l.draws.x = search rules in
    let some : 0 < l.left = search rules in
    let longer : length c.push.new.self ≡ length l.plans + 1 = ap length pushed ∙ length-append l.plans (plan ∷ []) in (
      ap (λ plans. drawn_plans (l.left - 1) plans x) pushed
          ∙ ap (λ next. drawn_plans (l.left - 1) (l.plans ++ next.0 ∷ []) next.1) drawn
          ∙ sym (plans_more l.left l.plans l.draws.x some) ∙ l.invariant.0,
      subst (λ plans. All (IsPlan built_in_count) plans) (sym pushed) (All-push (IsPlan built_in_count) l.plans plan l.invariant.1 c.in_ok-next.ensures.within),
      omega (arith, longer, some, l.invariant.2),
    )

pub returns-clause-drawn : goal.returns-clause-drawn
returns-clause-drawn c =
    let l = c.loop-left in
    let none : l.left ≡ 0 = search rules in
    sym (plans_done l.plans l.draws.x) ∙ ap (λ left. drawn_plans left l.plans l.draws.x) (sym none) ∙ l.invariant.0
