use Rattle.std.proofs.Common.{rules, arith, ◌≡◌, ◌+◌, [], ◌∷◌, ◌++◌, length, sym, ap, ◌∙◌, subst}
use Rattle.std.proofs.lemmas.List.{length-append}
use Rattle.std.specs.List.{All}
use Rattle.serde_json.specs.View.{items_view}
use Rattle.agent_core.specs.Kinds.{built_in_count}
use Rattle.scene_members.specs.CaseWalk.{cases_from}
use Rattle.scene_members.specs.Traces.{table_of}
use Rattle.scene_members.specs.Plans.{IsPlan, IsStart}
use Rattle.scene_members.specs.declared.plan.Plan.{Plan}
use Rattle.scene_members.proofs.ListLemmas.{all_pushed}
use Rattle.scene_members.proofs.case.cases_from.Goals as goal

pub loop-value-preserved : goal.loop-value-preserved
loop-value-preserved c =
    let l = c.loop-value in
    let mode = c.args.mode in
    let names = c.args.names.now in
    let plan = c.in_ok-case_in.field-0 in
    let read = c.in_ok-case_in.ensures in
    let count = length names + built_in_count in
    let table = table_of c.args.traces.now.entries in
    let pushed : c.push.new.self ≡ l.plans ++ plan ∷ [] = search rules in
    let rest : l.rest.now ≡ c.in-Some.value.now ∷ c.in-Some.later.now = search rules in
    let longer : length c.push.new.self ≡ length l.plans + 1 = ap length pushed ∙ length-append l.plans (plan ∷ []) in
    let walked : cases_from mode names table c.push.new.self (items_view c.in-Some.later.now) ≡ cases_from mode names table [] (items_view c.args.values.now) = search rules in
    let shorter = ap length rest in (
      walked,
      subst (λ plans. All (IsPlan count) plans) (sym pushed) (all_pushed (IsPlan count) l.plans plan l.invariant.1 read.within),
      subst (λ plans. All (λ (p : Plan). IsStart mode p.start_us) plans) (sym pushed) (all_pushed (λ (p : Plan). IsStart mode p.start_us) l.plans plan l.invariant.2 read.start),
      omega (arith, longer, shorter, l.invariant.3),
    )
