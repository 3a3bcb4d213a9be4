use Rattle.std.proofs.Common.{rules, arith, ◌≡◌, ◌+◌, List, Ok, [], ◌∷◌, ◌++◌, length, map, sym, ap, ◌∙◌, subst}
use Rattle.std.proofs.lemmas.List.{length-append}
use Rattle.serde_json.specs.View.{view, items_view}
use Rattle.scene_members.specs.declared.open_case.OpenCase.{OpenCase}
use Rattle.scene_members.specs.Traces.{table_of}
use Rattle.scene_members.specs.Rollout.{open_case_in, open_cases_from}
use Rattle.scene_members.specs.OpenCases.{open_plan_of, AreOpenFlowsFrom, texts_of}
use Rattle.scene_members.proofs.OpenLemmas.{open_pushed, open_flows_pushed}
use Rattle.scene_members.proofs.open_cases.open_cases_from.Goals as goal

pub loop-value-preserved : goal.loop-value-preserved
loop-value-preserved c =
    let l = c.loop-value in
    let one = c.in_ok-open_case_in.field-0 in
    let texts = texts_of c.args.texts.now in
    let traces = table_of c.args.traces.now.entries in
    let value = c.in-Some.value.now in
    let later = c.in-Some.later.now in
    let pushed : c.push.new.self ≡ l.cases ++ one ∷ [] = search rules in
    let rest : l.rest.now ≡ value ∷ later = search rules in
    let flow : one.flow ≡ length l.cases = search rules in
    let is : open_case_in texts traces (length l.cases) (view value) ≡ Ok (open_plan_of one) = search rules in
    let longer : length c.push.new.self ≡ length l.cases + 1 = ap length pushed ∙ length-append l.cases (one ∷ []) in
    let shorter = ap length rest in (
      ap (λ cs. open_cases_from texts traces (map open_plan_of cs) (items_view later)) pushed
          ∙ open_pushed texts traces l.cases one (view value) (items_view later) is
          ∙ sym (ap (λ vs. open_cases_from texts traces (map open_plan_of l.cases) (items_view vs)) rest) ∙ l.invariant.0,
      subst (λ (cs : List OpenCase). AreOpenFlowsFrom 0 cs) (sym pushed) (open_flows_pushed 0 l.cases one l.invariant.1 (omega (arith, flow))),
      omega (arith, longer, shorter, l.invariant.2),
    )
