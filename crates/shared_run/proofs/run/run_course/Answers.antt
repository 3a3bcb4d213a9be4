use Rattle.std.proofs.Common.{◌≡◌, ◌≤◌, ℕ, List, map, length, arith, sym, ap, ◌∙◌, subst}
use Rattle.std.proofs.lemmas.List.{length-map}
use Rattle.flow_core.specs.declared.case.Case.{Case}
use Rattle.flow_core.specs.Cores.{CoreState}
use Rattle.scene_core.specs.CasePlans.{plan_of, flow_link_of, link_at_once}
use Rattle.shared_run.specs.SharedHistory.{round_limit}
use Rattle.shared_rounds.specs.Rounds.{HasEnded}
use Rattle.shared_run.specs.Courses.{asks_in}
use Rattle.shared_run.specs.RoundFlows.{kept_at}
use Rattle.shared_run.specs.CourseLaws.{flows_count}
use Rattle.shared_run.proofs.RunLemmas.{most-few, flows-are, counts-are}
use Rattle.shared_run.proofs.run.run_course.Goals as goal

pub run_by_workers-requires-clause-begins : goal.run_by_workers-requires-clause-begins
run_by_workers-requires-clause-begins g c κs held =
    let link = g.C.CaseCourse.link in
    let cases = g.C.CaseCourse.cases in
    let most : c.most_of-most.result ≡ round_limit g.C.CaseCourse.cases c.args.most =
    c.most_of-most.ensures ∙ ap (λ (list : List Case). round_limit list c.args.most) (c.as_slice.ensures ∙ c.requires.cases) in
    let flows_are = ap (λ (list : List _). length list) c.as_slice-2.ensures.value in
    let bells_are = ap (λ (list : List _). length list) c.as_slice-3.ensures.value in
    let opened = c.in_ok-link.ensures in
    let flows = opened.flows in
    let bells = opened.bells in
    let most_workers : c.args.workers.count ≤ 32 = c.args.workers.most in
    let few = c.requires.few in
    record {
      has_workers = omega (arith, bells_are, bells);
      few_workers = omega (arith, bells_are, bells, most_workers);
      all_flows = flows_are ∙ flows;
      few_flows = omega (arith, flows_are, flows, few);
      links = sym (length-map link.flows link_at_once) ∙ ap length c.requires.links ∙ length-map (map plan_of cases) flow_link_of ∙ length-map cases plan_of;
      stands = c.in_ok-link.ensures.stands;
      few_rounds = subst (λ (n : ℕ). n ≤ 10000) (sym most) (most-few cases c.args.most c.requires.rounds);
    }

pub close_flows-requires-clause-all : goal.close_flows-requires-clause-all
close_flows-requires-clause-all g c = c.in_ok-end.ensures.over.count_is ∙ sym c.in_ok-link.ensures.flows

pub close_flows-requires-clause-known : goal.close_flows-requires-clause-known
close_flows-requires-clause-known g c = c.in_ok-end.ensures.over.all_known

pub close_flows-requires-clause-flows : goal.close_flows-requires-clause-flows
close_flows-requires-clause-flows g c =
    c.in_ok-link.ensures.flows ∙ sym (flows_count g.C.CaseCourse.link g.C.CaseCourse.cases c.in_ok-end.end.rounds)

pub returns-clause-flows : goal.returns-clause-flows
returns-clause-flows g c =
    let link = g.C.CaseCourse.link in
    let cases = g.C.CaseCourse.cases in
    let end = c.in_ok-end.end in
    let most : c.most_of-most.result ≡ round_limit cases c.args.most =
    c.most_of-most.ensures ∙ ap (λ (list : List Case). round_limit list c.args.most) (c.as_slice.ensures ∙ c.requires.cases) in
    let ended : HasEnded link (asks_in link cases) (round_limit cases c.args.most) end.rounds end.link =
    subst (λ (n : ℕ). HasEnded link (asks_in link cases) n end.rounds end.link) most c.in_ok-end.ensures.over.ended in
    c.in_ok-flows.ensures ∙ ap (λ (cores : List CoreState). map (kept_at g.F.GivenFlow.at) cores) (flows-are link cases c.args.most end.rounds end.link ended)

pub returns-clause-counts : goal.returns-clause-counts
returns-clause-counts g c =
    let link = g.C.CaseCourse.link in
    let cases = g.C.CaseCourse.cases in
    let end = c.in_ok-end.end in
    let most : c.most_of-most.result ≡ round_limit cases c.args.most =
    c.most_of-most.ensures ∙ ap (λ (list : List Case). round_limit list c.args.most) (c.as_slice.ensures ∙ c.requires.cases) in
    let ended : HasEnded link (asks_in link cases) (round_limit cases c.args.most) end.rounds end.link =
    subst (λ (n : ℕ). HasEnded link (asks_in link cases) n end.rounds end.link) most c.in_ok-end.ensures.over.ended in
    counts-are link cases c.args.most end.rounds end.link ended c.counts-counts.result c.counts-counts.ensures
