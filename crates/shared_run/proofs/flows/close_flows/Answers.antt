use Rattle.std.proofs.Common.{◌≡◌, ◌<◌, Some, slice_get, sym, List, [], ◌∷◌, ◌++◌, length, map, arith, rules, ap, ◌∙◌}
use Rattle.std.proofs.lemmas.List.{map-append}
use Rattle.std.specs.Vec.Iter.{into_iter_items}
use Rattle.std.proofs.lemmas.Option.{same_Some}
use Rattle.campaign_core.specs.declared.tallied_flow.TalliedFlow.{TalliedFlow}
use Rattle.shared_rounds.specs.KnownFlows.{FlowRound}
use Rattle.shared_rounds.proofs.RoundsLemmas.{taken_on}
use Rattle.shared_run.proofs.KeptLemmas.{closed_in}
use Rattle.shared_run.proofs.flows.close_flows.Goals as goal

pub loop-flow-preserved : goal.loop-flow-preserved
loop-flow-preserved g c =
    let l = c.loop-flow in
    let all = closed_in g.F.GivenFlow.at g.C.CaseCourse.link g.C.CaseCourse.cases c.args.round in
    let flow = c.in_ok-close_flow.field-0 in
    let is : into_iter_items l.flow-iterator ≡ c.in-Some.flow ∷ into_iter_items c.next.new.self = c.in-Some.ensures.steps.0 in
    let shorter = ap (λ (xs : List _). length xs) is in
    let known = c.args.known.now in
    let place = c.at.result.now in
    let all_known = c.requires.all in
    let flows = c.requires.flows in
    let less : l.number < length known = omega (arith, shorter, l.invariant.1, all_known, flows) in
    let same : (place.number, place.round) ≡ (l.number, c.args.round) =
    same_Some (place.number, place.round) (l.number, c.args.round) (sym c.at.ensures ∙ c.requires.known l.number less) in
    let closed : slice_get (closed_in g.F.GivenFlow.at g.C.CaseCourse.link g.C.CaseCourse.cases c.args.round) l.number ≡ Some (flow.flow, flow.tally) =
    ap (λ (f : FlowRound). slice_get (closed_in g.F.GivenFlow.at g.C.CaseCourse.link g.C.CaseCourse.cases f.1) f.0) (sym same) ∙ c.in_ok-close_flow.ensures in
    let pushed : c.push.new.self.items ≡ l.closed.items ++ flow ∷ [] = search rules in
    let kept = ap (map (λ (shared : TalliedFlow g.row.F.Denot). (shared.flow, shared.tally))) pushed ∙ map-append (λ (shared : TalliedFlow g.row.F.Denot). (shared.flow, shared.tally)) l.closed.items (flow ∷ []) in (
      taken_on all (map (λ (shared : TalliedFlow g.row.F.Denot). (shared.flow, shared.tally)) l.closed.items) (map (λ (shared : TalliedFlow g.row.F.Denot). (shared.flow, shared.tally)) c.push.new.self.items) l.number
          (flow.flow, flow.tally) l.invariant.0 kept closed,
      omega (arith, shorter, l.invariant.1),
      omega (arith, shorter, c.in-Some.ensures.steps.1, l.invariant.2),
    )

pub at-requires : goal.at-requires
at-requires g c =
    let l = c.loop-flow in
    let is : into_iter_items l.flow-iterator ≡ c.in-Some.flow ∷ into_iter_items c.next.new.self = c.in-Some.ensures.steps.0 in
    let shorter = ap (λ (xs : List _). length xs) is in
    let all_known = c.requires.all in
    let flows = c.requires.flows in
    omega (arith, shorter, l.invariant.1, all_known, flows)
