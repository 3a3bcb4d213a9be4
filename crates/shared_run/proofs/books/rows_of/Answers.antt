use Rattle.std.proofs.Common.{◌≡◌, [], ◌∷◌, ◌++◌, map, rules, ap}
use Rattle.std.proofs.lemmas.List.{nil_from_length}
use Rattle.campaign_core.specs.declared.tallied_flow.TalliedFlow.{TalliedFlow}
use Rattle.shared_run.proofs.BookLemmas.{rows-first, rows-next, rows-last}
use Rattle.shared_run.proofs.books.rows_of.Goals as goal

pub loop-flow-init : goal.loop-flow-init
loop-flow-init g c =
    rows-first g.F.GivenFlow.at (map (λ (shared : TalliedFlow g.row.F.Denot). (shared.flow, shared.tally)) c.args.flows.now) c.new-rows.result c.new-rows.ensures

pub loop-flow-preserved : goal.loop-flow-preserved
loop-flow-preserved g c =
    let l = c.loop-flow in
    let flow = c.in-Some.flow.now in
    let later = c.in-Some.later.now in
    let split : l.rest.now ≡ flow ∷ later = c.in-Some.ensures.cases.0 in
    let pushed : c.push.new.self ≡ l.rows ++ c.row.result ∷ [] = search rules in
    rows-next g.F.GivenFlow.at (map (λ (shared : TalliedFlow g.row.F.Denot). (shared.flow, shared.tally)) c.args.flows.now)
    (map (λ (shared : TalliedFlow g.row.F.Denot). (shared.flow, shared.tally)) l.rest.now)
    (map (λ (shared : TalliedFlow g.row.F.Denot). (shared.flow, shared.tally)) later)
    flow.flow flow.tally l.rows c.row.result c.push.new.self c.row.ensures
    (ap (map (λ (shared : TalliedFlow g.row.F.Denot). (shared.flow, shared.tally))) split) pushed l.invariant

pub returns : goal.returns
returns g c =
    let l = c.loop-flow in
    let none : l.rest.now ≡ [] = nil_from_length l.rest.now c.in_default.ensures.cases in
    rows-last g.F.GivenFlow.at (map (λ (shared : TalliedFlow g.row.F.Denot). (shared.flow, shared.tally)) c.args.flows.now)
    (map (λ (shared : TalliedFlow g.row.F.Denot). (shared.flow, shared.tally)) l.rest.now) l.rows
    (ap (map (λ (shared : TalliedFlow g.row.F.Denot). (shared.flow, shared.tally))) none) l.invariant
