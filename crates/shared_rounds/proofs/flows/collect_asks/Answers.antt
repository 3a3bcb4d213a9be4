use Rattle.std.proofs.Common.{rules, ◌≡◌, Some, [], ◌∷◌, ◌++◌, slice_get, sym, ap, ◌∙◌}
use Rattle.std.proofs.lemmas.Option.{slice_get_within, same_Some}
use Rattle.shared_rounds.specs.KnownFlows.{FlowRound}
use Rattle.shared_rounds.proofs.RoundsLemmas.{taken_on}
use Rattle.shared_rounds.proofs.flows.collect_asks.Goals as goal

pub loop-number-preserved : goal.loop-number-preserved
loop-number-preserved g c =
    let l = c.loop-number in
    let link = g.C.Course.link in
    let asks = g.C.Course.asks in
    let known = c.args.known.now in
    let flow = c.at.result.now in
    let within = slice_get_within known l.number (flow.number, flow.round) c.at.ensures in
    let same : (flow.number, flow.round) ≡ (l.number, c.args.round) =
    same_Some (flow.number, flow.round) (l.number, c.args.round) (sym c.at.ensures ∙ c.requires.known l.number within) in
    let asked : slice_get (asks c.args.round) l.number ≡ Some c.ask.result =
    ap (λ (f : FlowRound). slice_get (asks f.1) f.0) (sym same) ∙ c.ask.ensures in
    let pushed : c.push.new.self.items ≡ l.asks.items ++ c.ask.result ∷ [] = search rules in
    taken_on (asks c.args.round) l.asks.items c.push.new.self.items l.number c.ask.result l.invariant pushed asked
