use Rattle.std.proofs.Common.{rules, ◌≡◌, ◌+◌, length, length-append, arith, [], ◌∷◌, ◌∙◌, sym, ap}
use Rattle.shared_rounds.proofs.KnownLemmas.{known-pushed}
use Rattle.shared_rounds.proofs.flows.know_flows.Goals as goal

pub loop-flow-preserved : goal.loop-flow-preserved
loop-flow-preserved g c =
    let l = c.loop-flow in
    let flow = c.in_ok-know_locked.field-0 in
    let count = l.invariant.1 in
    let all = l.invariant.2 in
    let known = c.in_ok-know_locked.ensures in
    let same : (flow.number, flow.round) ≡ (length l.known, 0) = λ i. ((known.number ∙ sym count) i, known.round i) in
    let pushed = c.in_ok-push.ensures in
    let long = ap (λ (k : _). length k) pushed ∙ length-append l.known ((flow.number, flow.round) ∷ []) in
    let fewer : l.number + 1 + length c.in-Some.later.now ≡ length c.args.flows.now = search rules in
    (known-pushed l.known (flow.number, flow.round) c.push.new.self l.invariant.0 same pushed, omega (arith, long, count), fewer)
