use Rattle.std.proofs.Common.{◌≡◌, ◌≤◌, ◌<◌, length, subst, ap, sym, ◌∙◌, arith}
use Rattle.link_model.specs.Link.{acked_of}
use Rattle.link_model.specs.Counts.{most_packets, lost_of}
use Rattle.link_model.specs.LinkMoves.{flight_count}
use Rattle.shared_link.specs.declared.flow_traffic.FlowTraffic.{FlowTraffic}
use Rattle.shared_link.specs.SharedRounds.{flow_link_at, own_packets, own_flight, sum_over_flows}
use Rattle.shared_link.specs.Kept.{flow_under_way, IsFlowReady}
use Rattle.shared_link.proofs.KeptLemmas.{kept-count}
use Rattle.shared_link.proofs.FlowsLemmas.{sum_more, counts_same}
use Rattle.shared_link.proofs.flows.Flows.counts.Goals as goal

pub gone-lost-requires : goal.gone-lost-requires
gone-lost-requires c =
    let case = c.args.case.now in
    let f = c.loop-flow.flow in
    let flows = c.args.self.now.traffic.items in
    let t = c.index-traffic.result.now in
    let within : f < length flows = omega (arith, c.loop-flow-test.true, c.len.ensures) in
    let ready = subst (λ (x : FlowTraffic). IsFlowReady (flow_link_at case f) c.args.rounds x) (sym c.index-traffic.ensures) (c.requires.ready.each f t within) in
    ready.kept.sum

pub loop-flow-preserved : goal.loop-flow-preserved
loop-flow-preserved c =
    let case = c.args.case.now in
    let f = c.loop-flow.flow in
    let flows = c.args.self.now.traffic.items in
    let t = c.index-traffic.result.now in
    let inv = c.loop-flow.invariant in
    let within : f < length flows = omega (arith, c.loop-flow-test.true, c.len.ensures) in
    let ready = subst (λ (x : FlowTraffic). IsFlowReady (flow_link_at case f) c.args.rounds x) (sym c.index-traffic.ensures) (c.requires.ready.each f t within) in
    let sent_few : t.sent ≤ most_packets = omega (arith, ready.sent, ready.kept.few, c.requires.rounds) in
    let sum = ready.kept.sum in (
      omega (arith, within),
      omega (arith, inv.1, sent_few),
      omega (arith, inv.2, sent_few, sum),
      omega (arith, inv.3, sent_few, c.gone-lost.ensures),
      omega (arith, inv.4, sent_few, sum),
      λ sent givens follows. sum_more f c.loop-flow.sent t.sent (λ flow. length (own_packets flow sent)) (inv.5 sent givens follows)
          (ap (λ s. s.sent) (ap flow_under_way c.index-traffic.ensures ∙ follows f t within)),
      λ sent givens follows. sum_more f c.loop-flow.acked t.acked (λ flow. acked_of (givens flow)) (inv.6 sent givens follows)
          (ap (λ s. s.acked) (ap flow_under_way c.index-traffic.ensures ∙ follows f t within)),
      λ sent givens follows. sum_more f c.loop-flow.lost c.gone-lost.result (λ flow. lost_of (givens flow)) (inv.7 sent givens follows)
          (c.gone-lost.ensures ∙ ap (λ s. s.gone) (ap flow_under_way c.index-traffic.ensures ∙ follows f t within)),
      λ sent givens follows. sum_more f c.loop-flow.inflight t.in_flight (λ flow. length (own_flight flow sent (givens flow))) (inv.8 sent givens follows)
          (ready.kept.count
          ∙ ap (λ s. flight_count s.flight.arrivals s.flight.lost) (ap flow_under_way c.index-traffic.ensures ∙ follows f t within)
          ∙ kept-count case.trace (flow_link_at case f) (own_packets f sent) (givens f)),
    )

pub returns : goal.returns
returns c = λ sent givens follows.
    let case = c.args.case.now in
    let inv = c.loop-flow.invariant in
    let all : c.loop-flow.flow ≡ length case.flows = omega (arith, c.loop-flow-test.false, c.len.ensures, inv.0, c.requires.ready.count) in
    counts_same _ _ _ _ _ _ _ _ _ _ c.from.ensures
    (inv.5 sent givens follows ∙ ap (λ k. sum_over_flows k (λ flow. length (own_packets flow sent))) all)
    (inv.6 sent givens follows ∙ ap (λ k. sum_over_flows k (λ flow. acked_of (givens flow))) all)
    (inv.7 sent givens follows ∙ ap (λ k. sum_over_flows k (λ flow. lost_of (givens flow))) all)
    (inv.8 sent givens follows ∙ ap (λ k. sum_over_flows k (λ flow. length (own_flight flow sent (givens flow)))) all)
