use Rattle.std.proofs.Common.{◌≡◌, ℕ, ◌-◌, ◌*◌, ◌≤◌, List, length}
use Rattle.link_model.specs.Link.{GivenAck, acked_of}
use Rattle.link_model.specs.Counts.{most_packets, lost_of}
use Rattle.shared_link.specs.SharedRounds.{Sent, own_packets, own_flight, sum_over_flows}
use Rattle.shared_link.specs.Kept.{FlowsFollow}
use Rattle.shared_link.proofs.flows.Flows.counts.Given as goal

abbrev pub invariant-loop-flow : goal.invariant-loop-flow
invariant-loop-flow l =
    (l.flow ≤ length l.self.traffic.items)
    × (l.sent ≤ most_packets * l.flow)
    × (l.acked ≤ most_packets * l.flow)
    × (l.lost ≤ most_packets * l.flow)
    × (l.inflight ≤ most_packets * l.flow)
    × ((sent : List Sent) (givens : ℕ → List GivenAck) → FlowsFollow l.case l.self.traffic.items sent givens → l.sent ≡ sum_over_flows l.flow (λ flow. length (own_packets flow sent)))
    × ((sent : List Sent) (givens : ℕ → List GivenAck) → FlowsFollow l.case l.self.traffic.items sent givens → l.acked ≡ sum_over_flows l.flow (λ flow. acked_of (givens flow)))
    × ((sent : List Sent) (givens : ℕ → List GivenAck) → FlowsFollow l.case l.self.traffic.items sent givens → l.lost ≡ sum_over_flows l.flow (λ flow. lost_of (givens flow)))
    × ((sent : List Sent) (givens : ℕ → List GivenAck) → FlowsFollow l.case l.self.traffic.items sent givens → l.inflight ≡ sum_over_flows l.flow (λ flow. length (own_flight flow sent (givens flow))))

abbrev pub decreases-loop-flow : goal.decreases-loop-flow
decreases-loop-flow l = length l.self.traffic.items - l.flow
