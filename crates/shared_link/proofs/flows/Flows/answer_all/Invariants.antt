use Rattle.std.proofs.Common.{◌≡◌, ℕ, ◌+◌, ◌-◌, ◌<◌, ◌≤◌, List, length, get_or, vec_capacity}
use Rattle.link_model.specs.Link.{GivenAck}
use Rattle.shared_link.specs.declared.flow_traffic.FlowTraffic.{FlowTraffic}
use Rattle.shared_link.specs.SharedRounds.{Sent, flow_link_at}
use Rattle.shared_link.specs.Reached.{Settled}
use Rattle.shared_link.specs.Kept.{FlowsFollow, IsFlowReady, AnsweredTo}
use Rattle.shared_link.proofs.flows.Flows.answer_all.Given as goal

abbrev pub invariant-loop-flow : goal.invariant-loop-flow
invariant-loop-flow l =
    (l.flow ≤ length l.self.traffic.items)
    × (length l.self.traffic.items ≡ length l.fn.self.traffic.items)
    × (length l.answers.items ≡ l.flow)
    × (vec_capacity l.answers ≡ vec_capacity l.fn.answers)
    × ((flow : ℕ) (other : FlowTraffic) → flow < l.flow → IsFlowReady (flow_link_at l.case flow) (l.rounds + 1) (get_or l.self.traffic.items flow other))
    × ((flow : ℕ) (other : FlowTraffic) → l.flow ≤ flow → flow < length l.self.traffic.items → get_or l.self.traffic.items flow other ≡ get_or l.fn.self.traffic.items flow other)
    × ((now : ℕ) (sent : List Sent) (givens : ℕ → List GivenAck) → Settled l.case now sent givens → FlowsFollow l.case l.fn.self.traffic.items sent givens
    → AnsweredTo l.case l.asks l.end l.self.traffic.items l.answers.items l.flow sent givens)

abbrev pub decreases-loop-flow : goal.decreases-loop-flow
decreases-loop-flow l = length l.self.traffic.items - l.flow
