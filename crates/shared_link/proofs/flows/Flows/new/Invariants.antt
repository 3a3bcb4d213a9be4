use Rattle.std.proofs.Common.{◌≡◌, ℕ, ◌-◌, ◌<◌, ◌≤◌, [], length, get_or}
use Rattle.shared_link.specs.declared.flow_traffic.FlowTraffic.{FlowTraffic}
use Rattle.shared_link.specs.SharedRounds.{flow_link_at}
use Rattle.shared_link.specs.SharedStanding.{flow_standing}
use Rattle.shared_link.specs.Kept.{flow_under_way, IsFlowReady}
use Rattle.shared_link.proofs.flows.Flows.new.Given as goal

abbrev pub invariant-loop-flow : goal.invariant-loop-flow
invariant-loop-flow l =
    (l.flow ≤ length l.case.flows)
    × (length l.traffic.items ≡ l.flow)
    × ((flow : ℕ) (other : FlowTraffic) → flow < l.flow → IsFlowReady (flow_link_at l.case flow) 0 (get_or l.traffic.items flow other))
    × ((flow : ℕ) (other : FlowTraffic) → flow < l.flow → flow_under_way (get_or l.traffic.items flow other) ≡ flow_standing l.case.trace (flow_link_at l.case flow) [] [])

abbrev pub decreases-loop-flow : goal.decreases-loop-flow
decreases-loop-flow l = length l.case.flows - l.flow
