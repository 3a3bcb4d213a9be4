use Rattle.std.proofs.Common.{◌≡◌, ◌+◌, ◌≤◌, min, length, vec_capacity}
use Rattle.shared_link.specs.Kept.{answered_in, answered_all, IsFlowKept}
use Rattle.shared_link.proofs.flow_traffic.FlowTraffic.answer.Given as goal

abbrev pub invariant-loop-left : goal.invariant-loop-left
invariant-loop-left l =
    IsFlowKept l.link l.self
    × (answered_all l.link l.end l.left (answered_in l.self) ≡ answered_all l.link l.end l.fn.left (answered_in l.fn.self))
    × (l.self.sent ≡ l.fn.self.sent)
    × (length l.self.acks.items + min l.left l.self.in_flight ≤ vec_capacity l.self.acks)

abbrev pub decreases-loop-left : goal.decreases-loop-left
decreases-loop-left l = l.left
