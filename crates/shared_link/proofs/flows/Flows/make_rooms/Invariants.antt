use Rattle.std.proofs.Common.{◌≡◌, ◌-◌, ◌≤◌, length, map}
use Rattle.shared_link.specs.Kept.{flow_under_way, AreReady, ArePrepared}
use Rattle.shared_link.proofs.flows.Flows.make_rooms.Given as goal

abbrev pub invariant-loop-flow : goal.invariant-loop-flow
invariant-loop-flow l =
    (l.flow ≤ length l.self.traffic.items)
    × AreReady l.case l.rounds l.self.traffic.items
    × ArePrepared l.case l.now l.asks l.flow l.self.traffic.items
    × (map flow_under_way l.self.traffic.items ≡ map flow_under_way l.fn.self.traffic.items)

abbrev pub decreases-loop-flow : goal.decreases-loop-flow
decreases-loop-flow l = length l.self.traffic.items - l.flow
