use Rattle.std.proofs.Common.{◌≡◌, ◌+◌}
use Rattle.link_model.specs.LinkMoves.{standing_in, sending}
use Rattle.link_model.specs.Horizon.{IsKept}
use Rattle.link_model.proofs.traffic.Traffic.send.Given as goal

abbrev pub invariant-loop-left : goal.invariant-loop-left
invariant-loop-left l =
    (sending l.case l.left (standing_in l.case.trace l.self) ≡ sending l.case l.more (standing_in l.case.trace l.fn.self))
    × IsKept l.case l.self
    × (l.self.in_flight + l.left ≡ l.fn.self.in_flight + l.more)
    × (l.self.sent + l.left ≡ l.fn.self.sent + l.more)
    × (l.self.flight.taken ≡ l.fn.self.flight.taken)
    × (l.self.calls ≡ l.fn.self.calls)

abbrev pub decreases-loop-left : goal.decreases-loop-left
decreases-loop-left l = l.left
