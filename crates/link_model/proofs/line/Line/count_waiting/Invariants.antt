use Rattle.std.proofs.Common.{◌≤◌, ◌-◌}
use Rattle.link_model.specs.Chances.{chance_number}
use Rattle.link_model.specs.Rings.{arrivals_in}
use Rattle.link_model.specs.Lines.{AreQueued}
use Rattle.link_model.proofs.line.Line.count_waiting.Given as goal

abbrev pub invariant-loop-from : goal.invariant-loop-from
invariant-loop-from l =
    (l.self.gone ≤ l.from) × (l.flight.taken ≤ l.from) × (l.from ≤ l.flight.put)
    × AreQueued l.case l.now (chance_number l.case.trace l.self.next.chance) l.from l.flight.taken l.flight.put (arrivals_in l.flight)

abbrev pub decreases-loop-from : goal.decreases-loop-from
decreases-loop-from l = l.flight.put - l.from
