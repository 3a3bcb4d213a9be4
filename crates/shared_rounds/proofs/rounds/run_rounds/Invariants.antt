use Rattle.std.proofs.Common.{◌≡◌, ◌+◌, ◌≤◌, ◌-◌, length}
use Rattle.shared_rounds.specs.Rounds.{StandsAfter, GoesOn}
use Rattle.shared_rounds.specs.KnownFlows.{AreKnown}
use Rattle.shared_rounds.proofs.rounds.run_rounds.Given as goal

abbrev pub invariant-loop-done : goal.invariant-loop-done
invariant-loop-done g l =
    StandsAfter g.C.Course.link g.C.Course.asks l.done l.desk.link
    × (l.desk.asks.items ≡ g.C.Course.asks l.done)
    × GoesOn g.C.Course.asks (l.done + 1)
    × (l.done ≤ l.most)
    × (1 ≤ length l.handles)
    × (length l.desk.known ≡ g.C.Course.flows)
    × AreKnown l.desk.known l.done

abbrev pub decreases-loop-done : goal.decreases-loop-done
decreases-loop-done g l = l.most - l.done
