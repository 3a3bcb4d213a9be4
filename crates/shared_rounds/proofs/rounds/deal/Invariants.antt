use Rattle.std.proofs.Common.{◌≡◌, ◌+◌, take, drop, length}
use Rattle.std.specs.Vec.Iter.{drain_items}
use Rattle.shared_rounds.specs.Rounds.{acks_in_round}
use Rattle.shared_rounds.specs.Orders.{AreDealt}
use Rattle.shared_rounds.specs.KnownFlows.{AreKnownFrom}
use Rattle.shared_rounds.proofs.KnownLemmas.{AreRestedBelow}
use Rattle.shared_rounds.proofs.rounds.deal.Given as goal

abbrev pub invariant-loop-list : goal.invariant-loop-list
invariant-loop-list g l =
    (drain_items l.list-iterator ≡ drop l.number (acks_in_round g.C.Course.link g.C.Course.asks l.round))
    × (l.number + length (drain_items l.list-iterator) ≡ length (acks_in_round g.C.Course.link g.C.Course.asks l.round))
    × AreDealt l.workers l.round (take l.number (acks_in_round g.C.Course.link g.C.Course.asks l.round)) l.orders
    × (l.desk.link ≡ l.fn.desk.link)
    × (length l.desk.known ≡ length l.fn.desk.known)
    × AreKnownFrom l.number l.desk.known l.round
    × AreRestedBelow l.round l.workers (acks_in_round g.C.Course.link g.C.Course.asks l.round) l.number l.desk.known
