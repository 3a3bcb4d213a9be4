use Rattle.std.proofs.Common.{◌≡◌, ◌+◌, ◌≤◌, ◌<◌, ℕ, Some, length, slice_get}
use Rattle.shared_rounds.specs.Rounds.{acks_in_round}
use Rattle.shared_rounds.specs.Orders.{order_of}
use Rattle.shared_rounds.specs.KnownFlows.{StayKnown, IsDone}
use Rattle.shared_rounds.proofs.worker_handle.do_all_here.Given as goal

abbrev pub invariant-loop-left : goal.invariant-loop-left
invariant-loop-left g l =
    (length l.orders ≡ length l.fn.orders)
    × (l.left ≤ length l.fn.orders)
    × ((worker : ℕ) → worker < l.left → slice_get l.orders worker ≡ Some (order_of (length l.fn.orders) worker l.round (acks_in_round g.C.Course.link g.C.Course.asks l.round)))
    × ((worker : ℕ) → l.left ≤ worker → worker < length l.fn.orders → IsDone (length l.fn.orders) l.round (acks_in_round g.C.Course.link g.C.Course.asks l.round) l.desk.known worker)
    × StayKnown (l.round + 1) l.fn.desk.known l.desk.known
    × (length l.desk.known ≡ length l.fn.desk.known)
    × (l.desk.link ≡ l.fn.desk.link)

abbrev pub decreases-loop-left : goal.decreases-loop-left
decreases-loop-left g l = l.left
