use Rattle.std.proofs.Common.{◌≡◌, ◌+◌, ◌≤◌, ◌<◌, ℕ, Some, false, length, map, slice_get}
use Rattle.shared_rounds.specs.Rounds.{acks_in_round}
use Rattle.shared_rounds.specs.Orders.{order_of, IsSameFront}
use Rattle.shared_rounds.specs.KnownFlows.{StayKnown, IsDone}
use Rattle.shared_rounds.proofs.worker_handle.hand_out_all.Given as goal

abbrev pub invariant-loop-worker : goal.invariant-loop-worker
invariant-loop-worker g l =
    (length l.orders ≡ length l.fn.orders)
    × (length l.handles ≡ length l.fn.orders)
    × ((worker : ℕ) → l.worker ≤ worker → worker < length l.fn.orders → slice_get l.orders worker ≡ Some (order_of (length l.fn.orders) worker l.round (acks_in_round g.C.Course.link g.C.Course.asks l.round)))
    × ((worker : ℕ) → l.first ≤ worker → worker < l.worker → slice_get (map (λ handle. handle.is_busy) l.handles) worker ≡ Some false → IsDone (length l.fn.orders) l.round (acks_in_round g.C.Course.link g.C.Course.asks l.round) l.desk.known worker)
    × IsSameFront l.first l.fn.orders l.orders
    × StayKnown (l.round + 1) l.fn.desk.known l.desk.known
    × (length l.desk.known ≡ length l.fn.desk.known)
    × (l.desk.link ≡ l.fn.desk.link)
