use Rattle.std.proofs.Common.{◌≡◌, ◌+◌, ◌<◌, ℕ, length, map}
use Rattle.shared_rounds.specs.Rounds.{acks_in_round}
use Rattle.shared_rounds.specs.KnownFlows.{StayKnown, IsDone, AreDoneOrOut}
use Rattle.shared_rounds.proofs.worker_handle.take_back_all.Given as goal

abbrev pub invariant-loop-worker : goal.invariant-loop-worker
invariant-loop-worker g l =
    (length l.orders ≡ length l.fn.orders)
    × (length l.handles ≡ length l.fn.orders)
    × AreDoneOrOut (length l.fn.orders) l.round (acks_in_round g.C.Course.link g.C.Course.asks l.round) (map (λ handle. handle.is_busy) l.handles) l.desk.known l.worker
    × ((worker : ℕ) → worker < l.worker → IsDone (length l.fn.orders) l.round (acks_in_round g.C.Course.link g.C.Course.asks l.round) l.desk.known worker)
    × StayKnown (l.round + 1) l.fn.desk.known l.desk.known
    × (length l.desk.known ≡ length l.fn.desk.known)
    × (l.desk.link ≡ l.fn.desk.link)
