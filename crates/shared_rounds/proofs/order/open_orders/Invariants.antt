use Rattle.std.proofs.Common.{◌≡◌, length}
use Rattle.shared_rounds.proofs.order.open_orders.Given as goal

abbrev pub invariant-loop-worker : goal.invariant-loop-worker
invariant-loop-worker g l = length l.orders.items ≡ l.worker
