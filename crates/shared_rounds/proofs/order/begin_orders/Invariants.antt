use Rattle.std.proofs.Common.{◌≡◌}
use Rattle.shared_rounds.proofs.OrderLemmas.{AreOpen}
use Rattle.shared_rounds.proofs.order.begin_orders.Given as goal

abbrev pub invariant-loop-order : goal.invariant-loop-order
invariant-loop-order g l = (l.worker ≡ l.order-index) × AreOpen l.workers l.round l.worker l.orders
