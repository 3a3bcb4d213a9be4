use Rattle.std.proofs.Common.{◌-◌, ◌≤◌, length}
use Rattle.shared_rounds.specs.Orders.{AreIdle}
use Rattle.shared_rounds.proofs.worker_handle.idle_at_front.Given as goal

abbrev pub invariant-loop-idle : goal.invariant-loop-idle
invariant-loop-idle g l = (l.idle ≤ length l.orders) × AreIdle l.idle l.orders

abbrev pub decreases-loop-idle : goal.decreases-loop-idle
decreases-loop-idle g l = length l.orders - l.idle
