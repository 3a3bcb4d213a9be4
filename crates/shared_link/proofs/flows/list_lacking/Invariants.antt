use Rattle.std.proofs.Common.{◌-◌, ◌≤◌, length, vec_capacity}
use Rattle.shared_link.specs.KeptFlows.{AreLacking}
use Rattle.shared_link.proofs.flows.list_lacking.Given as goal

abbrev pub invariant-loop-flow : goal.invariant-loop-flow
invariant-loop-flow l =
    (l.flow ≤ length l.flows)
    × (length l.lacking.items ≤ l.flow)
    × (length l.flows ≤ vec_capacity l.lacking)
    × AreLacking l.flows l.flow l.lacking.items 0 0 (length l.lacking.items)

abbrev pub decreases-loop-flow : goal.decreases-loop-flow
decreases-loop-flow l = length l.flows - l.flow
