use Rattle.std.proofs.Common.{◌≡◌, ◌++◌, length, map}
use Rattle.flow_table.proofs.table.FlowTable.new.Given as goal

abbrev pub invariant-loop-alloc : goal.invariant-loop-alloc
invariant-loop-alloc g l = map (λ locked. locked.case) l.flows.items ++ l.left.items ≡ l.fn.cases

abbrev pub decreases-loop-alloc : goal.decreases-loop-alloc
decreases-loop-alloc g l = length l.left.items
