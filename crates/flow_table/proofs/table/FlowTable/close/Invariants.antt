use Rattle.std.proofs.Common.{◌≡◌, ◌++◌, length, map}
use Rattle.flow_table.proofs.table.FlowTable.close.Given as goal

abbrev pub invariant-loop-alloc : goal.invariant-loop-alloc
invariant-loop-alloc g l = map g.F.LockedFlow.case_of l.flows ++ map (λ locked. locked.case) l.left.items ≡ l.fn.self

abbrev pub decreases-loop-alloc : goal.decreases-loop-alloc
decreases-loop-alloc g l = length l.left.items
