use Rattle.std.proofs.Common.{◌≡◌, ◌+◌, drop, length}
use Rattle.std.specs.Vec.Iter.{into_iter_items, into_iter_len}
use Rattle.shared_run.proofs.flows.open_flows.Given as goal

abbrev pub invariant-loop-case : goal.invariant-loop-case
invariant-loop-case g l =
    (into_iter_items l.case-iterator ≡ drop l.number g.C.CaseCourse.cases)
    × (l.number + length (into_iter_items l.case-iterator) ≡ length g.C.CaseCourse.cases)
    × (length l.flows.items ≡ l.number)
    × (into_iter_len l.case-iterator ≡ length (into_iter_items l.case-iterator))
