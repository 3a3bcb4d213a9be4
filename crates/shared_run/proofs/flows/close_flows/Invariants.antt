use Rattle.std.proofs.Common.{◌≡◌, ◌+◌, take, length, map}
use Rattle.std.specs.Vec.Iter.{into_iter_items, into_iter_len}
use Rattle.shared_run.specs.Courses.{flows_after}
use Rattle.shared_run.proofs.KeptLemmas.{closed_in}
use Rattle.shared_run.proofs.flows.close_flows.Given as goal

abbrev pub invariant-loop-flow : goal.invariant-loop-flow
invariant-loop-flow g l =
    (map (λ shared. (shared.flow, shared.tally)) l.closed.items ≡ take l.number (closed_in g.F.GivenFlow.at g.C.CaseCourse.link g.C.CaseCourse.cases l.round))
    × (l.number + length (into_iter_items l.flow-iterator) ≡ length (flows_after g.C.CaseCourse.link g.C.CaseCourse.cases l.round))
    × (into_iter_len l.flow-iterator ≡ length (into_iter_items l.flow-iterator))
