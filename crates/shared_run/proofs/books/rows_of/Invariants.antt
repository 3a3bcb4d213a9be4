use Rattle.std.proofs.Common.{length, map}
use Rattle.shared_run.proofs.BookLemmas.{LeavesRows}
use Rattle.shared_run.proofs.books.rows_of.Given as goal

abbrev pub invariant-loop-flow : goal.invariant-loop-flow
invariant-loop-flow g l =
    LeavesRows g.F.GivenFlow.at (map (λ shared. (shared.flow, shared.tally)) l.flows) (map (λ shared. (shared.flow, shared.tally)) l.rest) l.rows

abbrev pub decreases-loop-flow : goal.decreases-loop-flow
decreases-loop-flow g l = length l.rest
