use Rattle.std.proofs.Common.{length}
use Rattle.campaign_gate.proofs.BookLemmas.{AreMade}
use Rattle.campaign_gate.proofs.calls.books_of.Given as goal

abbrev pub invariant-loop-flow : goal.invariant-loop-flow
invariant-loop-flow l = AreMade l.fn.flows l.flows l.books

abbrev pub decreases-loop-flow : goal.decreases-loop-flow
decreases-loop-flow l = length l.flows
