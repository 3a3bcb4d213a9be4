use Rattle.std.proofs.Common.{◌≡◌, length, map}
use Rattle.std.specs.Vec.Iter.{into_iter_items, into_iter_len}
use Rattle.shared_run.proofs.BookLemmas.{AreDone}
use Rattle.shared_run.proofs.books.givens_of.Given as goal

abbrev pub invariant-loop-flow : goal.invariant-loop-flow
invariant-loop-flow l =
    AreDone (map (λ shared. shared.flow) l.fn.flows.items) (map (λ shared. shared.flow) (into_iter_items l.flow-iterator)) l.givens
    × (into_iter_len l.flow-iterator ≡ length (into_iter_items l.flow-iterator))
