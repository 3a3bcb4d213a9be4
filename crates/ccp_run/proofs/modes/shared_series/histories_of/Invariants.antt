use Rattle.std.proofs.Common.{◌≡◌, ◌++◌, length, map}
use Rattle.std.specs.Vec.Iter.{into_iter_items, into_iter_len}
use Rattle.flow_core.specs.declared.book.Given.{Given}
use Rattle.ccp_run.proofs.modes.shared_series.histories_of.Given as goal

abbrev pub invariant-loop-given : goal.invariant-loop-given
invariant-loop-given l =
    (l.books ++ map (λ (given : Given). given.book) (into_iter_items l.given-iterator) ≡ map (λ (given : Given). given.book) l.fn.givens)
    × (l.acks ++ map (λ (given : Given). given.acks) (into_iter_items l.given-iterator) ≡ map (λ (given : Given). given.acks) l.fn.givens)
    × (into_iter_len l.given-iterator ≡ length (into_iter_items l.given-iterator))
