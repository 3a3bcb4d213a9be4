use Rattle.std.proofs.Common.{◌≡◌, ◌++◌, length, map}
use Rattle.std.specs.List.{All}
use Rattle.flow_table.proofs.LedLemmas.{LeadOn}
use Rattle.flow_table.proofs.books.make_books.Given as goal

abbrev pub invariant-loop-alloc : goal.invariant-loop-alloc
invariant-loop-alloc g l = record {
  cases : map g.F.LockedFlow.case_in l.books ++ map g.F.LockedFlow.case_of l.left.items ≡ map g.F.LockedFlow.case_of l.fn.flows;
  whole : All g.F.LockedFlow.IsWhole l.books;
  led : LeadOn g.F.LockedFlow.HasNext l.fn.flows (map g.F.LockedFlow.flow_in l.books) l.left.items;
}

abbrev pub decreases-loop-alloc : goal.decreases-loop-alloc
decreases-loop-alloc g l = length l.left.items
