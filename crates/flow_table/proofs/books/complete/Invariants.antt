use Rattle.std.proofs.Common.{◌≡◌}
use Rattle.flow_table.proofs.LedLemmas.{LeadsOn}
use Rattle.flow_table.proofs.books.complete.Given as goal

abbrev pub invariant-loop-alloc : goal.invariant-loop-alloc
invariant-loop-alloc g l = record {
  case : g.F.LockedFlow.case_of l.flow ≡ g.F.LockedFlow.case_of l.initial.flow;
  led : LeadsOn g.F.LockedFlow.HasNext l.initial.flow l.flow;
}

abbrev pub decreases-loop-alloc : goal.decreases-loop-alloc
decreases-loop-alloc g l = g.F.LockedFlow.letters l.flow
