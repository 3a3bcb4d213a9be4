use Rattle.std.proofs.Common.{◌≡◌, ℕ, ◌<◌, ◌≤◌, List, length}
use Rattle.std.specs.Prelude.{slice_index, slice_index_or}
use Rattle.value_ranges.specs.declared.range.Range.{Range}
use Rattle.value_ranges.specs.Ranges.{IsIn}
use Rattle.portus_core.specs.OneAcknowledgement.{reset}
use Rattle.range_cases.specs.Cases.{AreIn}
use Rattle.program_bounds.proofs.settle.reset.Given as goal

abbrev pub invariant-loop-i : goal.invariant-loop-i
invariant-loop-i l = record {
  long : length l.decls ≤ length l.ranges;
  done : (values : List ℕ) → length values ≡ length l.decls → AreIn l.initial.ranges (slice_index values)
      → (j : ℕ) (past : Range) → IsIn past 0 → j < l.i → IsIn (slice_index_or l.ranges j past) (slice_index (reset l.decls values) j);
  left : (values : List ℕ) → AreIn l.initial.ranges (slice_index values)
      → (j : ℕ) (past : Range) → IsIn past 0 → l.i ≤ j → IsIn (slice_index_or l.ranges j past) (slice_index values j);
}
