use Rattle.std.proofs.Common.{◌≡◌, ℕ, ◌<◌, length}
use Rattle.std.specs.Prelude.{slice_index_or}
use Rattle.value_ranges.specs.declared.range.Range.{Range}
use Rattle.value_ranges.specs.Ranges.{IsIn}
use Rattle.range_cases.proofs.cases.widen_all.Given as goal

abbrev pub invariant-loop-i : goal.invariant-loop-i
invariant-loop-i l = record {
  long : length l.ranges ≡ length l.others;
  own : (j : ℕ) (past : Range) (n : ℕ) → IsIn (slice_index_or l.initial.ranges j past) n → IsIn (slice_index_or l.ranges j past) n;
  others : (j : ℕ) (past : Range) (n : ℕ) → j < l.i → IsIn (slice_index_or l.others j past) n → IsIn (slice_index_or l.ranges j past) n;
}
