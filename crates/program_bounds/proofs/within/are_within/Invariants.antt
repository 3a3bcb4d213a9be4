use Rattle.std.proofs.Common.{ℕ, ◌<◌}
use Rattle.std.specs.Prelude.{slice_index_or}
use Rattle.value_ranges.specs.declared.range.Range.{Range}
use Rattle.value_ranges.specs.Ranges.{IsIn}
use Rattle.program_bounds.proofs.within.are_within.Given as goal

abbrev pub invariant-loop-i : goal.invariant-loop-i
invariant-loop-i l = (j : ℕ) (past : Range) (n : ℕ) → j < l.i → IsIn (slice_index_or l.small j past) n → IsIn (slice_index_or l.large j past) n
