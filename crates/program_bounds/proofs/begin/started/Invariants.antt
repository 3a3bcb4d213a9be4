use Rattle.std.proofs.Common.{◌≡◌, ℕ, ◌<◌, ◌≤◌, List, length}
use Rattle.std.specs.Prelude.{slice_index, slice_index_or}
use Rattle.ccp_base.specs.declared.fields.FieldReg.TheVariants as reg
use Rattle.value_ranges.specs.declared.range.Range.{Range}
use Rattle.value_ranges.specs.Ranges.{IsIn}
use Rattle.program_bounds.specs.Premises.{IsStart, range_for, declared_values}
use Rattle.program_bounds.proofs.begin.started.Given as goal

abbrev pub invariant-loop-i : goal.invariant-loop-i
invariant-loop-i l = record {
  long : length l.ranges ≡ 64;
  done : (values : List ℕ) → ((i : ℕ) → IsStart (range_for (reg.Control i) l.starts) (λ value. value ≡ slice_index (declared_values l.decls) i) (slice_index values i))
      → (j : ℕ) (past : Range) → j < l.i → IsIn (slice_index_or l.ranges j past) (slice_index values j);
  left : (j : ℕ) (past : Range) → IsIn past 0 → l.i ≤ j → IsIn (slice_index_or l.ranges j past) 0;
}
