-- Which values are in a range, and what covers the results of an operation.
use Rattle.std.specs.Prelude.{◌≡◌, ℕ, ◌≤◌, Option, Some, None, Result, Ok, Err}
use Rattle.ccp_base.specs.declared.arithmetic.FaultKind.{FaultKind}
use Rattle.value_ranges.specs.declared.range.Range.{Range}
use Rattle.value_ranges.specs.declared.range.Reach.{Reach}

-- the range has the value
pub record IsIn (range : Range) (n : ℕ) : Type 0 where
  pub above : range.lo ≤ n
  pub below : n ≤ range.hi

-- there is a range, and it has the value
abbrev pub HasValue : Option Range → ℕ → Type 0
HasValue (Some range) n = IsIn range n
HasValue None n = ⊥

-- a result is among those that were found: its value is in the range, or its fault is listed
abbrev pub Covers : Reach → Result ℕ FaultKind → Type 0
Covers reach (Ok n) = HasValue reach.values n
Covers reach (Err kind) = reach.fault ≡ Some kind

-- the results of an operation on any values of two ranges are among those that were found
abbrev pub CoversAll : Reach → (ℕ → ℕ → Result ℕ FaultKind) → Range → Range → Type 0
CoversAll reach operation a b = (x y : ℕ) → IsIn a x → IsIn b y → Covers reach (operation x y)
