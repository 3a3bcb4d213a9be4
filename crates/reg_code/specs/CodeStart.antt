-- The registers as a program starts, and as a change or an update writes them.
use Rattle.std.specs.Prelude.{ℕ, List, [], ◌∷◌, map, slice_set}
use Rattle.ccp_base.specs.declared.fields.FieldReg.{FieldReg}
use Rattle.ccp_base.specs.declared.fields.FieldReg.TheVariants as field
use Rattle.ccp_base.specs.FieldReg.{Pair}
use Rattle.reg_code.specs.declared.code.Code.{Code}
use Rattle.reg_code.specs.declared.code.Start.{Start}
use Rattle.reg_code.specs.CodeStep.{Kept}

-- one value is written
abbrev pub with_value : FieldReg → ℕ → Kept → Kept
with_value field.Cwnd value kept = record kept { cwnd = value }
with_value field.Rate value kept = record kept { rate = value }
with_value (field.Control i) value kept = record kept { controls = slice_set kept.controls i value }

-- values are written in order, so of two for one register the last one counts
abbrev pub with_values : List Pair → Kept → Kept
with_values [] kept = kept
with_values (pair ∷ rest) kept = with_values rest (with_value pair.0 pair.1 kept)

-- every register with its start value; `now` is the time of the flow's last acknowledgement, 0 before the first
abbrev pub declared_kept : Code → ℕ → ℕ → ℕ → Kept
declared_kept code cwnd rate now = record {
  reports = map (λ (start : Start). start.value) code.reports;
  controls = map (λ (start : Start). start.value) code.controls;
  cwnd = cwnd;
  rate = rate;
  zero = now;
}

-- the registers as an epoch starts with these values
abbrev pub started : Code → List Pair → ℕ → ℕ → ℕ → Kept
started code values cwnd rate now = with_values values (declared_kept code cwnd rate now)
