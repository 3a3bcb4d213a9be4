-- Ranges that are widened by what updates may write.
use Rattle.std.proofs.Common.{ℕ, ◌<◌, ◌≤◌, ◌⊎◌, inl, inr, List, ◌∷◌, length, set, get_or, length-set, ap, sym, ◌∙◌, subst, arith}
use Rattle.std.proofs.lemmas.Bool.{cases_eq, cases_lt}
use Rattle.std.proofs.lemmas.List.{get_or-set_same, get_or-set_other, get_or_past}
use Rattle.ccp_base.specs.declared.fields.FieldReg.{FieldReg}
use Rattle.ccp_base.specs.declared.fields.FieldReg.TheVariants as reg
use Rattle.ccp_base.specs.FieldReg.{Pair}
use Rattle.value_ranges.specs.declared.range.Range.{Range}
use Rattle.value_ranges.specs.Ranges.{IsIn}
use Rattle.portus_core.specs.declared.env.Env.{Env}
use Rattle.portus_core.specs.Programs.{Form}
use Rattle.portus_core.specs.Epoch.{with_value}
use Rattle.range_cases.specs.declared.case.Kept.{Kept}
use Rattle.range_cases.specs.Cases.{IsKept}
use Rattle.program_bounds.specs.declared.premises.Item.{Item}
use Rattle.program_bounds.specs.declared.premises.Premises.{Premises}
use Rattle.program_bounds.specs.Premises.{IsAllowed}
use Rattle.program_bounds.specs.Turns.{IsWritten, HasUpdates, IsUpdated, IsWithin, Widens}

pub written_widens : (old new : Kept) (register : FieldReg) (value : ℕ) → Widens old new → IsWritten old register value → IsWritten new register value
written_widens old new reg.Cwnd value widens written = widens.cwnd value written
written_widens old new reg.Rate value widens written = widens.rate value written
written_widens old new (reg.Control i) value widens written = λ few past. widens.controls i past value (written few past)

pub update_step : (old new : Kept) (item : Item) (rest : List Item) (pair : Pair) → Widens old new
    → ((value : ℕ) → IsIn item.range value → IsWritten new item.register value)
    → IsAllowed (item ∷ rest) pair ⊎ IsWritten old pair.0 pair.1 → IsAllowed rest pair ⊎ IsWritten new pair.0 pair.1
update_step old new item rest pair widens writes (inl (inl here)) = inr (subst (λ (r : FieldReg). IsWritten new r pair.1) here.0 (writes pair.1 here.1))
update_step old new item rest pair widens writes (inl (inr later)) = inl later
update_step old new item rest pair widens writes (inr written) = inr (written_widens old new pair.0 pair.1 widens written)

pub widens_then : (first second third : Kept) → Widens first second → Widens second third → Widens first third
widens_then first second third a b = record {
  fields = λ i past n has. b.fields i past n (a.fields i past n has);
  controls = λ i past n has. b.controls i past n (a.controls i past n has);
  cwnd = λ n has. b.cwnd n (a.cwnd n has);
  rate = λ n has. b.rate n (a.rate n has);
}

-- wider ranges have what the others have
pub within_widens : (old new : Kept) → Widens old new → IsWithin old new
within_widens old new widens env kept = record {
  fields = record { each = λ i past zero. widens.fields i past (get_or env.fields i 0) (kept.fields.each i past zero) };
  controls = record { each = λ i past zero. widens.controls i past (get_or env.controls i 0) (kept.controls.each i past zero) };
  cwnd = widens.cwnd env.cwnd kept.cwnd;
  rate = widens.rate env.rate kept.rate;
}

control_written : (ranges : List Range) (values : List ℕ) (i value : ℕ) → length values ≤ 64 → (i < 64 → (past : Range) → IsIn (get_or ranges i past) value)
    → (j : ℕ) (past : Range) → IsIn (get_or ranges j past) (get_or values j 0) → IsIn (get_or ranges j past) (get_or (set values i value) j 0)
control_written ranges values i value few written j past has =
    elim (cases_eq j i) [
      | inl same ↦ elim (cases_lt j (length values)) [
        | inl within ↦ subst (λ (n : ℕ). IsIn (get_or ranges j past) n) (sym (ap (λ (k : ℕ). get_or (set values i value) k 0) same ∙ get_or-set_same values i value 0 (omega arith)))
            (subst (λ (k : ℕ). IsIn (get_or ranges k past) value) (sym same) (written (omega arith) past))
        | inr after ↦ subst (λ (n : ℕ). IsIn (get_or ranges j past) n) (get_or_past values j 0 after ∙ sym (get_or_past (set values i value) j 0 (omega (arith, length-set values i value)))) has
      ]
      | inr other ↦ subst (λ (n : ℕ). IsIn (get_or ranges j past) n) (sym (get_or-set_other values i j value 0 other)) has
    ]

kept_written : (state : Kept) (env : Env) (register : FieldReg) (value : ℕ) → length env.controls ≤ 64 → IsKept state env → IsWritten state register value → IsKept state (with_value register value env)
kept_written state env reg.Cwnd value few kept written = record { fields = kept.fields; controls = kept.controls; cwnd = written; rate = kept.rate }
kept_written state env reg.Rate value few kept written = record { fields = kept.fields; controls = kept.controls; cwnd = kept.cwnd; rate = written }
kept_written state env (reg.Control i) value few kept written = record {
  fields = kept.fields;
  controls = record { each = λ j past zero. control_written state.controls env.controls i value few written j past (kept.controls.each j past zero) };
  cwnd = kept.cwnd;
  rate = kept.rate;
}

-- ranges that have all that updates may write
pub updated_has : (form : Form) (given : Premises) (state : Kept) → length form.controls ≤ 64 → HasUpdates given.updates state → IsUpdated form given state
updated_has form given state few has env pair shape kept allowed = kept_written state env pair.0 pair.1 (omega (arith, shape.controls)) kept (has pair allowed)
