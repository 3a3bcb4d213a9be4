use Rattle.std.proofs.Common.{◌≡◌, ℕ, ◌<◌, ◌^◌, List, length, get_or, ap, sym, ◌∙◌, subst}
use Rattle.ccp_base.specs.declared.fields.FieldReg.TheVariants as reg
use Rattle.portus_core.specs.declared.program.Decl.{Decl}
use Rattle.program_bounds.specs.declared.premises.Item.{Item}
use Rattle.program_bounds.specs.Premises.{IsStart, range_for, declared_values}
use Rattle.program_bounds.proofs.BeginLemmas.{start_any}
use Rattle.program_bounds.proofs.begin.start_ranges.Goals as goal

pub returns : goal.returns
returns c start starts = record {
  fields = c.started.ensures start.fields (starts.shape.fields ∙ ap (λ (ds : List Decl). length ds) (sym c.deref.ensures.value))
      (λ i. ap (λ (xs : List ℕ). get_or xs i 0) (starts.fields ∙ ap (λ (ds : List Decl). declared_values ds) (sym c.deref.ensures.value)));
  controls = c.started-2.ensures start.controls (starts.shape.controls ∙ ap (λ (ds : List Decl). length ds) (sym c.deref-2.ensures.value))
      (λ i. subst (λ (ds : List Decl). IsStart (range_for (reg.Control i) c.as_slice-starts.result.now) (λ value. value ≡ get_or (declared_values ds) i 0) (get_or start.controls i 0)) (sym c.deref-2.ensures.value)
      (subst (λ (items : List Item). IsStart (range_for (reg.Control i) items) (λ value. value ≡ get_or (declared_values c.args.program.now.controls.items) i 0) (get_or start.controls i 0)) (sym c.as_slice-starts.ensures) (starts.controls i)));
  cwnd = c.start_range.ensures start.cwnd (start_any (range_for reg.Cwnd c.as_slice-starts.result.now) c.full.result start.cwnd c.full.ensures.lo c.full.ensures.hi
      (subst (λ (items : List Item). IsStart (range_for reg.Cwnd items) (λ value. value < 2 ^ 64) start.cwnd) (sym c.as_slice-starts.ensures) starts.cwnd));
  rate = c.start_range-2.ensures start.rate (start_any (range_for reg.Rate c.as_slice-starts.result.now) c.full-2.result start.rate c.full-2.ensures.lo c.full-2.ensures.hi
      (subst (λ (items : List Item). IsStart (range_for reg.Rate items) (λ value. value < 2 ^ 64) start.rate) (sym c.as_slice-starts.ensures) starts.rate));
}
