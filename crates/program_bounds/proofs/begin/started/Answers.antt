use Rattle.std.proofs.Common.{ℕ, ◌<◌, inl, inr, length, get_or, set, length-set, refl, sym, ◌∙◌, subst, arith}
use Rattle.std.proofs.lemmas.Bool.{cases_eq, cases_lt}
use Rattle.std.proofs.lemmas.List.{get_or_past, get_or-set_other}
use Rattle.ccp_base.specs.declared.fields.FieldReg.TheVariants as reg
use Rattle.value_ranges.specs.declared.range.Range.{Range}
use Rattle.value_ranges.specs.Ranges.{IsIn}
use Rattle.program_bounds.specs.Premises.{range_for, declared_values}
use Rattle.program_bounds.proofs.BeginLemmas.{start_declared, declared_at}
use Rattle.range_cases.proofs.BlockLemmas.{AreIn_nothing}
use Rattle.program_bounds.proofs.ResetLemmas.{set_own}
use Rattle.program_bounds.proofs.begin.started.Goals as goal

pub loop-i-init : goal.loop-i-init
loop-i-init c = record {
  long = refl;
  done = λ values starts j past before. absurd (omega arith);
  left = λ j past zero low. (AreIn_nothing c.only-ranges.result 64 c.only-ranges.ensures.lo).each j past zero;
}

pub loop-i-preserved : goal.loop-i-preserved
loop-i-preserved c =
    let within : c.loop-i.i < length c.args.decls.now = c.loop-i-test.true in
    let there : c.loop-i.i < length c.loop-i.ranges = omega (arith, c.loop-i.invariant.long) in
    let range : Range = c.start_range.result in
    record {
      long = length-set c.loop-i.ranges c.loop-i.i range ∙ c.loop-i.invariant.long;
      done = λ values starts j past reached.
          elim (cases_eq j c.loop-i.i) [
            | inl same ↦ subst (λ (k : ℕ). IsIn (get_or (set c.loop-i.ranges c.loop-i.i range) k past) (get_or values k 0)) (sym same)
                (set_own c.loop-i.ranges c.loop-i.i range past (get_or values c.loop-i.i 0) there
                (c.start_range.ensures (get_or values c.loop-i.i 0)
                (start_declared (range_for (reg.Control c.loop-i.i) c.args.starts.now) c.only.result (get_or (declared_values c.args.decls.now) c.loop-i.i 0) (get_or values c.loop-i.i 0)
                (c.only.ensures.lo ∙ declared_at c.args.decls.now c.loop-i.i c.index-decls-i.result within c.index-decls-i.is) (c.only.ensures.hi ∙ declared_at c.args.decls.now c.loop-i.i c.index-decls-i.result within c.index-decls-i.is) (starts c.loop-i.i))))
            | inr other ↦ subst (λ (r : Range). IsIn r (get_or values j 0)) (sym (get_or-set_other c.loop-i.ranges c.loop-i.i j range past other)) (c.loop-i.invariant.done values starts j past (omega arith))
          ];
      left = λ j past zero after.
          subst (λ (r : Range). IsIn r 0) (sym (get_or-set_other c.loop-i.ranges c.loop-i.i j range past (λ same. omega arith))) (c.loop-i.invariant.left j past zero (omega arith));
    }

pub returns : goal.returns
returns c values long starts = record {
  each = λ j past zero.
      elim (cases_lt j (length c.args.decls.now)) [
        | inl within ↦ c.loop-i.invariant.done values starts j past (omega (arith, c.loop-i-test.false))
        | inr after ↦ subst (λ (n : ℕ). IsIn (get_or c.loop-i.ranges j past) n) (sym (get_or_past values j 0 (omega arith)))
            (c.loop-i.invariant.left j past zero (omega (arith, c.loop-i-test.false, after)))
      ];
}
