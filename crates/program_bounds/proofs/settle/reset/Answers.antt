use Rattle.std.proofs.Common.{ℕ, ◌<◌, inl, inr, List, length, get_or, sym, ◌∙◌, subst, arith}
use Rattle.std.proofs.lemmas.Bool.{cases_eq, cases_lt}
use Rattle.std.proofs.lemmas.List.{get_or_past}
use Rattle.value_ranges.specs.declared.range.Range.{Range}
use Rattle.value_ranges.specs.Ranges.{IsIn}
use Rattle.portus_core.specs.OneAcknowledgement.{reset}
use Rattle.program_bounds.proofs.SettleLemmas.{reset_at, length_reset}
use Rattle.program_bounds.proofs.settle.reset.Goals as goal

pub loop-i-preserved : goal.loop-i-preserved
loop-i-preserved c =
    let within : c.loop-i.i < length c.args.decls.now = c.loop-i-test.true in
    let ranges : List Range = c.reset_at.new.ranges in
    record {
      long = omega (arith, c.reset_at.ensures.long);
      done = λ values long are j past zero reached.
          elim (cases_eq j c.loop-i.i) [
            | inl same ↦ subst (λ (k : ℕ). IsIn (get_or ranges k past) (get_or (reset c.args.decls.now values) k 0)) (sym same)
                (subst (λ (n : ℕ). IsIn (get_or ranges c.loop-i.i past) n) (sym (reset_at c.args.decls.now values c.loop-i.i c.index-decls-i.result long within c.index-decls-i.is))
                (c.reset_at.ensures.own past (get_or values c.loop-i.i 0) (c.loop-i.invariant.left values are c.loop-i.i past zero (omega arith))))
            | inr other ↦ subst (λ (r : Range). IsIn r (get_or (reset c.args.decls.now values) j 0)) (sym (c.reset_at.ensures.others j past other)) (c.loop-i.invariant.done values long are j past zero (omega arith))
          ];
      left = λ values are j past zero after.
          subst (λ (r : Range). IsIn r (get_or values j 0)) (sym (c.reset_at.ensures.others j past (λ same. omega arith))) (c.loop-i.invariant.left values are j past zero (omega arith));
    }

pub returns : goal.returns
returns c values long are = record {
  each = λ j past zero.
      elim (cases_lt j (length c.args.decls.now)) [
        | inl within ↦ c.loop-i.invariant.done values long are j past zero (omega (arith, c.loop-i-test.false))
        | inr after ↦ subst (λ (n : ℕ). IsIn (get_or c.loop-i.ranges j past) n)
            (get_or_past values j 0 (omega arith) ∙ sym (get_or_past (reset c.args.decls.now values) j 0 (omega (arith, length_reset c.args.decls.now values))))
            (c.loop-i.invariant.left values are j past zero (omega (arith, c.loop-i-test.false, after)))
      ];
}
