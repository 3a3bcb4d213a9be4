use Rattle.std.proofs.Common.{ℕ, ◌<◌, inl, inr, length, get_or, sym, subst, arith}
use Rattle.std.proofs.lemmas.Bool.{cases_eq}
use Rattle.value_ranges.specs.Ranges.{IsIn}
use Rattle.range_cases.proofs.RangeLemmas.{widened_all}
use Rattle.program_bounds.proofs.ResetLemmas.{part_at}
use Rattle.program_bounds.proofs.within.are_within.Goals as goal

pub loop-i-preserved : goal.loop-i-preserved
loop-i-preserved c j past n reached has =
    let within : c.loop-i.i < length c.args.small.now = c.loop-i-test.true in
    let there : c.loop-i.i < length c.args.large.now = omega (arith, c.requires) in
    elim (cases_eq j c.loop-i.i) [
      | inl same ↦ subst (λ (k : ℕ). IsIn (get_or c.args.large.now k past) n) (sym same)
          (part_at c.args.small.now c.args.large.now c.loop-i.i c.index-small-i.result c.index-large-i.result past n within there c.index-small-i.is c.index-large-i.is
          (c.is_part.ensures c.if-not-is_part.false) (subst (λ (k : ℕ). IsIn (get_or c.args.small.now k past) n) same has))
      | inr other ↦ c.loop-i.invariant j past n (omega arith) has
    ]

pub returns : goal.returns
returns c holds value are =
    widened_all c.args.large.now c.args.small.now value (sym c.requires) (λ j past n within has. c.loop-i.invariant j past n (omega (arith, c.loop-i-test.false)) has) are
