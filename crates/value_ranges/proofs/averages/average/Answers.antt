use Rattle.std.proofs.Common.{◌/◌, refl, arith, inl, inr}
use Rattle.std.proofs.lemmas.Bool.{cases_lt}
use Rattle.value_ranges.specs.declared.range.Reach.{Reach}
use Rattle.value_ranges.proofs.AverageLemmas.{covers_average, covers_first}
use Rattle.value_ranges.proofs.averages.average.Goals as goal
use Rattle.value_ranges.proofs.averages.average.Goals.{then-old-eq0, else-old-eq0}

pub returns : goal.returns
returns c x y old new =
    let reach : Reach = record { fault = c.mixture-mixed.result.fault; values = c.joined.result } in
    elim (cases_lt 0 x) [
      | inl some ↦ covers_average reach c.mixture-mixed.result c.args.weight x y some (c.mixture-mixed.ensures x y old new some) refl (λ n has. c.joined.ensures.right (n / 10) (c.tenth.ensures n has))
      | inr none ↦ covers_first reach c.args.weight x y (omega arith) (c.joined.ensures.left y
          (elim c.if-old-eq0.branch [
            | then-old-eq0 w ↦ rw w.first-is new
            | else-old-eq0 w ↦ absurd (omega arith)
          ]))
    ]
