-- The moving average of an old number above 0 is a tenth of a sum.
use Rattle.std.proofs.Common.{◌≡◌, ℕ, ◌+◌, ◌-◌, ◌*◌, ◌/◌, ◌^◌, ◌<◌, refl, arith, inl, inr, suc, Result, Ok, Err}
use Rattle.std.proofs.lemmas.Bool.Decides.{leb_tells, eqb_tells}
use Rattle.ccp_base.specs.declared.arithmetic.FaultKind.{FaultKind}
use Rattle.ccp_base.specs.Blending.{moving_average}
use Rattle.ccp_base.specs.Chaining.{then_do}
use Rattle.ccp_base.specs.CheckedNumbers.{fitted}
use Rattle.value_ranges.specs.declared.range.Reach.{Reach}
use Rattle.value_ranges.specs.Ranges.{HasValue, Covers}

abbrev tenth_of : Result ℕ FaultKind → Result ℕ FaultKind
tenth_of total = then_do total (λ sum. Ok (sum / 10))

pub average_is_tenth : (weight x y : ℕ) → 0 < x → moving_average weight x y ≡ tenth_of (fitted (weight * x + (10 - weight) * y))
average_is_tenth weight x y some =
    elim (eqb_tells x 0) [
      | inl zero ↦ absurd (omega arith)
      | inr above ↦ rw above.0 (
          elim (leb_tells (suc (weight * x)) (2 ^ 64)) [
            | inl a ↦ rw a.0 (
                elim (leb_tells (suc ((10 - weight) * y)) (2 ^ 64)) [
                  | inl b ↦ rw b.0 (
                      elim (leb_tells (suc (weight * x + (10 - weight) * y)) (2 ^ 64)) [
                        | inl c ↦ rw c.0 refl
                        | inr c ↦ rw c.0 refl
                      ])
                  | inr b ↦ rw b.0 (
                      elim (leb_tells (suc (weight * x + (10 - weight) * y)) (2 ^ 64)) [
                        | inl c ↦ absurd (omega arith)
                        | inr c ↦ rw c.0 refl
                      ])
                ])
            | inr a ↦ rw a.0 (
                elim (leb_tells (suc (weight * x + (10 - weight) * y)) (2 ^ 64)) [
                  | inl c ↦ absurd (omega arith)
                  | inr c ↦ rw c.0 refl
                ])
          ])
    ]

covers_tenth : (reach mixed : Reach) (total : Result ℕ FaultKind) → Covers mixed total → mixed.fault ≡ reach.fault
    → ((n : ℕ) → HasValue mixed.values n → HasValue reach.values (n / 10)) → Covers reach (tenth_of total)
covers_tenth reach mixed (Ok n) covers same tenths = tenths n covers
covers_tenth reach mixed (Err kind) covers same tenths = cc

-- what covers the sum covers the average, with a tenth of each value
pub covers_average : (reach mixed : Reach) (weight x y : ℕ) → 0 < x
    → Covers mixed (fitted (weight * x + (10 - weight) * y)) → mixed.fault ≡ reach.fault
    → ((n : ℕ) → HasValue mixed.values n → HasValue reach.values (n / 10)) → Covers reach (moving_average weight x y)
covers_average reach mixed weight x y some covers same tenths =
    rw (average_is_tenth weight x y some) (covers_tenth reach mixed (fitted (weight * x + (10 - weight) * y)) covers same tenths)

-- an old number 0 becomes the new one
pub covers_first : (reach : Reach) (weight x y : ℕ) → x ≡ 0 → HasValue reach.values y → Covers reach (moving_average weight x y)
covers_first reach weight x y zero has =
    elim (eqb_tells x 0) [
      | inl same ↦ rw same.0 has
      | inr other ↦ absurd (other.1 zero)
    ]
