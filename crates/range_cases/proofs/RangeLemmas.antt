-- Lists of ranges of which one is replaced.
use Rattle.std.proofs.Common.{◌≡◌, ℕ, ◌+◌, ◌<◌, ◌≤◌, ◌≢◌, List, length, set, get_or, arith, inl, inr, refl, sym, subst, ◌∙◌}
use Rattle.std.specs.Prelude.{slice_index, slice_set}
use Rattle.std.proofs.lemmas.Bool.{cases_eq, cases_lt}
use Rattle.std.proofs.lemmas.List.{get_or-set_same, get_or-set_other, get_or_default, get_or_past}
use Rattle.value_ranges.specs.declared.range.Range.{Range}
use Rattle.value_ranges.specs.Ranges.{IsIn}
use Rattle.range_cases.specs.Cases.{AreIn}

abbrev zeros : Range
zeros = record { lo = 0; hi = 0; ordered = omega arith }

-- the range that is read at a place
pub AreIn_read : (ranges : List Range) (value : ℕ → ℕ) (i : ℕ) (range : Range) → i < length ranges → range ≡ get_or ranges i range
    → AreIn ranges value → IsIn range (value i)
AreIn_read ranges value i range within read are =
    subst (λ (r : Range). IsIn r (value i)) (sym (read ∙ get_or_default ranges i range zeros within))
    (are.each i zeros (record { above = omega arith; below = omega arith }))

-- past the ranges each value is 0
pub AreIn_past : (ranges : List Range) (value : ℕ → ℕ) (i : ℕ) (range : Range) → length ranges ≤ i → range.lo ≡ 0
    → AreIn ranges value → IsIn range (value i)
AreIn_past ranges value i range past low are =
    subst (λ (r : Range). IsIn r (value i)) (get_or_past ranges i range past)
    (are.each i range (record { above = omega arith; below = omega arith }))

AreIn_set : (ranges : List Range) (value new : ℕ → ℕ) (i : ℕ) (range : Range) → i < length ranges → AreIn ranges value
    → IsIn range (new i) → ((j : ℕ) → j ≢ i → new j ≡ value j) → AreIn (set ranges i range) new
AreIn_set ranges value new i range within are has others = record {
  each = λ j past zero.
      elim (cases_eq j i) [
        | inl same ↦ subst (λ (k : ℕ). IsIn (get_or (set ranges i range) k past) (new k)) (sym same) (subst (λ (r : Range). IsIn r (new i)) (sym (get_or-set_same ranges i range past within)) has)
        | inr other ↦ subst (λ (r : Range). IsIn r (new j)) (sym (get_or-set_other ranges i j range past other)) (subst (λ (n : ℕ). IsIn (get_or ranges j past) n) (sym (others j other)) (are.each j past zero))
      ];
}

-- a value that was narrowed
pub AreIn_set_same : (ranges : List Range) (value : ℕ → ℕ) (i : ℕ) (range : Range) → i < length ranges → AreIn ranges value
    → IsIn range (value i) → AreIn (set ranges i range) value
AreIn_set_same ranges value i range within are has = AreIn_set ranges value value i range within are has (λ j other. refl)

-- a value that was assigned
pub AreIn_set_values : (ranges : List Range) (values : List ℕ) (i : ℕ) (range : Range) (value : ℕ) → i < length ranges → i < length values
    → AreIn ranges (slice_index values) → IsIn range value → AreIn (set ranges i range) (slice_index (slice_set values i value))
AreIn_set_values ranges values i range value within there are has =
    AreIn_set ranges (slice_index values) (slice_index (slice_set values i value)) i range within are
    (subst (λ (n : ℕ). IsIn range n) (sym (get_or-set_same values i value 0 there)) has)
    (λ j other. get_or-set_other values i j value 0 other)

pub ruleset reads = (AreIn_read, AreIn_past)

-- a range was replaced by a wider one
pub widened_own : (ranges : List Range) (i : ℕ) (old range : Range) (j : ℕ) (past : Range) (n : ℕ) → i < length ranges → old ≡ get_or ranges i old
    → ((m : ℕ) → IsIn old m → IsIn range m) → IsIn (get_or ranges j past) n → IsIn (get_or (set ranges i range) j past) n
widened_own ranges i old range j past n within at wide has =
    elim (cases_eq j i) [
      | inl same ↦ subst (λ (k : ℕ). IsIn (get_or (set ranges i range) k past) n) (sym same) (subst (λ (r : Range). IsIn r n) (sym (get_or-set_same ranges i range past within))
          (wide n (subst (λ (r : Range). IsIn r n) (get_or_default ranges i past old within ∙ sym at) (subst (λ (k : ℕ). IsIn (get_or ranges k past) n) same has))))
      | inr other ↦ subst (λ (r : Range). IsIn r n) (sym (get_or-set_other ranges i j range past other)) has
    ]

-- the ranges before the next place have the values of the others
pub widened_others : (ranges others : List Range) (i : ℕ) (one range : Range) (j : ℕ) (past : Range) (n : ℕ) → i < length ranges → i < length others → one ≡ get_or others i one
    → ((m : ℕ) → IsIn one m → IsIn range m) → (j < i → IsIn (get_or others j past) n → IsIn (get_or ranges j past) n)
    → j < i + 1 → IsIn (get_or others j past) n → IsIn (get_or (set ranges i range) j past) n
widened_others ranges others i one range j past n within there at wide before reached has =
    elim (cases_eq j i) [
      | inl same ↦ subst (λ (k : ℕ). IsIn (get_or (set ranges i range) k past) n) (sym same) (subst (λ (r : Range). IsIn r n) (sym (get_or-set_same ranges i range past within))
          (wide n (subst (λ (r : Range). IsIn r n) (get_or_default others i past one there ∙ sym at) (subst (λ (k : ℕ). IsIn (get_or others k past) n) same has))))
      | inr other ↦ subst (λ (r : Range). IsIn r n) (sym (get_or-set_other ranges i j range past other)) (before (omega arith) has)
    ]

-- after the last place all ranges have the values of the others
pub widened_all : (ranges others : List Range) (value : ℕ → ℕ) → length ranges ≡ length others
    → ((j : ℕ) (past : Range) (n : ℕ) → j < length others → IsIn (get_or others j past) n → IsIn (get_or ranges j past) n) → AreIn others value → AreIn ranges value
widened_all ranges others value long wider are = record {
  each = λ j past zero.
      elim (cases_lt j (length others)) [
        | inl within ↦ wider j past (value j) within (are.each j past zero)
        | inr after ↦ subst (λ (r : Range). IsIn r (value j)) (get_or_past others j past after ∙ sym (get_or_past ranges j past (omega arith))) (are.each j past zero)
      ];
}
