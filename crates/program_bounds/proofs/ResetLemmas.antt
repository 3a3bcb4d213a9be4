-- A range that is set to one value.
use Rattle.std.proofs.Common.{◌≡◌, ℕ, ◌<◌, List, length, set, get_or, sym, ◌∙◌, subst, arith}
use Rattle.std.proofs.lemmas.List.{get_or-set_same, get_or-set_other, get_or_default}
use Rattle.value_ranges.specs.declared.range.Range.{Range}
use Rattle.value_ranges.specs.Ranges.{IsIn}
use Rattle.range_cases.proofs.RangeLemmas.{widened_own}

pub set_own : (ranges : List Range) (i : ℕ) (range past : Range) (n : ℕ) → i < length ranges → IsIn range n → IsIn (get_or (set ranges i range) i past) n
set_own ranges i range past n within has = subst (λ (r : Range). IsIn r n) (sym (get_or-set_same ranges i range past within)) has

pub is_only : (range : Range) (n : ℕ) → range.lo ≡ n → range.hi ≡ n → IsIn range n
is_only range n low high = record { above = omega (arith, low); below = omega (arith, high) }

pub ruleset sets = (set_own, is_only, get_or-set_other)

pub ruleset widens = (set_own, widened_own)

-- a range at a place has what another one has there
pub part_at : (small large : List Range) (i : ℕ) (a b past : Range) (n : ℕ) → i < length small → i < length large → a ≡ get_or small i a → b ≡ get_or large i b
    → ((m : ℕ) → IsIn a m → IsIn b m) → IsIn (get_or small i past) n → IsIn (get_or large i past) n
part_at small large i a b past n within there at_small at_large wide has =
    subst (λ (r : Range). IsIn r n) (at_large ∙ get_or_default large i b past there)
    (wide n (subst (λ (r : Range). IsIn r n) (get_or_default small i past a within ∙ sym at_small) has))
