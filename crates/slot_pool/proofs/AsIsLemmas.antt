-- What a pool is after a slot was taken with the words that are in it.
use Rattle.std.proofs.Common.{◌≡◌, ℕ, suc, ◌+◌, ◌-◌, ◌*◌, List, length, Some, None, option_map, slice_index, refl, sym, ap, ◌∙◌, subst, arith}
use Rattle.slot_pool.specs.declared.region.Region.{Region}
use Rattle.slot_pool.specs.Pool.{PoolState, words_at, free_of, ChangesSlot}
use Rattle.slot_pool.specs.Region.{words_of}
use Rattle.slot_pool.proofs.RegionLemmas.{slots_in_order, length-words_in}
use Rattle.slot_pool.proofs.FreeListLemmas.{taken_was_free, taken_changes, taken_stays_linked}
use Rattle.slot_pool.proofs.PoolLemmas.{state, Linked, free_of-state}

-- what taking a slot as it is needs: the list continues with the next free slot, and the slot's words stay
pub record TakesAsIs (region : Region) (next free : ℕ) (before : PoolState) (slot : ℕ) : Type 0 where
  pub linked : Linked region next free
  pub was_free : words_at before slot ≡ None
  pub changes : ChangesSlot before (state region next free) slot (words_at (state region next free) slot)
  pub len : option_map (λ (words : List ℕ). length words) (words_at (state region next free) slot) ≡ Some before.words
  pub counted : free_of (state region next free) + 1 ≡ free_of before

module _ (region : Region) (first count : ℕ) (linked : Linked region first (suc count)) where
  abbrev next_free : ℕ
  next_free = slice_index (words_of region first) 0

  next_linked : Linked region next_free count
  next_linked =
      taken_stays_linked (words_of region) (words_of region) region.slots region.words first count linked (λ other apart. refl)

  next_changes : ChangesSlot (state region first (suc count)) (state region next_free count) first (Some (words_of region first))
  next_changes =
      taken_changes (words_of region) (words_of region) region.slots region.words first count linked (λ other apart. refl)

  width : length (words_of region first) ≡ region.words
  width =
      let order = slots_in_order region.words first region.slots linked.below.0 in
      let whole : length region.items.items ≡ region.slots * region.words = region.whole in
      length-words_in region.items.items region.words first (omega arith)

  next_taken : TakesAsIs region next_free count (state region first (suc count)) first
  next_taken =
      let after = free_of-state region next_free count next_linked in
      let before = free_of-state region first (suc count) linked in
      record {
        linked = next_linked;
        was_free = taken_was_free (words_of region) (words_of region) region.slots region.words first count linked (λ other apart. refl);
        changes = subst (ChangesSlot (state region first (suc count)) (state region next_free count) first) (sym next_changes.changed) next_changes;
        len = ap (option_map (λ (words : List ℕ). length words)) next_changes.changed ∙ ap Some width;
        counted = omega arith;
      }

pub as_is_step : (region : Region) (first free next slot : ℕ) (before : PoolState) → (free ≡ 0 → ⊥) → Linked region first free → state region first free ≡ before → next ≡ slice_index (words_of region first) 0 → slot ≡ first → TakesAsIs region next (free - 1) before slot
as_is_step region first free next slot before some linked is link taken =
    let count : free ≡ suc (free - 1) = omega arith in
    let at : state region first (suc (free - 1)) ≡ before = ap (state region first) (sym count) ∙ is in
    subst (TakesAsIs region next (free - 1) before) (sym taken)
    (subst (λ n. TakesAsIs region n (free - 1) before first) (sym link)
    (subst (λ b. TakesAsIs region (slice_index (words_of region first) 0) (free - 1) b first) at
    (next_taken region first (free - 1) (subst (Linked region first) count linked))))
