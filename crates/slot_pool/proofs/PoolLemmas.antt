-- What each call does to the pool, from what it does to the region.
use Rattle.std.proofs.Common.{◌≡◌, ℕ, suc, ◌+◌, ◌-◌, ◌<◌, ◌*◌, List, length, Option, Some, None, is_some, option_map, replicate, slice_index, slice_set, sym, ap, ◌∙◌, subst, inl, inr, arith}
use Rattle.std.proofs.lemmas.Bool.{cases_eq}
use Rattle.std.proofs.lemmas.List.{get_or-set_same}
use Rattle.std.specs.Ordering.{nat_cmp}
use Rattle.std.specs.FinMap as map
use Rattle.slot_pool.specs.declared.region.Region.{Region}
use Rattle.slot_pool.specs.Pool.{PoolState, words_at, IsOut, free_of, unused, ChangesSlot}
use Rattle.slot_pool.specs.Region.{words_of, ChangesWords}
use Rattle.slot_pool.specs.FreeList.{pool_of, IsLinked}
use Rattle.slot_pool.proofs.RegionLemmas.{slots_in_order, length-words_in}
use Rattle.slot_pool.proofs.FreeListLemmas.{taken_was_free, taken_changes, taken_stays_linked, given_changes, given_stays_linked, written_changes, written_stays_linked, out_parts, words_at_out, all_linked, all_unused}

-- the pool that a region holds, and that its list of free slots is sound
abbrev pub state : Region → ℕ → ℕ → PoolState
state region first free = pool_of (words_of region) region.slots region.words first free

abbrev pub Linked : Region → ℕ → ℕ → Type 0
Linked region first free = IsLinked (words_of region) region.slots region.words first free

-- the counter of free slots is the number of free slots
pub free_of-state : (region : Region) (first free : ℕ) → Linked region first free → free_of (state region first free) ≡ free
free_of-state region first free linked = let counted = linked.counted in omega arith

-- equal numbers of slots and words
sized : (words_now : ℕ → List ℕ) (slots words s w first free : ℕ) → s ≡ slots → w ≡ words → IsLinked words_now slots words first free → IsLinked words_now s w first free
sized words_now slots words s w first free e f linked =
    subst (λ n. IsLinked words_now n w first free) (sym e) (subst (λ n. IsLinked words_now slots n first free) (sym f) linked)

sized_change : (old : PoolState) (words_now : ℕ → List ℕ) (slots words s w first free slot : ℕ) (held : Option (List ℕ)) → s ≡ slots → w ≡ words → ChangesSlot old (pool_of words_now slots words first free) slot held → ChangesSlot old (pool_of words_now s w first free) slot held
sized_change old words_now slots words s w first free slot held e f change =
    subst (λ n. ChangesSlot old (pool_of words_now n w first free) slot held) (sym e) (subst (λ n. ChangesSlot old (pool_of words_now slots n first free) slot held) (sym f) change)

-- what taking a slot needs: the list continues with the next free slot, and the pool has zeros at the slot
pub record TakesSlot (new : Region) (next free : ℕ) (before : PoolState) (slot : ℕ) : Type 0 where
  pub linked : Linked new next free
  pub was_free : words_at before slot ≡ None
  pub changes : ChangesSlot before (state new next free) slot (Some (replicate before.words 0))
  pub counted : free_of (state new next free) + 1 ≡ free_of before
  pub within : slot < before.slots

module _ (old new : Region) (first count : ℕ) (linked : Linked old first (suc count)) (change : ChangesWords old new first (replicate old.words 0)) where
  abbrev next_free : ℕ
  next_free = slice_index (words_of old first) 0

  next_linked : Linked new next_free count
  next_linked =
      sized (words_of new) old.slots old.words new.slots new.words next_free count change.slots change.words
      (taken_stays_linked (words_of old) (words_of new) old.slots old.words first count linked change.others)

  next_changes : ChangesSlot (state old first (suc count)) (state new next_free count) first (Some (replicate old.words 0))
  next_changes =
      subst (λ xs. ChangesSlot (state old first (suc count)) (state new next_free count) first (Some xs)) change.changed
      (sized_change (state old first (suc count)) (words_of new) old.slots old.words new.slots new.words next_free count first (Some (words_of new first)) change.slots change.words
      (taken_changes (words_of old) (words_of new) old.slots old.words first count linked change.others))

  next_taken : TakesSlot new next_free count (state old first (suc count)) first
  next_taken =
      let after = free_of-state new next_free count next_linked in
      let before = free_of-state old first (suc count) linked in
      record {
        linked = next_linked;
        was_free = taken_was_free (words_of old) (words_of new) old.slots old.words first count linked change.others;
        changes = next_changes;
        counted = omega arith;
        within = linked.below.0;
      }

pub take_step : (old new : Region) (first free next slot : ℕ) (before : PoolState) → (free ≡ 0 → ⊥) → Linked old first free → ChangesWords old new first (replicate old.words 0) → state old first free ≡ before → next ≡ slice_index (words_of old first) 0 → slot ≡ first → TakesSlot new next (free - 1) before slot
take_step old new first free next slot before some linked change is link taken =
    let count : free ≡ suc (free - 1) = omega arith in
    let at : state old first (suc (free - 1)) ≡ before = ap (state old first) (sym count) ∙ is in
    subst (TakesSlot new next (free - 1) before) (sym taken)
    (subst (λ n. TakesSlot new n (free - 1) before first) (sym link)
    (subst (λ b. TakesSlot new (slice_index (words_of old first) 0) (free - 1) b first) at
    (next_taken old new first (free - 1) (subst (Linked old first) count linked) change)))

-- what giving a slot back needs: it is the first free slot
pub record GivesSlot (new : Region) (first free : ℕ) (before : PoolState) (slot : ℕ) : Type 0 where
  pub linked : Linked new first free
  pub changes : ChangesSlot before (state new first free) slot None
  pub counted : free_of (state new first free) ≡ free_of before + 1

-- a slot's first word, once written, is what was written
pub written_link : (old : Region) (slot link : ℕ) → slot < old.slots → slice_index (slice_set (words_of old slot) 0 link) 0 ≡ link
written_link old slot link below =
    let order = slots_in_order old.words slot old.slots below in
    let whole : length old.items.items ≡ old.slots * old.words = old.whole in
    let has_words : 0 < old.words = old.has_words in
    let len = length-words_in old.items.items old.words slot (omega arith) in
    get_or-set_same (words_of old slot) 0 link 0 (omega arith)

give_back : (old new : Region) (first free slot : ℕ) → Linked old first free → IsOut (state old first free) slot → ChangesWords old new slot (slice_set (words_of old slot) 0 first) → GivesSlot new slot (suc free) (state old first free) slot
give_back old new first free slot linked out change =
    let below : slot < old.slots = (out_parts (words_of old) old.slots old.words first free slot out).0 in
    let links : slice_index (words_of new slot) 0 ≡ first = ap (λ xs. slice_index xs 0) change.changed ∙ written_link old slot first below in
    let now : Linked new slot (suc free) =
    sized (words_of new) old.slots old.words new.slots new.words slot (suc free) change.slots change.words
    (given_stays_linked (words_of old) (words_of new) old.slots old.words first free slot linked out change.others links) in
    let after = free_of-state new slot (suc free) now in
    let before = free_of-state old first free linked in
    record {
      linked = now;
      changes =
          sized_change (state old first free) (words_of new) old.slots old.words new.slots new.words slot (suc free) slot None change.slots change.words
          (given_changes (words_of old) (words_of new) old.slots old.words first free slot linked out change.others links);
      counted = omega arith;
    }

pub give_step : (old new : Region) (first free number slot : ℕ) (before : PoolState) → Linked old first free → state old first free ≡ before → IsOut before slot → number ≡ slot → ChangesWords old new number (slice_set (words_of old number) 0 first) → GivesSlot new number (free + 1) before slot
give_step old new first free number slot before linked is out same change =
    let here : IsOut (state old first free) number = subst (λ b. IsOut b number) (sym is) (subst (IsOut before) (sym same) out) in
    let more : suc free ≡ free + 1 = omega arith in
    subst (GivesSlot new number (free + 1) before) same
    (subst (λ b. GivesSlot new number (free + 1) b number) is
    (subst (λ n. GivesSlot new number n (state old first free) number) more (give_back old new first free number linked here change)))

-- what writing into a slot needs, if its words become what `f` makes of them: it has these words, and stays out
pub record WritesSlot (new : Region) (first free : ℕ) (before : PoolState) (slot : ℕ) (f : List ℕ → List ℕ) : Type 0 where
  pub linked : Linked new first free
  pub changes : ChangesSlot before (state new first free) slot (option_map f (words_at before slot))
  pub out : IsOut (state new first free) slot
  pub counted : free_of (state new first free) ≡ free_of before

write_out : (old new : Region) (first free slot : ℕ) (f : List ℕ → List ℕ) → Linked old first free → IsOut (state old first free) slot → ChangesWords old new slot (f (words_of old slot)) → WritesSlot new first free (state old first free) slot f
write_out old new first free slot f linked out change =
    let now : Linked new first free =
    sized (words_of new) old.slots old.words new.slots new.words first free change.slots change.words
    (written_stays_linked (words_of old) (words_of new) old.slots old.words first free slot linked out change.others) in
    let changes : ChangesSlot (state old first free) (state new first free) slot (Some (f (words_of old slot))) =
    subst (λ xs. ChangesSlot (state old first free) (state new first free) slot (Some xs)) change.changed
    (sized_change (state old first free) (words_of new) old.slots old.words new.slots new.words first free slot (Some (words_of new slot)) change.slots change.words
    (written_changes (words_of old) (words_of new) old.slots old.words first free slot linked out change.others)) in
    let with_is : option_map f (words_at (state old first free) slot) ≡ Some (f (words_of old slot)) =
    ap (option_map f) (words_at_out (words_of old) old.slots old.words first free slot out) in
    let after = free_of-state new first free now in
    let before = free_of-state old first free linked in
    record {
      linked = now;
      changes = subst (ChangesSlot (state old first free) (state new first free) slot) (sym with_is) changes;
      out = ap is_some changes.changed;
      counted = omega arith;
    }

pub write_step : (old new : Region) (first free number slot : ℕ) (f : List ℕ → List ℕ) (before : PoolState) → Linked old first free → state old first free ≡ before → IsOut before slot → number ≡ slot → ChangesWords old new number (f (words_of old number)) → WritesSlot new first free before slot f
write_step old new first free number slot f before linked is out same change =
    let here : IsOut (state old first free) number = subst (λ b. IsOut b number) (sym is) (subst (IsOut before) (sym same) out) in
    subst (λ n. WritesSlot new first free before n f) same
    (subst (λ b. WritesSlot new first free b number f) is (write_out old new first free number f linked here change))

-- a slot that is out is below the number of slots, and has its words
pub out_below : (region : Region) (first free number slot : ℕ) (pool : PoolState) → state region first free ≡ pool → IsOut pool slot → number ≡ slot → number < region.slots
out_below region first free number slot pool is out same =
    (out_parts (words_of region) region.slots region.words first free number (subst (λ p. IsOut p number) (sym is) (subst (IsOut pool) (sym same) out))).0

pub out_has_words : (region : Region) (first free number slot : ℕ) (pool : PoolState) → state region first free ≡ pool → IsOut pool slot → number ≡ slot → words_at pool slot ≡ Some (words_of region number)
out_has_words region first free number slot pool is out same =
    subst (λ n. words_at pool n ≡ Some (words_of region number)) same
    (subst (λ p. words_at p number ≡ Some (words_of region number)) is
    (words_at_out (words_of region) region.slots region.words first free number (subst (λ p. IsOut p number) (sym is) (subst (IsOut pool) (sym same) out))))

-- each slot below the number links to the next one
abbrev pub LinksOn : Region → ℕ → Type 0
LinksOn region limit = (slot : ℕ) → slot < limit → slice_index (words_of region slot) 0 ≡ slot + 1

pub LinksOn-more : (old new : Region) (limit : ℕ) → limit < old.slots → LinksOn old limit → ChangesWords old new limit (slice_set (words_of old limit) 0 (limit + 1)) → LinksOn new (limit + 1)
LinksOn-more old new limit below links change slot h =
    elim (cases_eq slot limit) [
      | inl e ↦
          ap (λ k. slice_index (words_of new k) 0) e
          ∙ ap (λ xs. slice_index xs 0) change.changed
          ∙ written_link old limit (limit + 1) below
          ∙ ap (λ k. k + 1) (sym e)
      | inr apart ↦ ap (λ xs. slice_index xs 0) (change.others slot apart) ∙ links slot (omega arith)
    ]

-- a region whose slots link on is a pool of which no slot is out
pub fresh_linked : (region : Region) (slots : ℕ) → region.slots ≡ slots → LinksOn region slots → Linked region 0 slots
fresh_linked region slots size links =
    subst (λ n. IsLinked (words_of region) n region.words 0 slots) (sym size) (all_linked (words_of region) slots region.words links)

pub fresh_unused : (region : Region) (slots words : ℕ) → region.slots ≡ slots → region.words ≡ words → LinksOn region slots → state region 0 slots ≡ unused slots words
fresh_unused region slots words size width links =
    ap (λ n. pool_of (words_of region) n region.words 0 slots) size
    ∙ ap (λ n. pool_of (words_of region) slots n 0 slots) width
    ∙ ap (λ (m : map.FinMap nat_cmp (List ℕ)). record { slots = slots; words = words; out = m }) (all_unused (words_of region) slots links)
