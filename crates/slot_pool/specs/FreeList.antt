-- How the words of slots hold a pool: a list of the free slots runs through their own words.
use Rattle.std.specs.Prelude.{◌≡◌, ℕ, ◌+◌, ◌<◌, Bool, false, ◌==◌, ◌||◌, if◌then◌else◌, List, [], ◌∷◌, slice_index}
use Rattle.std.proofs.Common.{zero, suc}
use Rattle.std.specs.Ordering.{nat_cmp}
use Rattle.std.specs.FinMap as map
use Rattle.slot_pool.specs.Pool.{PoolState}

-- the numbers of `count` free slots, from `slot` on: the first word of each is the number of the next
abbrev pub free_slots : (ℕ → List ℕ) → ℕ → ℕ → List ℕ
free_slots words_of slot zero = []
free_slots words_of slot (suc count) = slot ∷ free_slots words_of (slice_index (words_of slot) 0) count

-- whether the slot is one of these
abbrev pub is_among : ℕ → List ℕ → Bool
is_among slot [] = false
is_among slot (x ∷ xs) = slot == x || is_among slot xs

-- the slots below a number that are not free, with their words
abbrev pub slots_out : (ℕ → List ℕ) → List ℕ → ℕ → map.FinMap nat_cmp (List ℕ)
slots_out words_of free zero = map.empty
slots_out words_of free (suc slot) =
    if is_among slot free then slots_out words_of free slot
    else map.insert (slots_out words_of free slot) slot (words_of slot)

-- each of the slots is below the number
abbrev pub AreBelow : ℕ → List ℕ → Type 0
AreBelow limit [] = Unit {0}
AreBelow limit (x ∷ xs) = (x < limit) × AreBelow limit xs

-- no slot is in it twice
abbrev pub AreApart : List ℕ → Type 0
AreApart [] = Unit {0}
AreApart (x ∷ xs) = (is_among x xs ≡ false) × AreApart xs

-- the pool that the words of slots and a list of the free ones hold
abbrev pub pool_of : (ℕ → List ℕ) → ℕ → ℕ → ℕ → ℕ → PoolState
pool_of words_of slots words first free =
    record { slots = slots; words = words; out = slots_out words_of (free_slots words_of first free) slots }

-- the list of free slots has each of them once, and the slots that are out are the others
pub record IsLinked (words_of : ℕ → List ℕ) (slots words first free : ℕ) : Type 0 where
  pub below : AreBelow slots (free_slots words_of first free)
  pub apart : AreApart (free_slots words_of first free)
  pub counted : free + map.len (slots_out words_of (free_slots words_of first free) slots) ≡ slots
