-- What a contract sees of a region of words: the words of each slot.
use Rattle.std.specs.Prelude.{◌≡◌, ◌≢◌, ℕ, ◌*◌, List, take, drop}
use Rattle.slot_pool.specs.declared.region.Region.{Region}

-- the words of a slot, in a region of slots of `words` words each
abbrev pub slot_words_in : List ℕ → ℕ → ℕ → List ℕ
slot_words_in items words slot = take words (drop (slot * words) items)

abbrev pub words_of : Region → ℕ → List ℕ
words_of region slot = slot_words_in region.items.items region.words slot

-- the new region has these words at the slot, and all other slots are the old ones
pub record ChangesWords (old new : Region) (slot : ℕ) (written : List ℕ) : Type 0 where
  pub changed : words_of new slot ≡ written
  pub others : (other : ℕ) → other ≢ slot → words_of new other ≡ words_of old other
  pub slots : new.slots ≡ old.slots
  pub words : new.words ≡ old.words
