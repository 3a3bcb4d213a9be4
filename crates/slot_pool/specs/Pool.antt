-- What a contract sees of a pool.
use Rattle.std.specs.Prelude.{◌≡◌, ◌≢◌, ℕ, ◌+◌, ◌-◌, List, [], ◌++◌, length, take, drop, Option, Some, IsSome, option_map, unwrap_or, refl, replicate, slice_set}
use Rattle.std.specs.Ordering.{nat_cmp}
use Rattle.std.specs.FinMap as map
use Rattle.std.specs.Coded.{Coded, code_by, coded×, coded_ℕ, coded_list}

-- how many slots there are, how many words each has, and the words of each slot that is out
pub record PoolState : Type 0 where
  pub slots : ℕ
  pub words : ℕ
  pub out : map.FinMap nat_cmp (List ℕ)

-- a pool is stored as the tuple of its fields
abbrev pub pool_code : Coded PoolState
pool_code =
    code_by
    (ℕ × (ℕ × map.FinMap nat_cmp (List ℕ)))
    (coded× coded_ℕ (coded× coded_ℕ (map.code coded_ℕ (coded_list coded_ℕ))))
    (λ p. (p.slots, (p.words, p.out)))
    (λ t. record { slots = t.0; words = t.1.0; out = t.1.1 })
    (λ _. refl)

-- the words of a slot that is out
abbrev pub words_at : PoolState → ℕ → Option (List ℕ)
words_at p slot = map.get p.out slot

-- the slot is out
abbrev pub IsOut : PoolState → ℕ → Type 0
IsOut p slot = IsSome (words_at p slot)

-- how many slots are not out
abbrev pub free_of : PoolState → ℕ
free_of p = p.slots - map.len p.out

-- a pool of which no slot is out
abbrev pub unused : ℕ → ℕ → PoolState
unused slots words = record { slots = slots; words = words; out = map.empty }

-- the new pool has this at the slot; all other slots, and the numbers of slots and words, are the old ones
pub record ChangesSlot (old new : PoolState) (slot : ℕ) (held : Option (List ℕ)) : Type 0 where
  pub changed : words_at new slot ≡ held
  pub others : (other : ℕ) → other ≢ slot → words_at new other ≡ words_at old other
  pub slots : new.slots ≡ old.slots
  pub words : new.words ≡ old.words

-- words with a run of others in the place of theirs, from a place on
abbrev pub with_run : List ℕ → ℕ → List ℕ → List ℕ
with_run words at run = take at words ++ (run ++ drop (at + length run) words)

-- the words of a slot, with a run written
abbrev pub words_with_run : PoolState → ℕ → ℕ → List ℕ → Option (List ℕ)
words_with_run p slot at run = option_map (λ words. with_run words at run) (words_at p slot)

-- the first words of a slot
abbrev pub front_at : PoolState → ℕ → ℕ → List ℕ
front_at p slot count = take count (unwrap_or (words_at p slot) [])

-- the words of a slot, with one written
abbrev pub words_with_one : PoolState → ℕ → ℕ → ℕ → Option (List ℕ)
words_with_one p slot at word = option_map (λ words. slice_set words at word) (words_at p slot)

-- a slot is out now, and its words are all 0
abbrev pub TakesZeros : PoolState → PoolState → ℕ → Type 0
TakesZeros old new slot = ChangesSlot old new slot (Some (replicate old.words 0))

-- one word of a slot is written, at a place
abbrev pub WritesWord : PoolState → PoolState → ℕ → ℕ → ℕ → Type 0
WritesWord old new slot at word = ChangesSlot old new slot (words_with_one old slot at word)

-- a run of words of a slot is written, from a place on
abbrev pub WritesRun : PoolState → PoolState → ℕ → ℕ → List ℕ → Type 0
WritesRun old new slot at run = ChangesSlot old new slot (words_with_run old slot at run)
