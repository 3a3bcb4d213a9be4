-- What contracts see of the machine's memory.
use Rattle.std.specs.Prelude.{◌≡◌, ◌≢◌, ℕ, List, [], unwrap_or, replicate, refl}
use Rattle.std.specs.Coded.{Coded, code_by, coded×, coded_ℕ, coded_list}
use Rattle.slot_pool.specs.Pool.{PoolState, pool_code, words_at, IsOut, unused}
use Rattle.slot_pool.specs.Without.{without}

-- how many words a slot has
abbrev pub slot_words : ℕ
slot_words = 160

-- the words of the two slots that are the machine's own, and the pool of the further slots
pub record StoreState : Type 0 where
  pub registers : List ℕ
  pub report : List ℕ
  pub further : PoolState

-- it is stored as the tuple of its fields
abbrev pub store_code : Coded StoreState
store_code =
    code_by
    (List ℕ × (List ℕ × PoolState))
    (coded× (coded_list coded_ℕ) (coded× (coded_list coded_ℕ) pool_code))
    (λ s. (s.registers, (s.report, s.further)))
    (λ t. record { registers = t.0; report = t.1.0; further = t.1.1 })
    (λ _. refl)

-- the words of a slot that is out
abbrev pub words_in : PoolState → ℕ → List ℕ
words_in pool slot = unwrap_or (words_at pool slot) []

-- the pool without two of its slots
abbrev pub further_of : PoolState → ℕ → ℕ → PoolState
further_of pool a b = without (without pool a) b

abbrev pub store_of : PoolState → ℕ → ℕ → StoreState
store_of pool a b = record { registers = words_in pool a; report = words_in pool b; further = further_of pool a b }

-- two different slots are out, each of the machine's number of words
pub record IsOwned (pool : PoolState) (a b : ℕ) : Type 0 where
  pub first : IsOut pool a
  pub second : IsOut pool b
  pub apart : b ≢ a
  pub words : pool.words ≡ slot_words

-- the memory as it is made: each word is 0, and no further slot is out
abbrev pub fresh_store : ℕ → StoreState
fresh_store slots =
    record { registers = replicate slot_words 0; report = replicate slot_words 0; further = unused slots slot_words }
