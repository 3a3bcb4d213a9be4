-- How the words of a report are written and read.
use Rattle.std.specs.Prelude.{ℕ, ◌+◌, ◌-◌, ◌^◌, min, List, [], ◌∷◌, take, drop, slice_index, slice_set, Option}
use Rattle.std.specs.Prelude.{option_map}
use Rattle.ccp_base.specs.Limits.{most_fields}
use Rattle.ccp_base.specs.declared.exchange.Report.{Report}
use Rattle.slot_pool.specs.Pool.{PoolState, words_at, ChangesSlot}
use Rattle.flow_lists.specs.Outbox.{head_word_count}

-- the words of a slot, with these written over them from a place on
abbrev pub written_over : Option (List ℕ) → ℕ → List ℕ → Option (List ℕ)
written_over kept at [] = kept
written_over kept at (word ∷ rest) = written_over (option_map (λ words. slice_set words at word) kept) (at + 1) rest

-- these words are written into a slot, from a place on, and no other slot changes
abbrev pub WritesOver : ℕ → ℕ → List ℕ → PoolState → PoolState → Type 0
WritesOver slot at words old new = ChangesSlot old new slot (written_over (words_at old slot) at words)

-- a number of 32 bits that a word holds
abbrev pub narrow : ℕ → ℕ
narrow word = min word (2 ^ 32 - 1)

-- the report that words begin with
abbrev pub report_in : List ℕ → Report
report_in words = record {
  flow = narrow (slice_index words 0);
  program = narrow (slice_index words 1);
  epoch = narrow (slice_index words 2);
  first = slice_index words 3;
  end = slice_index words 4;
  now = slice_index words 5;
  cwnd = slice_index words 6;
  rate = slice_index words 7;
  fields = take (min (slice_index words 8) most_fields) (drop head_word_count words);
}

-- a report with these fields in the place of its own
abbrev pub with_fields : List ℕ → Report → Report
with_fields fields report = record report { fields = fields }
