-- What a contract sees of an outbox, and how waiting reports lie in slots.
use Rattle.std.specs.Prelude.{◌≡◌, ◌≢◌, ℕ, ◌+◌, ◌-◌, ◌^◌, ◌<◌, ◌≤◌, List, [], ◌∷◌, ◌++◌, length, take, drop}
use Rattle.std.specs.Prelude.{slice_index, Option, Some, None, option_map}
use Rattle.ccp_base.specs.Limits.{most_fields}
use Rattle.ccp_base.specs.declared.exchange.Notice.{Notice}
use Rattle.ccp_base.specs.declared.exchange.Report.{Report}
use Rattle.ccp_base.specs.declared.exchange.Told.{Told}
use Rattle.ccp_base.specs.declared.exchange.Told.TheVariants as told
use Rattle.slot_pool.specs.Pool.{PoolState, words_at, free_of, IsOut, ChangesSlot}

-- the slots of the waiting reports, the oldest first; the notice that is untold, or none; and how many reports may wait
pub record OutboxState : Type 0 where
  pub slots : List ℕ
  pub untold : Option Notice
  pub size : ℕ

-- an outbox in which nothing waits
abbrev pub empty_outbox : ℕ → OutboxState
empty_outbox size = record { slots = []; untold = None; size = size }

-- ---- reports in slots

-- how many words stand before the fields of a report
abbrev pub head_word_count : ℕ
head_word_count = 9

-- how many words of a slot no report takes, so that a slot has 80
abbrev pub spare_word_count : ℕ
spare_word_count = 7

-- how many words a slot has at least, so that any report fits in
abbrev pub most_report_words : ℕ
most_report_words = head_word_count + most_fields + spare_word_count

-- the numbers of a report, and how many fields it has
abbrev pub head_words : Report → List ℕ
head_words report =
    report.flow
    ∷ report.program
    ∷ report.epoch
    ∷ report.first
    ∷ report.end
    ∷ report.now
    ∷ report.cwnd
    ∷ report.rate
    ∷ length report.fields
    ∷ []

-- the words that a report is stored as
abbrev pub report_words : Report → List ℕ
report_words report = head_words report ++ report.fields

-- the numbers of a report fit their types
pub record ReportFits (report : Report) : Type 0 where
  pub flow : report.flow < 2 ^ 32
  pub program : report.program < 2 ^ 32
  pub epoch : report.epoch < 2 ^ 32
  pub fields : length report.fields ≤ most_fields

-- the slot is out, and its words begin with the report's
pub record Stores (pool : PoolState) (slot : ℕ) (report : Report) : Type 0 where
  pub begins : option_map (take (length (report_words report))) (words_at pool slot) ≡ Some (report_words report)
  pub in_range : ReportFits report

-- each of the slots stores the report at its place in the list
abbrev pub AreStored : PoolState → List ℕ → List Report → Type 0
AreStored pool [] [] = Unit {0}
AreStored pool (slot ∷ slots) (report ∷ reports) = Stores pool slot report × AreStored pool slots reports
AreStored pool [] (report ∷ reports) = ⊥
AreStored pool (slot ∷ slots) [] = ⊥

-- none of the slots is this one
abbrev pub AreOther : ℕ → List ℕ → Type 0
AreOther slot [] = Unit {0}
AreOther slot (other ∷ rest) = (other ≢ slot) × AreOther slot rest

-- each of the slots is out, and stands in the list once
abbrev pub AreOwned : PoolState → List ℕ → Type 0
AreOwned pool [] = Unit {0}
AreOwned pool (slot ∷ rest) = IsOut pool slot × (AreOther slot rest × AreOwned pool rest)

-- if a report waits, its slot has the words that any report fits in
abbrev pub AreWide : PoolState → List ℕ → Type 0
AreWide pool [] = Unit {0}
AreWide pool (slot ∷ rest) = most_report_words ≤ pool.words

-- each waiting report has its own slot, which is out and whose words begin with the report's
pub record Lies (pool : PoolState) (slots : List ℕ) (reports : List Report) : Type 0 where
  pub owned : AreOwned pool slots
  pub stored : AreStored pool slots reports

-- ---- what a call changes of a pool and of the slots of the waiting reports

-- whatever reports waited before, this one waits at their end afterwards
abbrev pub Gains : Report → PoolState → List ℕ → PoolState → List ℕ → Type 0
Gains report pool slots after slots_after =
    (reports : List Report) → Lies pool slots reports → Lies after slots_after (reports ++ report ∷ [])

-- whatever reports waited before, all but the first wait afterwards
abbrev pub LosesFirst : PoolState → List ℕ → PoolState → List ℕ → Type 0
LosesFirst pool slots after slots_after =
    (reports : List Report) → Lies pool slots reports → Lies after slots_after (drop 1 reports)

-- the free slots and those of waiting reports are as many as before
abbrev pub AreAsMany : PoolState → List ℕ → PoolState → List ℕ → Type 0
AreAsMany pool slots after slots_after = free_of after + length slots_after ≡ free_of pool + length slots

-- no slot but this one changes
abbrev pub ChangesOnly : ℕ → PoolState → PoolState → Type 0
ChangesOnly slot old new = ChangesSlot old new slot (words_at new slot)

-- ---- the end and the front of the list

-- the slot at the list's end
abbrev pub newest : List ℕ → ℕ
newest slots = slice_index slots (length slots - 1)

-- the first slot is given back, if there is one, and no other slot changes
abbrev pub GivesFirst : PoolState → PoolState → List ℕ → Type 0
GivesFirst old new [] = new ≡ old
GivesFirst old new (slot ∷ rest) = ChangesSlot old new slot None

-- what the next ticket has: the oldest report, or else the notice
abbrev pub next_told : List Report → Option Notice → Option Told
next_told [] untold = option_map told.Fault untold
next_told (report ∷ rest) untold = Some (told.Report report)

-- whatever reports wait in the slots, the next ticket has this
abbrev pub IsToldNext : Option Told → Option Notice → PoolState → List ℕ → Type 0
IsToldNext told untold pool slots = (reports : List Report) → Lies pool slots reports → told ≡ next_told reports untold

-- the notice that a ticket leaves untold: it stays while reports wait, given here or by their slots
abbrev pub notice_left : {X : Type 0} → List X → Option Notice → Option Notice
notice_left [] untold = None
notice_left (waiting ∷ rest) untold = untold
