-- What start values make of the registers that are kept.
use Rattle.std.proofs.Common.{◌≡◌, ◌≢◌, ℕ, suc, ◌+◌, ◌<◌, ◌≤◌, Bool, true, false, cond, List, [], ◌∷◌, length, length-set, map, slice_index, slice_set, get_or-set_other, get_or-set_same, refl, ap, ◌∙◌, inl, inr, ◌⊎◌, arith}
use Rattle.ccp_base.specs.Limits.{most_fields, most_controls}
use Rattle.reg_code.specs.declared.code.Code.{Code}
use Rattle.reg_code.specs.declared.code.Start.{Start}
use Rattle.reg_code.specs.AcceptedCode.{sizes_of}
use Rattle.reg_code.specs.Places.{cwnd_at, rate_at, reports_place, controls_at, all_places}
use Rattle.reg_code.specs.CodeStep.{reset, reset_of}
use Rattle.reg_code.specs.CodeStart.{declared_kept}
use Rattle.fold_machine.specs.Store.{StoreState, slot_words}
use Rattle.fold_machine.specs.Layout.{words_from, kept_in, IsFew, HasRoom, KeepsOthers, cwnd_word, rate_word, zero_word, first_field_word}
use Rattle.fold_machine.specs.WorkingWords.{kept_on, zero_at}
use Rattle.fold_machine.specs.KeptWords.{declared_words, reset_words}
use Rattle.fold_machine.proofs.LayoutLemmas.{from-same}

-- the word at a place is outside of those from another place on
abbrev IsOutside : ℕ → ℕ → ℕ → Type 0
IsOutside at count k = (k < at) ⊎ (at + count ≤ k)

outside-next : (at count k : ℕ) → IsOutside at (suc count) k → IsOutside (at + 1) count k
outside-next at count k (inl before) = inl (omega arith)
outside-next at count k (inr after) = inr (omega arith)

outside-first : (at count k : ℕ) → IsOutside at (suc count) k → k ≢ at
outside-first at count k (inl before) = λ e. omega arith
outside-first at count k (inr after) = λ e. omega arith

pub declared-length : (starts : List Start) (at : ℕ) (words : List ℕ) → length (declared_words starts at words) ≡ length words
declared-length [] at words = refl
declared-length (start ∷ rest) at words = declared-length rest (at + 1) (slice_set words at start.value) ∙ length-set words at start.value

pub declared-other : (starts : List Start) (at : ℕ) (words : List ℕ) (k : ℕ) → IsOutside at (length starts) k → slice_index (declared_words starts at words) k ≡ slice_index words k
declared-other [] at words k outside = refl
declared-other (start ∷ rest) at words k outside =
    declared-other rest (at + 1) (slice_set words at start.value) k (outside-next at (length rest) k outside)
    ∙ get_or-set_other words at k start.value 0 (outside-first at (length rest) k outside)

pub declared-from : (starts : List Start) (at : ℕ) (words : List ℕ) → at + length starts ≤ length words → words_from (declared_words starts at words) at (length starts) ≡ map (λ (start : Start). start.value) starts
declared-from [] at words fits = refl
declared-from (start ∷ rest) at words fits =
    let next : List ℕ = slice_set words at start.value in
    let same : length next ≡ length words = length-set words at start.value in
    let first : slice_index (declared_words rest (at + 1) next) at ≡ start.value =
    declared-other rest (at + 1) next at (inl (omega arith)) ∙ get_or-set_same words at start.value 0 (omega arith) in
    λ i. first i ∷ declared-from rest (at + 1) next (omega arith) i

word-length : (volatile : Bool) (at value : ℕ) (words : List ℕ) → length (cond volatile (slice_set words at value) words) ≡ length words
word-length true at value words = length-set words at value
word-length false at value words = refl

word-other : (volatile : Bool) (at value : ℕ) (words : List ℕ) (k : ℕ) → k ≢ at → slice_index (cond volatile (slice_set words at value) words) k ≡ slice_index words k
word-other true at value words k apart = get_or-set_other words at k value 0 apart
word-other false at value words k apart = refl

word-here : (volatile : Bool) (at value : ℕ) (words : List ℕ) → at < length words → slice_index (cond volatile (slice_set words at value) words) at ≡ cond volatile value (slice_index words at)
word-here true at value words within = get_or-set_same words at value 0 within
word-here false at value words within = refl

pub reset_words-length : (starts : List Start) (at : ℕ) (words : List ℕ) → length (reset_words starts at words) ≡ length words
reset_words-length [] at words = refl
reset_words-length (start ∷ rest) at words =
    reset_words-length rest (at + 1) (cond start.volatile (slice_set words at start.value) words) ∙ word-length start.volatile at start.value words

pub reset_words-other : (starts : List Start) (at : ℕ) (words : List ℕ) (k : ℕ) → IsOutside at (length starts) k → slice_index (reset_words starts at words) k ≡ slice_index words k
reset_words-other [] at words k outside = refl
reset_words-other (start ∷ rest) at words k outside =
    reset_words-other rest (at + 1) (cond start.volatile (slice_set words at start.value) words) k (outside-next at (length rest) k outside)
    ∙ word-other start.volatile at start.value words k (outside-first at (length rest) k outside)

pub reset_words-from : (starts : List Start) (at : ℕ) (words : List ℕ) → at + length starts ≤ length words → words_from (reset_words starts at words) at (length starts) ≡ reset starts (words_from words at (length starts))
reset_words-from [] at words fits = refl
reset_words-from (start ∷ rest) at words fits =
    let next : List ℕ = cond start.volatile (slice_set words at start.value) words in
    let same : length next ≡ length words = word-length start.volatile at start.value words in
    let first : slice_index (reset_words rest (at + 1) next) at ≡ cond start.volatile start.value (slice_index words at) =
    reset_words-other rest (at + 1) next at (inl (omega arith)) ∙ word-here start.volatile at start.value words (omega arith) in
    let later : words_from next (at + 1) (length rest) ≡ words_from words (at + 1) (length rest) =
    from-same next words (at + 1) (length rest) (λ k least most. word-other start.volatile at start.value words k (λ e. omega arith)) in
    let others : words_from (reset_words rest (at + 1) next) (at + 1) (length rest) ≡ reset rest (words_from words (at + 1) (length rest)) =
    reset_words-from rest (at + 1) next (omega arith) ∙ ap (reset rest) later in
    λ i. first i ∷ others i

-- the registers that are kept, as a code declares them
pub kept-declared : (code : Code) (words : List ℕ) (now : ℕ) → HasRoom (sizes_of code) words → kept_in (sizes_of code) (declared_words code.controls (first_field_word + length code.reports) (declared_words code.reports first_field_word (slice_set words zero_word now))) ≡ declared_kept code (slice_index words cwnd_word) (slice_index words rate_word) now
kept-declared code words now room =
    let small_reports : length code.reports ≤ most_fields = room.few.reports in
    let small_controls : length code.controls ≤ most_controls = room.few.controls in
    let full : length words ≡ slot_words = room.full in
    let first : List ℕ = slice_set words zero_word now in
    let second : List ℕ = declared_words code.reports first_field_word first in
    let third : List ℕ = declared_words code.controls (first_field_word + length code.reports) second in
    let long : length first ≡ slot_words = length-set words zero_word now ∙ full in
    let also : length second ≡ slot_words = declared-length code.reports first_field_word first ∙ long in
    let before : (k : ℕ) → k < first_field_word → slice_index third k ≡ slice_index first k =
    λ k below. declared-other code.controls (first_field_word + length code.reports) second k (inl (omega arith)) ∙ declared-other code.reports first_field_word first k (inl (omega arith)) in
    λ i. record {
      reports = (from-same third second first_field_word (length code.reports) (λ k least most. declared-other code.controls (first_field_word + length code.reports) second k (inl (omega arith))) ∙ declared-from code.reports first_field_word first (omega arith)) i;
      controls = declared-from code.controls (first_field_word + length code.reports) second (omega arith) i;
      cwnd = (before cwnd_word (omega arith) ∙ get_or-set_other words zero_word cwnd_word now 0 (λ e. omega arith)) i;
      rate = (before rate_word (omega arith) ∙ get_or-set_other words zero_word rate_word now 0 (λ e. omega arith)) i;
      zero = (before zero_word (omega arith) ∙ get_or-set_same words zero_word now 0 (omega arith)) i;
    }

-- the registers that are kept, as a report leaves them
pub kept-reset : (code : Code) (words : List ℕ) → IsFew (sizes_of code) → length words ≡ all_places → kept_on (sizes_of code) (reset_words code.controls controls_at (reset_words code.reports reports_place words)) ≡ reset_of code (kept_on (sizes_of code) words)
kept-reset code words few full =
    let small_reports : length code.reports ≤ most_fields = few.reports in
    let small_controls : length code.controls ≤ most_controls = few.controls in
    let second : List ℕ = reset_words code.reports reports_place words in
    let third : List ℕ = reset_words code.controls controls_at second in
    let also : length second ≡ all_places = reset_words-length code.reports reports_place words ∙ full in
    let before : (k : ℕ) → k < reports_place → slice_index third k ≡ slice_index words k =
    λ k below. reset_words-other code.controls controls_at second k (inl (omega arith)) ∙ reset_words-other code.reports reports_place words k (inl (omega arith)) in
    λ i. record {
      reports = (from-same third second reports_place (length code.reports) (λ k least most. reset_words-other code.controls controls_at second k (inl (omega arith))) ∙ reset_words-from code.reports reports_place words (omega arith)) i;
      controls = (reset_words-from code.controls controls_at second (omega arith) ∙ ap (reset code.controls) (from-same second words controls_at (length code.controls) (λ k least most. reset_words-other code.reports reports_place words k (inr (omega arith))))) i;
      cwnd = before cwnd_at (omega arith) i;
      rate = before rate_at (omega arith) i;
      zero = before zero_at (omega arith) i;
    }

-- nothing but the registers changed
pub others-from : (old new : StoreState) (words : List ℕ) → new ≡ record old { registers = words } → length words ≡ length old.registers → KeepsOthers old new
others-from old new words is same = record {
  report = ap (λ (s : StoreState). s.report) is;
  further = ap (λ (s : StoreState). s.further) is;
  length = ap (λ (s : StoreState). length s.registers) is ∙ same;
}

pub declared-twice : (code : Code) (words : List ℕ) (now : ℕ) → length (declared_words code.controls (first_field_word + length code.reports) (declared_words code.reports first_field_word (slice_set words zero_word now))) ≡ length words
declared-twice code words now =
    declared-length code.controls (first_field_word + length code.reports) (declared_words code.reports first_field_word (slice_set words zero_word now))
    ∙ declared-length code.reports first_field_word (slice_set words zero_word now)
    ∙ length-set words zero_word now
