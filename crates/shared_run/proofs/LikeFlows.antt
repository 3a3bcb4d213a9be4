-- Two readings of a case with like states have one word, one part of a round and one row.
use Rattle.std.specs.Prelude.{◌≡◌, ℕ, zero, suc, max, Bool, true, false, Option, Some, None, List, [], ◌∷◌, ◌++◌, refl}
use Rattle.std.proofs.Common.{ap, sym, ◌∙◌, subst}
use Rattle.ccp_base.specs.declared.ack.Ack.{Ack}
use Rattle.flow_core.specs.declared.case.Case.{Case}
use Rattle.flow_core.specs.declared.letter.Letter.{Letter}
use Rattle.flow_core.specs.declared.letter.Letter.TheVariants.{T, C}
use Rattle.flow_core.specs.Readings.{Flow}
use Rattle.flow_core.specs.World.{World}
use Rattle.flow_core.specs.Words.{from_list, world_over, is_legal}
use Rattle.flow_core.specs.WordLaws.{world_over-append}
use Rattle.flow_core.specs.Cores.{CoreState, with_ack}
use Rattle.campaign_core.specs.CampaignWord.{is_answer_due, first_letter}
use Rattle.campaign_core.specs.CampaignRow.{window_of, peak_from, row_over}
use Rattle.flow_core.specs.LettersLeft.{letters_left}
use Rattle.campaign_core.specs.FlowRow.{CaseReading, flow_peak}
use Rattle.shared_run.specs.RoundLetters.{settling_letter, with_next, settled_in, after_settling, with_settled_ack, round_part}
use Rattle.shared_run.specs.LiftedFlow.{ReadAlike}
use Rattle.shared_run.proofs.TurnLemmas.{settled-case}

-- after each word, with whatever acknowledgements, both have one window, the same letters are due, may be taken and are
-- left, and both have one row
pub record AreLike {X Y : Type 0} (lag : ℕ) (flow : Flow X) (other : Flow Y) : Type 0 where
  pub window : (acks : List Ack) (word : List Letter) → window_of flow (world_over flow acks word) ≡ window_of other (world_over other acks word)
  pub due : (acks : List Ack) (word : List Letter) → is_answer_due flow lag (world_over flow acks word) ≡ is_answer_due other lag (world_over other acks word)
  pub takes : (acks : List Ack) (word : List Letter) → is_legal flow (world_over flow acks word) T ≡ is_legal other (world_over other acks word) T
  pub answers : (acks : List Ack) (word : List Letter) → is_legal flow (world_over flow acks word) C ≡ is_legal other (world_over other acks word) C
  pub left : (acks : List Ack) (word : List Letter) → letters_left flow (world_over flow acks word) ≡ letters_left other (world_over other acks word)
  pub row : (acks : List Ack) (word : List Letter) (peak : ℕ) → row_over flow (world_over flow acks word) peak ≡ row_over other (world_over other acks word) peak

module _ {X Y : Type 0} (read : CaseReading X) (other : CaseReading Y) (case : Case) (like : AreLike case.lag (read case) (other case)) where
  abbrev at : List Ack → List Letter → CoreState
  at acks word = record { case = case; acks = acks; word = word }

  next-alike : (at_end : Bool) (acks : List Ack) (word : List Letter)
      → settling_letter at_end read (at acks word) ≡ settling_letter at_end other (at acks word)
  next-alike false acks word = λ i. first_letter (like.due acks word i) (like.takes acks word i) false
  next-alike true acks word = λ i. first_letter (like.answers acks word i) (like.takes acks word i) false

  alike-where : (at_end : Bool) (m : ℕ) (acks : List Ack) (word : List Letter) (next : Option Letter)
      → ((longer : List Letter) → settled_in at_end read m (at acks longer) ≡ settled_in at_end other m (at acks longer))
      → with_next next (settled_in at_end read m) (at acks word) ≡ with_next next (settled_in at_end other m) (at acks word)
  alike-where at_end m acks word None rest = refl
  alike-where at_end m acks word (Some letter) rest = rest (word ++ letter ∷ [])

  settled_in-alike : (at_end : Bool) (m : ℕ) (acks : List Ack) (word : List Letter)
      → settled_in at_end read m (at acks word) ≡ settled_in at_end other m (at acks word)
  settled_in-alike at_end zero acks word = refl
  settled_in-alike at_end (suc m) acks word =
      ap (λ (next : Option Letter). with_next next (settled_in at_end read m) (at acks word)) (next-alike at_end acks word)
      ∙ alike-where at_end m acks word (settling_letter at_end other (at acks word)) (λ longer. settled_in-alike at_end m acks longer)

  settled-alike : (at_end : Bool) (acks : List Ack) (word : List Letter)
      → after_settling at_end read (at acks word) ≡ after_settling at_end other (at acks word)
  settled-alike at_end acks word =
      ap (λ (n : ℕ). settled_in at_end read n (at acks word)) (like.left acks word)
      ∙ settled_in-alike at_end (letters_left (other case) (world_over (other case) acks word)) acks word

  as-at : (core : CoreState) → core.case ≡ case → core ≡ at core.acks core.word
  as-at core is = λ i. record { case = is i; acks = core.acks; word = core.word }

  settled-of : (at_end : Bool) (core : CoreState) → core.case ≡ case → after_settling at_end read core ≡ after_settling at_end other core
  settled-of at_end core is =
      subst (λ (c : CoreState). after_settling at_end read c ≡ after_settling at_end other c) (sym (as-at core is)) (settled-alike at_end core.acks core.word)

  part-alike : (acks : List Ack) (core : CoreState) → core.case ≡ case → round_part read acks core ≡ round_part other acks core
  part-alike [] core is = refl
  part-alike (ack ∷ rest) core is =
      ap (λ (c : CoreState). round_part read rest c) (settled-of false (with_ack core ack) is)
      ∙ part-alike rest (with_settled_ack other ack core) (settled-case other false (with_ack core ack) ∙ is)

  peak-alike : (acks : List Ack) (rest front : List Letter)
      → peak_from (read case) (from_list acks) (world_over (read case) acks front) rest
      ≡ peak_from (other case) (from_list acks) (world_over (other case) acks front) rest
  peak-alike acks [] front = like.window acks front
  peak-alike acks (letter ∷ rest) front =
      let step = ap (λ (w : World X). peak_from (read case) (from_list acks) w rest) (sym (world_over-append (read case) acks front letter))
      ∙ peak-alike acks rest (front ++ letter ∷ [])
      ∙ ap (λ (w : World Y). peak_from (other case) (from_list acks) w rest) (world_over-append (other case) acks front letter) in
      λ i. max (like.window acks front i) (step i)

  pub alike : (acks : List Ack) (word : List Letter) → ReadAlike read other (at acks word)
  alike acks word = record {
    window = like.window acks word;
    part = λ more. part-alike more (at acks word) refl;
    closed = settled-alike true acks word;
    row =
        like.row acks word (flow_peak read (at acks word))
        ∙ ap (λ (peak : ℕ). row_over (other case) (world_over (other case) acks word) peak) (peak-alike acks word []);
  }
