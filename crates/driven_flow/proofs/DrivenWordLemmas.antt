-- One more letter at a word's end, and one more answer than a word takes.
use Rattle.std.specs.Prelude.{◌≡◌, ℕ, zero, suc, ◌+◌, ◌<◌, ◌≤◌, max, Option, Some, None, List, [], ◌∷◌, ◌++◌, length, slice_get, refl}
use Rattle.std.proofs.Common.{arith, ap, ◌∙◌, length-append}
use Rattle.ccp_base.specs.declared.ack.Ack.{Ack}
use Rattle.ccp_base.specs.declared.exchange.Report.{Report}
use Rattle.ccp_base.specs.declared.exchange.Reply.TheVariants.{Nothing}
use Rattle.ccp_base.specs.FieldReg.{Pair}
use Rattle.flow_core.specs.declared.letter.Letter.{Letter}
use Rattle.flow_core.specs.declared.letter.Letter.TheVariants.{A, T, C}
use Rattle.flow_core.specs.Readings.{Flow}
use Rattle.flow_core.specs.World.{World, Content, Failure, Taken, Answered, track_of, takeable, with_taken}
use Rattle.flow_core.specs.Words.{Giving, with_given}
use Rattle.campaign_core.proofs.PeakLemmas.{max-assoc}
use Rattle.driven_flow.specs.Driven.{Given, with_values_given, with_answer, answered_by, after_letter, world_from, peak_from}
use Rattle.driven_flow.specs.DrivenStates.{answers_in}

-- ---- a list that goes on

pub slice_get-front : {Y : Type 0} → (front more : List Y) (n : ℕ) → n < length front → slice_get (front ++ more) n ≡ slice_get front n
slice_get-front [] more n below = absurd (omega (arith, below))
slice_get-front (first ∷ front) more zero below = refl
slice_get-front (first ∷ front) more (suc n) below = slice_get-front front more n (omega (arith, below))

pub slice_get-last : {Y : Type 0} → (front : List Y) (last : Y) → slice_get (front ++ last ∷ []) (length front) ≡ Some last
slice_get-last [] last = refl
slice_get-last (first ∷ front) last = slice_get-last front last

pub answers-append : (word more : List Letter) → answers_in (word ++ more) ≡ answers_in word + answers_in more
answers-append [] more = omega arith
answers-append (A ∷ rest) more = answers-append rest more
answers-append (T ∷ rest) more = answers-append rest more
answers-append (C ∷ rest) more = omega (arith, answers-append rest more)

-- values answer no ticket
pub values-tickets : {X : Type 0} → (flow : Flow X) (program : Option ℕ) (values : List Pair) (w : World X)
    → (with_values_given flow program values w).answered ≡ w.answered
values-tickets flow None [] w = refl
values-tickets flow None (pair ∷ rest) w = refl
values-tickets flow (Some program) values w = refl

module _ {X : Type 0} (flow : Flow X) (giving : Giving X) where
  -- ---- one more letter

  pub world-append : (answers : List Given) (word : List Letter) (letter : Letter) (w : World X)
      → world_from flow giving answers w (word ++ letter ∷ []) ≡ after_letter flow giving answers (world_from flow giving answers w word) letter
  world-append answers [] letter w = refl
  world-append answers (first ∷ word) letter w = world-append answers word letter (after_letter flow giving answers w first)

  pub peak-append : (answers : List Given) (word : List Letter) (letter : Letter) (w : World X)
      → peak_from flow giving answers w (word ++ letter ∷ [])
      ≡ max (peak_from flow giving answers w word) (track_of flow (world_from flow giving answers w (word ++ letter ∷ []))).env.cwnd
  peak-append answers [] letter w = refl
  peak-append answers (first ∷ word) letter w =
      let next = after_letter flow giving answers w first in
      ap (λ (n : ℕ). max (track_of flow w).env.cwnd n) (peak-append answers word letter next)
      ∙ max-assoc (track_of flow w).env.cwnd (peak_from flow giving answers next word)
      (track_of flow (world_from flow giving answers next (word ++ letter ∷ []))).env.cwnd

  -- ---- one more answer

  -- how many tickets a letter answers
  given-count : (given : Given) (out : Option (Taken X)) (w : World X) → length (with_answer flow given out w).answered ≤ length w.answered + 1
  given-count given None w = omega arith
  given-count given (Some ticket) w =
      let line : Answered X = record { told = ticket.told; taken = ticket.taken; answered = length w.acks; reply = Nothing } in
      let same = ap (λ (xs : List (Answered X)). length xs) (values-tickets flow given.program given.values (record w { out = None; answered = w.answered ++ line ∷ [] })) in
      omega (arith, same, length-append w.answered (line ∷ []))

  answered-count : (given : Option Given) (w : World X) → length (answered_by flow given w).answered ≤ length w.answered + 1
  answered-count None w = omega arith
  answered-count (Some given) w = given-count given w.out w

  heard-count : (ack : Option Ack) (w : World X) → (with_given flow ack w).answered ≡ w.answered
  heard-count None w = refl
  heard-count (Some ack) w = refl

  taken-count : (taken : Option (Content X × (List Report × Option (Failure X)))) (w : World X) → (with_taken taken w).answered ≡ w.answered
  taken-count None w = refl
  taken-count (Some taken) w = refl

  letter-count : (answers : List Given) (letter : Letter) (w : World X)
      → length (after_letter flow giving answers w letter).answered ≤ length w.answered + answers_in (letter ∷ [])
  letter-count answers A w = let same = ap (λ (xs : List (Answered X)). length xs) (heard-count (giving w) w) in omega (arith, same)
  letter-count answers T w = let same = ap (λ (xs : List (Answered X)). length xs) (taken-count (takeable w.waiting w.untold) w) in omega (arith, same)
  letter-count answers C w = answered-count (slice_get answers (length w.answered)) w

  -- answers past those that a letter takes change nothing
  letter-more : (answers more : List Given) (letter : Letter) (w : World X) → length w.answered + answers_in (letter ∷ []) ≤ length answers
      → after_letter flow giving (answers ++ more) w letter ≡ after_letter flow giving answers w letter
  letter-more answers more A w enough = refl
  letter-more answers more T w enough = refl
  letter-more answers more C w enough =
      ap (λ (given : Option Given). answered_by flow given w) (slice_get-front answers more (length w.answered) (omega (arith, enough)))

  answers-split : (letter : Letter) (rest : List Letter) → answers_in (letter ∷ rest) ≡ answers_in (letter ∷ []) + answers_in rest
  answers-split A rest = omega arith
  answers-split T rest = omega arith
  answers-split C rest = omega arith

  -- nor do those past a word's
  pub world-more : (answers more : List Given) (word : List Letter) (w : World X) → length w.answered + answers_in word ≤ length answers
      → world_from flow giving (answers ++ more) w word ≡ world_from flow giving answers w word
  world-more answers more [] w enough = refl
  world-more answers more (letter ∷ rest) w enough =
      let one = answers-split letter rest in
      let next = after_letter flow giving answers w letter in
      let count = letter-count answers letter w in
      ap (λ (v : World X). world_from flow giving (answers ++ more) v rest) (letter-more answers more letter w (omega (arith, enough, one)))
      ∙ world-more answers more rest next (omega (arith, enough, one, count))

  pub peak-more : (answers more : List Given) (word : List Letter) (w : World X) → length w.answered + answers_in word ≤ length answers
      → peak_from flow giving (answers ++ more) w word ≡ peak_from flow giving answers w word
  peak-more answers more [] w enough = refl
  peak-more answers more (letter ∷ rest) w enough =
      let one = answers-split letter rest in
      let next = after_letter flow giving answers w letter in
      let count = letter-count answers letter w in
      ap (λ (n : ℕ). max (track_of flow w).env.cwnd n)
      (ap (λ (v : World X). peak_from flow giving (answers ++ more) v rest) (letter-more answers more letter w (omega (arith, enough, one)))
      ∙ peak-more answers more rest next (omega (arith, enough, one, count)))
