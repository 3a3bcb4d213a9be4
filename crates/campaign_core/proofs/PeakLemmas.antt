-- The greatest window: one more letter may raise it, and acknowledgements past those that a word takes don't.
use Rattle.std.specs.Prelude.{◌≡◌, ◌≤◌, ℕ, max, Option, Some, List, [], ◌∷◌, ◌++◌, length, refl}
use Rattle.std.proofs.Common.{arith, ap, sym, ◌∙◌, append_assoc}
use Rattle.ccp_base.specs.declared.ack.Ack.{Ack}
use Rattle.flow_core.specs.declared.letter.Letter.{Letter}
use Rattle.flow_core.specs.declared.letter.Letter.TheVariants.{A, T, C}
use Rattle.flow_core.specs.Readings.{Flow}
use Rattle.flow_core.specs.World.{World, opening, after_ack, after_take, after_answer}
use Rattle.flow_core.specs.Words.{Giving, from_list, with_given, after_letter, world_from}
use Rattle.flow_core.specs.WordLaws.{acks_in}
use Rattle.flow_core.proofs.WordLemmas.{Agree, take-keeps, answer-keeps, next-given}
use Rattle.campaign_core.specs.CampaignRow.{window_of, peak_from}

pub max-assoc : (a b c : ℕ) → max a (max b c) ≡ max (max a b) c
max-assoc a b c = omega arith

module _ {X : Type 0} (flow : Flow X) where
  pub peak-append : (giving : Giving X) (word : List Letter) (letter : Letter) (w : World X)
      → peak_from flow giving w (word ++ letter ∷ [])
      ≡ max (peak_from flow giving w word) (window_of flow (world_from flow giving w (word ++ letter ∷ [])))
  peak-append giving [] letter w = refl
  peak-append giving (first ∷ word) letter w =
      let next = after_letter flow giving w first in
      ap (λ (n : ℕ). max (window_of flow w) n) (peak-append giving word letter next)
      ∙ max-assoc (window_of flow w) (peak_from flow giving next word)
      (window_of flow (world_from flow giving next (word ++ letter ∷ [])))

  -- two sources that agree on a word give the same greatest window
  pub peak_from-agreed : (one other : Giving X) (word : List Letter) (w : World X) → Agree flow one other w word
      → peak_from flow one w word ≡ peak_from flow other w word
  peak_from-agreed one other [] w agree = refl
  peak_from-agreed one other (A ∷ rest) w agree =
      ap (λ (n : ℕ). max (window_of flow w) n)
      (peak_from-agreed one other rest (after_letter flow one w A) agree.1
      ∙ ap (λ (given : Option Ack). peak_from flow other (with_given flow given w) rest) agree.0)
  peak_from-agreed one other (T ∷ rest) w agree =
      ap (λ (n : ℕ). max (window_of flow w) n) (peak_from-agreed one other rest (after_take w) agree.1)
  peak_from-agreed one other (C ∷ rest) w agree =
      ap (λ (n : ℕ). max (window_of flow w) n) (peak_from-agreed one other rest (after_answer flow w) agree.1)

  peak-more-from : (acks more : List Ack) (word : List Letter) (w : World X) (rest : List Ack)
      → acks ≡ w.acks ++ rest → acks_in word ≤ length rest
      → peak_from flow (from_list (acks ++ more)) w word ≡ peak_from flow (from_list acks) w word
  peak-more-from acks more [] w rest split enough = refl
  peak-more-from acks more (A ∷ word) w [] split enough = absurd (omega (arith, enough))
  peak-more-from acks more (A ∷ word) w (ack ∷ rest) split enough =
      let longer : acks ++ more ≡ w.acks ++ ack ∷ (rest ++ more) =
      ap (λ (xs : List Ack). xs ++ more) split ∙ append_assoc w.acks (ack ∷ rest) more in
      let one : from_list {X = X} (acks ++ more) w ≡ Some ack = next-given flow (acks ++ more) w ack (rest ++ more) longer in
      let other : from_list {X = X} acks w ≡ Some ack = next-given flow acks w ack rest split in
      let after = peak-more-from acks more word (after_ack flow ack w) rest
      (split ∙ sym (append_assoc w.acks (ack ∷ []) rest)) (omega (arith, enough)) in
      ap (λ (given : Option Ack). max (window_of flow w) (peak_from flow (from_list (acks ++ more)) (with_given flow given w) word)) one
      ∙ ap (λ (n : ℕ). max (window_of flow w) n) after
      ∙ ap (λ (given : Option Ack). max (window_of flow w) (peak_from flow (from_list acks) (with_given flow given w) word)) (sym other)
  peak-more-from acks more (T ∷ word) w rest split enough =
      ap (λ (n : ℕ). max (window_of flow w) n)
      (peak-more-from acks more word (after_take w) rest (split ∙ ap (λ (xs : List Ack). xs ++ rest) (sym (take-keeps flow w).acks)) enough)
  peak-more-from acks more (C ∷ word) w rest split enough =
      ap (λ (n : ℕ). max (window_of flow w) n)
      (peak-more-from acks more word (after_answer flow w) rest (split ∙ ap (λ (xs : List Ack). xs ++ rest) (sym (answer-keeps flow w).acks)) enough)

  -- acknowledgements past those that the word takes don't matter
  pub peak-more : (acks more : List Ack) (word : List Letter) → acks_in word ≤ length acks
      → peak_from flow (from_list (acks ++ more)) (opening flow) word ≡ peak_from flow (from_list acks) (opening flow) word
  peak-more acks more word enough = peak-more-from acks more word (opening flow) acks refl enough
