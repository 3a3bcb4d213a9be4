-- Laws of words: one that goes on, and how many acknowledgements it takes.
use Rattle.std.specs.Prelude.{◌≡◌, ℕ, ◌+◌, Bool, ◌&&◌, nat_le, List, [], ◌∷◌, ◌++◌, length, refl}
use Rattle.std.proofs.Common.{ap, sym, ◌∙◌}
use Rattle.std.proofs.Math.Bool.{and_assoc, and-true}
use Rattle.ccp_base.specs.declared.ack.Ack.{Ack}
use Rattle.link_model.specs.declared.link_case.LinkCase.{LinkCase}
use Rattle.flow_core.specs.declared.letter.Letter.{Letter}
use Rattle.flow_core.specs.declared.letter.Letter.TheVariants.{A, T, C}
use Rattle.flow_core.specs.Readings.{Flow}
use Rattle.flow_core.specs.World.{World, opening}
use Rattle.flow_core.specs.Words.{Giving, from_list, from_link, after_letter, world_from, world_over, world}
use Rattle.flow_core.specs.Words.{is_legal, legal_from, legal_over, legal}
pub use Rattle.flow_core.specs.Words.{acks_in}

pub acks_in-A : (word : List Letter) → acks_in (word ++ A ∷ []) ≡ acks_in word + 1
acks_in-A [] = refl
acks_in-A (A ∷ rest) = ap (λ (n : ℕ). n + 1) (acks_in-A rest)
acks_in-A (T ∷ rest) = acks_in-A rest
acks_in-A (C ∷ rest) = acks_in-A rest

pub acks_in-T : (word : List Letter) → acks_in (word ++ T ∷ []) ≡ acks_in word
acks_in-T [] = refl
acks_in-T (A ∷ rest) = ap (λ (n : ℕ). n + 1) (acks_in-T rest)
acks_in-T (T ∷ rest) = acks_in-T rest
acks_in-T (C ∷ rest) = acks_in-T rest

pub acks_in-C : (word : List Letter) → acks_in (word ++ C ∷ []) ≡ acks_in word
acks_in-C [] = refl
acks_in-C (A ∷ rest) = ap (λ (n : ℕ). n + 1) (acks_in-C rest)
acks_in-C (T ∷ rest) = acks_in-C rest
acks_in-C (C ∷ rest) = acks_in-C rest

-- ---- a word and then another one

pub world_from-append : {X : Type 0} → (flow : Flow X) (giving : Giving X) (w : World X) (word more : List Letter)
    → world_from flow giving w (word ++ more) ≡ world_from flow giving (world_from flow giving w word) more
world_from-append flow giving w [] more = refl
world_from-append flow giving w (letter ∷ rest) more =
    world_from-append flow giving (after_letter flow giving w letter) rest more

pub legal_from-append : {X : Type 0} → (flow : Flow X) (giving : Giving X) (w : World X) (word more : List Letter)
    → legal_from flow giving w (word ++ more)
    ≡ (legal_from flow giving w word && legal_from flow giving (world_from flow giving w word) more)
legal_from-append flow giving w [] more = refl
legal_from-append flow giving w (letter ∷ rest) more =
    let next = after_letter flow giving w letter in
    ap (λ (b : Bool). is_legal flow w letter && b) (legal_from-append flow giving next rest more)
    ∙ sym (and_assoc (is_legal flow w letter) (legal_from flow giving next rest)
    (legal_from flow giving (world_from flow giving next rest) more))

-- ---- a word and then a letter

-- the state after one more letter is that letter's step
pub world-append : {X : Type 0} → (flow : Flow X) (link : LinkCase) (word : List Letter) (letter : Letter)
    → world flow link (word ++ letter ∷ []) ≡ after_letter flow (from_link flow link) (world flow link word) letter
world-append flow link word letter = world_from-append flow (from_link flow link) (opening flow) word (letter ∷ [])

pub world_over-append : {X : Type 0} → (flow : Flow X) (acks : List Ack) (word : List Letter) (letter : Letter)
    → world_over flow acks (word ++ letter ∷ []) ≡ after_letter flow (from_list acks) (world_over flow acks word) letter
world_over-append flow acks word letter = world_from-append flow (from_list acks) (opening flow) word (letter ∷ [])

-- a word with one more letter is legal if and only if the word is and the letter is legal then
pub legal-append : {X : Type 0} → (flow : Flow X) (link : LinkCase) (word : List Letter) (letter : Letter)
    → legal flow link (word ++ letter ∷ []) ≡ (legal flow link word && is_legal flow (world flow link word) letter)
legal-append flow link word letter =
    legal_from-append flow (from_link flow link) (opening flow) word (letter ∷ [])
    ∙ ap (λ (b : Bool). legal flow link word && b) (and-true (is_legal flow (world flow link word) letter))

legals-append : {X : Type 0} → (flow : Flow X) (acks : List Ack) (word : List Letter) (letter : Letter)
    → legal_from flow (from_list acks) (opening flow) (word ++ letter ∷ [])
    ≡ (legal_from flow (from_list acks) (opening flow) word && is_legal flow (world_over flow acks word) letter)
legals-append flow acks word letter =
    legal_from-append flow (from_list acks) (opening flow) word (letter ∷ [])
    ∙ ap (λ (b : Bool). legal_from flow (from_list acks) (opening flow) word && b)
    (and-true (is_legal flow (world_over flow acks word) letter))

-- the same over a list that has an acknowledgement for each of the longer word if it has one for each of the word
pub legal_over-append : {X : Type 0} → (flow : Flow X) (acks : List Ack) (word : List Letter) (letter : Letter)
    → nat_le (acks_in (word ++ letter ∷ [])) (length acks) ≡ nat_le (acks_in word) (length acks)
    → legal_over flow acks (word ++ letter ∷ [])
    ≡ (legal_over flow acks word && is_legal flow (world_over flow acks word) letter)
legal_over-append flow acks word letter given =
    (λ i. given i && legals-append flow acks word letter i)
    ∙ sym (and_assoc (nat_le (acks_in word) (length acks)) (legal_from flow (from_list acks) (opening flow) word)
    (is_legal flow (world_over flow acks word) letter))
