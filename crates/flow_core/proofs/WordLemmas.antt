-- Which acknowledgements a word takes, and when two sources of them lead to the same state.
use Rattle.std.specs.Prelude.{◌≡◌, ◌≤◌, Bool, true, ◌&&◌, nat_le, Option, Some, None, List, [], ◌∷◌, ◌++◌, length, slice_get, refl}
use Rattle.std.proofs.Common.{ap, sym, ◌∙◌, subst, arith, append_assoc, append-nil, length-append}
use Rattle.std.proofs.lemmas.Bool.{le-leb}
use Rattle.ccp_base.specs.declared.ack.Ack.{Ack}
use Rattle.ccp_base.specs.declared.exchange.Report.{Report}
use Rattle.ccp_base.specs.declared.exchange.Reply.{Reply}
use Rattle.ccp_base.specs.declared.exchange.Reply.TheVariants.{Nothing, Update, Change}
use Rattle.agent_core.specs.declared.agent.Agent.{Agent}
use Rattle.agent_core.specs.Agents.{replied}
use Rattle.flow_core.specs.declared.letter.Letter.{Letter}
use Rattle.flow_core.specs.declared.letter.Letter.TheVariants.{A, T, C}
use Rattle.flow_core.specs.Readings.{Flow}
use Rattle.flow_core.specs.World.{Failure, Content, Taken, World, opening, takeable, after_ack, with_taken, after_take, told_as, with_turn, answer_applied, after_answer}
use Rattle.flow_core.specs.Words.{Giving, from_list, with_given, after_letter, world_from, world_over, is_legal, legal_from, legal_over}
use Rattle.flow_core.specs.WordLaws.{acks_in, acks_in-A, world_over-append, legal_over-append}

-- ---- T and C leave the acknowledgements and the windows

-- the second state has the acknowledgements and the windows of the first
pub record Keeps {X : Type 0} (before now : World X) : Type 0 where
  pub acks : now.acks ≡ before.acks
  pub windows : now.windows ≡ before.windows

-- ---- the next one of a list

-- the one after those of a front
pub slice_get-next : (front : List Ack) (ack : Ack) (rest : List Ack) → slice_get (front ++ ack ∷ rest) (length front) ≡ Some ack
slice_get-next [] ack rest = refl
slice_get-next (first ∷ front) ack rest = slice_get-next front ack rest

-- each acknowledgement of a word is given, if the list has as many
pub all-given : (acks : List Ack) (word : List Letter) → acks_in word ≤ length acks → nat_le (acks_in word) (length acks) ≡ true
all-given acks word enough = le-leb (acks_in word) (length acks) enough

module _ {X : Type 0} (flow : Flow X) where
  taken-keeps : (taken : Option (Content X × (List Report × Option (Failure X)))) (w : World X) → Keeps w (with_taken taken w)
  taken-keeps None w = record { acks = refl; windows = refl }
  taken-keeps (Some taken) w = record { acks = refl; windows = refl }

  turn-keeps : (ticket : Taken X) (turn : Agent × Reply) (w : World X) → Keeps w (with_turn flow ticket turn w)
  turn-keeps ticket (agent, Nothing) w = record { acks = refl; windows = refl }
  turn-keeps ticket (agent, Update cwnd) w = record { acks = refl; windows = refl }
  turn-keeps ticket (agent, Change program cwnd cap) w = record { acks = refl; windows = refl }

  applied-keeps : (out : Option (Taken X)) (w : World X) → Keeps w (answer_applied flow out w)
  applied-keeps None w = record { acks = refl; windows = refl }
  applied-keeps (Some ticket) w = turn-keeps ticket (replied w.agent (told_as flow ticket.told)) w

  pub take-keeps : (w : World X) → Keeps w (after_take w)
  take-keeps w = taken-keeps (takeable w.waiting w.untold) w

  pub answer-keeps : (w : World X) → Keeps w (after_answer flow w)
  answer-keeps w = applied-keeps w.out w

  -- ---- two sources of acknowledgements

  abbrev pub AgreeAt : Letter → Option Ack → Option Ack → Type 0
  AgreeAt A one other = one ≡ other
  AgreeAt T one other = Unit {0}
  AgreeAt C one other = Unit {0}

  -- at each acknowledgement of a word from this state on, both give the same
  abbrev pub Agree : Giving X → Giving X → World X → List Letter → Type 0
  Agree one other w [] = Unit {0}
  Agree one other w (letter ∷ rest) = AgreeAt letter (one w) (other w) × Agree one other (after_letter flow one w letter) rest

  letter-agreed : (one other : Giving X) (letter : Letter) (w : World X) → AgreeAt letter (one w) (other w)
      → after_letter flow one w letter ≡ after_letter flow other w letter
  letter-agreed one other A w agree = ap (λ (given : Option Ack). with_given flow given w) agree
  letter-agreed one other T w agree = refl
  letter-agreed one other C w agree = refl

  pub world_from-agreed : (one other : Giving X) (word : List Letter) (w : World X) → Agree one other w word
      → world_from flow one w word ≡ world_from flow other w word
  world_from-agreed one other [] w agree = refl
  world_from-agreed one other (letter ∷ rest) w agree =
      world_from-agreed one other rest (after_letter flow one w letter) agree.1
      ∙ ap (λ (v : World X). world_from flow other v rest) (letter-agreed one other letter w agree.0)

  pub legal_from-agreed : (one other : Giving X) (word : List Letter) (w : World X) → Agree one other w word
      → legal_from flow one w word ≡ legal_from flow other w word
  legal_from-agreed one other [] w agree = refl
  legal_from-agreed one other (letter ∷ rest) w agree =
      ap (λ (b : Bool). is_legal flow w letter && b) (legal_from-agreed one other rest (after_letter flow one w letter) agree.1
      ∙ ap (λ (v : World X). legal_from flow other v rest) (letter-agreed one other letter w agree.0))

  -- ---- acknowledgements past those that a word takes

  -- the list has an acknowledgement for each of the word's that is left
  pub next-given : (acks : List Ack) (w : World X) (ack : Ack) (rest : List Ack) → acks ≡ w.acks ++ ack ∷ rest → from_list {X = X} acks w ≡ Some ack
  next-given acks w ack rest split = ap (λ (xs : List Ack). slice_get xs (length w.acks)) split ∙ slice_get-next w.acks ack rest

  more-agree : (acks more : List Ack) (word : List Letter) (w : World X) (rest : List Ack)
      → acks ≡ w.acks ++ rest → acks_in word ≤ length rest
      → Agree (from_list (acks ++ more)) (from_list acks) w word
  more-agree acks more [] w rest split enough = tt
  more-agree acks more (A ∷ word) w [] split enough = absurd (omega arith)
  more-agree acks more (A ∷ word) w (ack ∷ rest) split enough =
      let longer : acks ++ more ≡ w.acks ++ ack ∷ (rest ++ more) =
      ap (λ (xs : List Ack). xs ++ more) split ∙ append_assoc w.acks (ack ∷ rest) more in
      let one = next-given (acks ++ more) w ack (rest ++ more) longer in
      let after = more-agree acks more word (after_ack flow ack w) rest
      (split ∙ sym (append_assoc w.acks (ack ∷ []) rest)) (omega arith) in (
        one ∙ sym (next-given acks w ack rest split),
        subst (λ (given : Option Ack). Agree (from_list (acks ++ more)) (from_list acks) (with_given flow given w) word) (sym one) after,
      )
  more-agree acks more (T ∷ word) w rest split enough = (
    tt,
    more-agree acks more word (after_take w) rest (split ∙ ap (λ (xs : List Ack). xs ++ rest) (sym (take-keeps w).acks)) enough,
  )
  more-agree acks more (C ∷ word) w rest split enough = (
    tt,
    more-agree acks more word (after_answer flow w) rest (split ∙ ap (λ (xs : List Ack). xs ++ rest) (sym (answer-keeps w).acks)) enough,
  )

  -- acknowledgements past those that the word takes don't matter
  pub world_over-more : (acks more : List Ack) (word : List Letter) → acks_in word ≤ length acks
      → world_over flow (acks ++ more) word ≡ world_over flow acks word
  world_over-more acks more word enough =
      world_from-agreed (from_list (acks ++ more)) (from_list acks) word (opening flow)
      (more-agree acks more word (opening flow) acks refl enough)

  pub legal_over-more : (acks more : List Ack) (word : List Letter) → acks_in word ≤ length acks
      → legal_over flow (acks ++ more) word ≡ legal_over flow acks word
  legal_over-more acks more word enough =
      let longer = all-given (acks ++ more) word (omega (arith, enough, length-append acks more)) in
      let legals =
      legal_from-agreed (from_list (acks ++ more)) (from_list acks) word (opening flow)
      (more-agree acks more word (opening flow) acks refl enough) in
      λ i. (longer ∙ sym (all-given acks word enough)) i && legals i

  acks-taken : (acks : List Ack) (word : List Letter) (w : World X) (rest : List Ack)
      → acks ≡ w.acks ++ rest → acks_in word ≡ length rest
      → (world_from flow (from_list acks) w word).acks ≡ acks
  acks-taken acks [] w [] split enough = sym (append-nil w.acks) ∙ sym split
  acks-taken acks [] w (ack ∷ rest) split enough = absurd (omega arith)
  acks-taken acks (A ∷ word) w [] split enough = absurd (omega arith)
  acks-taken acks (A ∷ word) w (ack ∷ rest) split enough =
      subst (λ (given : Option Ack). (world_from flow (from_list acks) (with_given flow given w) word).acks ≡ acks)
      (sym (next-given acks w ack rest split))
      (acks-taken acks word (after_ack flow ack w) rest (split ∙ sym (append_assoc w.acks (ack ∷ []) rest)) (omega arith))
  acks-taken acks (T ∷ word) w rest split enough =
      acks-taken acks word (after_take w) rest (split ∙ ap (λ (xs : List Ack). xs ++ rest) (sym (take-keeps w).acks)) enough
  acks-taken acks (C ∷ word) w rest split enough =
      acks-taken acks word (after_answer flow w) rest (split ∙ ap (λ (xs : List Ack). xs ++ rest) (sym (answer-keeps w).acks)) enough

  -- a word that takes the whole list has its acknowledgements
  pub acks-of-world_over : (acks : List Ack) (word : List Letter) → acks_in word ≡ length acks → (world_over flow acks word).acks ≡ acks
  acks-of-world_over acks word all = acks-taken acks word (opening flow) acks refl all

  -- one more acknowledgement at the ends of the list and of a word that takes all of it
  pub world_over-A : (acks : List Ack) (ack : Ack) (word : List Letter) → acks_in word ≡ length acks
      → world_over flow (acks ++ ack ∷ []) (word ++ A ∷ []) ≡ after_ack flow ack (world_over flow acks word)
  world_over-A acks ack word all =
      let longer = acks ++ ack ∷ [] in
      let before = world_over flow acks word in
      let last : longer ≡ before.acks ++ ack ∷ [] =
      ap (λ (xs : List Ack). xs ++ ack ∷ []) (sym (acks-of-world_over acks word all)) in
      world_over-append flow longer word A
      ∙ ap (λ (v : World X). with_given flow (slice_get longer (length v.acks)) v) (world_over-more acks (ack ∷ []) word (omega arith))
      ∙ ap (λ (given : Option Ack). with_given flow given before) (next-given longer before ack [] last)

  pub legal_over-A : (acks : List Ack) (ack : Ack) (word : List Letter) → acks_in word ≡ length acks
      → legal_over flow (acks ++ ack ∷ []) (word ++ A ∷ []) ≡ (legal_over flow acks word && is_legal flow (world_over flow acks word) A)
  legal_over-A acks ack word all =
      let longer = acks ++ ack ∷ [] in
      let one = length-append acks (ack ∷ []) in
      let given =
      all-given longer (word ++ A ∷ []) (omega (arith, all, one, acks_in-A word)) ∙ sym (all-given longer word (omega (arith, all, one))) in
      legal_over-append flow longer word A given
      ∙ (λ i. legal_over-more acks (ack ∷ []) word (omega arith) i && is_legal flow (world_over-more acks (ack ∷ []) word (omega arith) i) A)
