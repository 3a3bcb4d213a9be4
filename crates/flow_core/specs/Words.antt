-- A flow's history as a word, and the state after a word.
use Rattle.std.specs.Prelude.{ℕ, ◌+◌, ◌*◌, Bool, true, not, ◌&&◌, nat_lt, nat_le, is_some, is_none, Option, Some}
use Rattle.std.specs.Prelude.{None, List, [], ◌∷◌, length, slice_get}
use Rattle.ccp_base.specs.declared.ack.Ack.{Ack}
use Rattle.link_model.specs.declared.link_case.LinkCase.{LinkCase}
use Rattle.link_model.specs.Link.{ack_after}
use Rattle.flow_core.specs.declared.letter.Letter.{Letter}
use Rattle.flow_core.specs.declared.letter.Letter.TheVariants.{A, T, C}
use Rattle.flow_core.specs.Readings.{Flow}
use Rattle.flow_core.specs.World.{World, opening, track_of, takeable, after_ack, after_take, after_answer}

-- what an acknowledgement of a flow is, after a state
abbrev pub Giving : Type 0 → Type 0
Giving X = World X → Option Ack

-- the acknowledgements are those of a list, in order
abbrev pub from_list : {X : Type 0} → List Ack → Giving X
from_list acks w = slice_get acks (length w.acks)

-- each acknowledgement is the link's, for the windows so far and the present `Cwnd`
abbrev pub from_link : {X : Type 0} → Flow X → LinkCase → Giving X
from_link flow link w = Some (ack_after link w.windows (track_of flow w).env.cwnd)

abbrev pub with_given : {X : Type 0} → Flow X → Option Ack → World X → World X
with_given flow None w = w
with_given flow (Some ack) w = after_ack flow ack w

-- the state after one more letter
abbrev pub after_letter : {X : Type 0} → Flow X → Giving X → World X → Letter → World X
after_letter flow giving w A = with_given flow (giving w) w
after_letter flow giving w T = after_take w
after_letter flow giving w C = after_answer flow w

abbrev pub world_from : {X : Type 0} → Flow X → Giving X → World X → List Letter → World X
world_from flow giving w [] = w
world_from flow giving w (letter ∷ rest) = world_from flow giving (after_letter flow giving w letter) rest

-- the state after a word, with the acknowledgements of a list
abbrev pub world_over : {X : Type 0} → Flow X → List Ack → List Letter → World X
world_over flow acks word = world_from flow (from_list acks) (opening flow) word

-- the state after a word, with the acknowledgements of a link
abbrev pub world : {X : Type 0} → Flow X → LinkCase → List Letter → World X
world flow link word = world_from flow (from_link flow link) (opening flow) word

-- ---- legal and complete words

abbrev pub can_take : {X : Type 0} → World X → Bool
can_take w = is_some (takeable w.waiting w.untold)

-- an acknowledgement if fewer than the flow's are in; a taking if no ticket is out and a report waits or a notice is
-- untold; an answer if a ticket is out
abbrev pub is_legal : {X : Type 0} → Flow X → World X → Letter → Bool
is_legal flow w A = nat_lt (length w.acks) flow.acks
is_legal flow w T = is_none w.out && can_take w
is_legal flow w C = is_some w.out

abbrev pub legal_from : {X : Type 0} → Flow X → Giving X → World X → List Letter → Bool
legal_from flow giving w [] = true
legal_from flow giving w (letter ∷ rest) =
    is_legal flow w letter && legal_from flow giving (after_letter flow giving w letter) rest

-- the most letters of a word with `acks` acknowledgements: each makes one ticket at most, which is taken and answered
abbrev pub most_letters : ℕ → ℕ
most_letters acks = 3 * acks

-- how many of the letters are acknowledgements
abbrev pub acks_in : List Letter → ℕ
acks_in [] = 0
acks_in (A ∷ rest) = acks_in rest + 1
acks_in (T ∷ rest) = acks_in rest
acks_in (C ∷ rest) = acks_in rest

-- each letter is legal at its point, and the list has an acknowledgement for each that the word takes
abbrev pub legal_over : {X : Type 0} → Flow X → List Ack → List Letter → Bool
legal_over flow acks word = nat_le (acks_in word) (length acks) && legal_from flow (from_list acks) (opening flow) word

-- each letter is legal at its point; a link always has an acknowledgement
abbrev pub legal : {X : Type 0} → Flow X → LinkCase → List Letter → Bool
legal flow link word = legal_from flow (from_link flow link) (opening flow) word

-- no ticket is out and nothing can be taken
abbrev pub is_still : {X : Type 0} → World X → Bool
is_still w = is_none w.out && not (can_take w)

-- all acknowledgements are in, nothing can be taken and no ticket is out
abbrev pub is_complete : {X : Type 0} → Flow X → World X → Bool
is_complete flow w = not (nat_lt (length w.acks) flow.acks) && is_still w
