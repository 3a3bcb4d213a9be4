-- The rounds of a run over one link, by what its flows ask for in each.
use Rattle.std.specs.Prelude.{◌≡◌, ◌<◌, ◌≤◌, ℕ, zero, suc, ◌==◌, Bool, true, false, ◌&&◌, Some, List, [], ◌∷◌, ◌++◌, length, slice_get}
use Rattle.ccp_base.specs.declared.ack.Ack.{Ack}
use Rattle.shared_link.specs.declared.round.Ask.{Ask}
use Rattle.shared_link.specs.declared.shared_case.SharedCase.{SharedCase}
use Rattle.shared_link.specs.SharedRounds.{acks_after}
use Rattle.shared_link.specs.SharedStanding.{SharedState, Stands}

-- what the flows asked for in the rounds before
abbrev pub asked_before : (ℕ → List Ask) → ℕ → List (List Ask)
asked_before asks zero = []
asked_before asks (suc rounds) = asked_before asks rounds ++ asks rounds ∷ []

-- each flow's acknowledgements in the round that comes after these
abbrev pub acks_in_round : SharedCase → (ℕ → List Ask) → ℕ → List (List Ack)
acks_in_round link asks rounds = acks_after link (asked_before asks rounds) (asks rounds)

-- the flow has no acknowledgements in the rounds from `since` on, before `round`
abbrev pub Rests : SharedCase → (ℕ → List Ask) → ℕ → ℕ → ℕ → Type 0
Rests link asks number since round =
    (r : ℕ) (acks : List Ack) → since ≤ r → r < round → slice_get (acks_in_round link asks r) number ≡ Some acks
    → length acks ≡ 0

-- no flow asks for an acknowledgement
abbrev pub none_left : List Ask → Bool
none_left [] = true
none_left (ask ∷ rest) = (ask.left == 0) && none_left rest

-- the link stands as the run does after this many rounds
pub record StandsAfter (link : SharedCase) (asks : ℕ → List Ask) (rounds : ℕ) (state : SharedState) : Type 0 where
  pub case : state.case ≡ link
  pub rounds_are : state.rounds ≡ rounds
  pub stands : Stands state (asked_before asks rounds)

-- the run goes on after each of its first rounds
abbrev pub GoesOn : (ℕ → List Ask) → ℕ → Type 0
GoesOn asks rounds = (earlier : ℕ) → 0 < earlier → earlier < rounds → none_left (asks earlier) ≡ false

-- the run of at most `most` rounds ended after `rounds`, and the link is in this state: after the first round in which no
-- flow asks for more, or else after the last one that may come
pub record HasEnded (link : SharedCase) (asks : ℕ → List Ask) (most rounds : ℕ) (state : SharedState) : Type 0 where
  pub stands : StandsAfter link asks rounds state
  pub few : rounds ≤ most
  pub first : GoesOn asks rounds
  pub last : rounds < most → (0 < rounds) × (none_left (asks rounds) ≡ true)
