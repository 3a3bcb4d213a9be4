-- The letters of a flow's part of a round: its acknowledgements, each with what is taken and answered after it.
use Rattle.std.specs.Prelude.{◌≡◌, ℕ, zero, suc, Bool, true, false, Option, Some, None, List, [], ◌∷◌}
use Rattle.ccp_base.specs.declared.ack.Ack.{Ack}
use Rattle.flow_core.specs.declared.letter.Letter.{Letter}
use Rattle.flow_core.specs.declared.letter.Letter.TheVariants.{T, C}
use Rattle.flow_core.specs.Words.{is_legal}
use Rattle.flow_core.specs.Cores.{CoreState, with_ack}
use Rattle.campaign_core.specs.CampaignWord.{is_answer_due, first_letter}
use Rattle.campaign_core.specs.FlowRow.{CaseReading, world_of_core, with_letter}
use Rattle.flow_core.specs.LettersLeft.{letters_left}

-- ---- taking and answering

-- whether an answer comes next: on the way if it is due, as in the campaign word, and at the run's end if a ticket is
-- out
abbrev pub answers_next : {X : Type 0} → Bool → CaseReading X → CoreState → Bool
answers_next false read core = is_answer_due (read core.case) core.case.lag (world_of_core read core)
answers_next true read core = is_legal (read core.case) (world_of_core read core) C

-- the next letter without an acknowledgement: C if an answer comes next, else T if it is legal
abbrev pub settling_letter : {X : Type 0} → Bool → CaseReading X → CoreState → Option Letter
settling_letter at_end read core =
    first_letter (answers_next at_end read core) (is_legal (read core.case) (world_of_core read core) T) false

abbrev pub with_next : Option Letter → (CoreState → CoreState) → CoreState → CoreState
with_next None rest core = core
with_next (Some letter) rest core = rest (with_letter letter core)

-- such letters again and again, at most this many
abbrev pub settled_in : {X : Type 0} → Bool → CaseReading X → ℕ → CoreState → CoreState
settled_in at_end read zero core = core
settled_in at_end read (suc more) core =
    with_next (settling_letter at_end read core) (settled_in at_end read more) core

-- such letters until none comes: as many as the flow's word can have yet, which `SettlingEnds` says is enough
abbrev pub after_settling : {X : Type 0} → Bool → CaseReading X → CoreState → CoreState
after_settling at_end read core = settled_in at_end read (letters_left (read core.case) (world_of_core read core)) core

-- after them no such letter comes, on the way and at the run's end
abbrev pub SettlingEnds : {X : Type 0} → CaseReading X → Type 0
SettlingEnds read =
    (at_end : Bool) (core : CoreState) → settling_letter at_end read (after_settling at_end read core) ≡ None

-- ---- a part

-- an acknowledgement, and what is taken and answered after it
abbrev pub with_settled_ack : {X : Type 0} → CaseReading X → Ack → CoreState → CoreState
with_settled_ack read ack core = after_settling false read (with_ack core ack)

-- a flow's part of a round, in which it has these acknowledgements
abbrev pub round_part : {X : Type 0} → CaseReading X → List Ack → CoreState → CoreState
round_part read [] core = core
round_part read (ack ∷ rest) core = round_part read rest (with_settled_ack read ack core)

-- the run's end: nothing is out, and nothing is left to take
abbrev pub closed_flow : {X : Type 0} → CaseReading X → CoreState → CoreState
closed_flow read core = after_settling true read core
