-- What the caller of a run knows of its flows: a list in the order of the flows, with the number of each and after how
-- many rounds it is known.
use Rattle.std.specs.Prelude.{◌≡◌, ℕ, ◌+◌, ◌<◌, ◌≤◌, Bool, false, Some, List, [], ◌∷◌, length, map, slice_get, slice_set}
use Rattle.ccp_base.specs.declared.ack.Ack.{Ack}
use Rattle.shared_rounds.specs.Orders.{FlowPart, parts_of_worker}

-- the number of a flow and of rounds
abbrev pub FlowRound : Type 0
FlowRound = ℕ × ℕ

-- flow `number` is known after this many rounds
abbrev pub IsKnown : List FlowRound → ℕ → ℕ → Type 0
IsKnown known number round = slice_get known number ≡ Some (number, round)

-- so is every flow
abbrev pub AreKnown : List FlowRound → ℕ → Type 0
AreKnown known round = (number : ℕ) → number < length known → IsKnown known number round

-- so are those from `first` on
abbrev pub AreKnownFrom : ℕ → List FlowRound → ℕ → Type 0
AreKnownFrom first known round = (number : ℕ) → first ≤ number → number < length known → IsKnown known number round

-- what is known after this many rounds stays known
abbrev pub StayKnown : ℕ → List FlowRound → List FlowRound → Type 0
StayKnown round old new = (number : ℕ) → IsKnown old number round → IsKnown new number round

-- ---- in a round, which comes after `round` rounds, and in which the flows have these acknowledgements

-- the flows that have none are known after it
abbrev pub AreRested : ℕ → List (List Ack) → List FlowRound → Type 0
AreRested round lists known =
    (number : ℕ) (acks : List Ack) → slice_get lists number ≡ Some acks → length acks ≡ 0
    → IsKnown known number (round + 1)

-- so are the flows of these parts
abbrev pub ArePartsKnown : ℕ → List FlowPart → List FlowRound → Type 0
ArePartsKnown round [] known = Unit {0}
ArePartsKnown round (part ∷ rest) known = IsKnown known part.0 (round + 1) × ArePartsKnown round rest known

-- the flows of these parts, before the round
abbrev pub flow_rounds : ℕ → List FlowPart → List FlowRound
flow_rounds round parts = map (λ (part : FlowPart). (part.0, round)) parts

-- what is known once each of these flows is known after one more round, one after another
abbrev pub with_rounds : List FlowRound → List FlowRound → List FlowRound
with_rounds [] known = known
with_rounds (flow ∷ rest) known = with_rounds rest (slice_set known flow.0 (flow.0, flow.1 + 1))

-- as above, the last one first
abbrev pub with_rounds_back : List FlowRound → List FlowRound → List FlowRound
with_rounds_back [] known = known
with_rounds_back (flow ∷ rest) known = slice_set (with_rounds_back rest known) flow.0 (flow.0, flow.1 + 1)

-- so are those of a worker's parts
abbrev pub IsDone : ℕ → ℕ → List (List Ack) → List FlowRound → ℕ → Type 0
IsDone workers round lists known worker = ArePartsKnown round (parts_of_worker workers worker lists) known

abbrev pub AreDone : ℕ → ℕ → List (List Ack) → List FlowRound → Type 0
AreDone workers round lists known = (worker : ℕ) → worker < workers → IsDone workers round lists known worker

-- so are those of each worker from `first` on whose thread has no order
abbrev pub AreDoneOrOut : ℕ → ℕ → List (List Ack) → List Bool → List FlowRound → ℕ → Type 0
AreDoneOrOut workers round lists busy known first =
    (worker : ℕ) → first ≤ worker → worker < workers → slice_get busy worker ≡ Some false
    → IsDone workers round lists known worker
