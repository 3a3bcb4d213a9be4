-- What is kept of all flows, step by step: who sends next, what is sent in a round, and what is acknowledged.
use Rattle.std.specs.Prelude.{vec_capacity, ◌≡◌, ◌≢◌, ℕ, ◌<◌, ◌≤◌, if◌then◌else◌, List, [], length, get_or, slice_index}
use Rattle.ccp_base.specs.declared.ack.Ack.{Ack}
use Rattle.ccp_base.specs.Limits.{most_flight}
use Rattle.link_model.specs.Link.{GivenAck}
use Rattle.shared_link.specs.declared.shared_case.SharedCase.{SharedCase}
use Rattle.shared_link.specs.declared.round.Ask.{Ask}
use Rattle.shared_link.specs.declared.round.Counts.{Counts}
use Rattle.shared_link.specs.declared.flow_traffic.FlowTraffic.{FlowTraffic}
use Rattle.shared_link.specs.declared.flows.Flows.{Flows}
use Rattle.shared_link.specs.declared.sending.Sending.{Sending}
use Rattle.shared_link.specs.SharedRounds.{Sent, flow_link_at, ask_at, allowed, lacks, with_packet, sending_turn, turns_of, counts_in}
use Rattle.shared_link.specs.Reached.{Settled}
use Rattle.shared_link.specs.Kept.{flow_under_way, answered_all, IsFlowReady, most_answers, AnsweredTo, FlowsFollow, Follows}

-- ---- who sends next

-- it has fewer packets in flight than it may have
abbrev pub MaySend : FlowTraffic → Type 0
MaySend traffic = traffic.in_flight < traffic.allowance

-- it hasn't
abbrev pub HasEnough : FlowTraffic → Type 0
HasEnough traffic = traffic.allowance ≤ traffic.in_flight

-- a place of a list of flows while a turn goes on: before `kept`, or from `from` on before `count`
abbrev pub IsPlace : ℕ → ℕ → ℕ → ℕ → Type 0
IsPlace kept from count place = (place < count) × (kept ≤ place → from ≤ place)

-- the list has, at these places and in order, those of the first flows that have fewer packets in flight than they may
-- have
pub record AreLacking (flows : List FlowTraffic) (first : ℕ) (lacking : List ℕ) (kept from count : ℕ) : Type 0 where
  pub within : (place : ℕ) → IsPlace kept from count place → slice_index lacking place < first
  pub rises : (place later : ℕ) → IsPlace kept from count place → IsPlace kept from count later → place < later
      → slice_index lacking place < slice_index lacking later
  pub each : (place : ℕ) (other : FlowTraffic) → IsPlace kept from count place
      → MaySend (get_or flows (slice_index lacking place) other)
  pub others : (flow : ℕ) (other : FlowTraffic) → flow < first
      → ((place : ℕ) → IsPlace kept from count place → slice_index lacking place ≢ flow)
      → HasEnough (get_or flows flow other)

-- the list has the flows that have fewer, in order
abbrev pub ListsLacking : List FlowTraffic → List ℕ → Type 0
ListsLacking flows lacking = AreLacking flows (length flows) lacking 0 0 (length lacking)

-- the counts are those of what was sent and acknowledged in `rounds` rounds, whatever that was
abbrev pub TellsCounts : SharedCase → ℕ → Flows → Counts → Type 0
TellsCounts case rounds flows counts =
    (sent : List Sent) (givens : ℕ → List GivenAck) → FlowsFollow case flows.traffic.items sent givens
    → counts ≡ counts_in case (record { sent = sent; givens = givens; rounds = rounds })

-- ---- what is sent

-- the flows send more: if the link had these packets and acknowledgements before, it has the packets that `more` gives
-- afterwards
abbrev pub SendsOn : SharedCase → List FlowTraffic → Sending → List FlowTraffic → Sending → ((ℕ → List GivenAck) → List Sent → List Sent)
    → Type 0
SendsOn case old from new to more =
    (sent : List Sent) (givens : ℕ → List GivenAck) → Follows case old from sent givens
    → Follows case new to (more givens sent) givens

-- a flow sends one packet if it has fewer in flight than it may have
abbrev pub SendsOne : SharedCase → List Ask → ℕ → List FlowTraffic → Sending → List FlowTraffic → Sending → Type 0
SendsOne case asks flow old from new to =
    SendsOn case old from new to
    (λ givens sent.
    if lacks (allowed case from.now asks) givens flow sent then with_packet case from.now flow sent else sent)

-- all flows take a turn
abbrev pub SendsTurn : SharedCase → List Ask → List FlowTraffic → Sending → List FlowTraffic → Sending → Type 0
SendsTurn case asks old from new to =
    SendsOn case old from new to
    (λ givens sent. sending_turn case from.now (allowed case from.now asks) givens (length case.flows) sent)

-- all flows take all turns of a round
abbrev pub SendsAll : SharedCase → List Ask → List FlowTraffic → Sending → List FlowTraffic → Sending → Type 0
SendsAll case asks old from new to =
    SendsOn case old from new to
    (λ givens sent. turns_of case from.now (allowed case from.now asks) givens most_flight sent)

-- ---- what is acknowledged

-- the flow's traffic is ready after `rounds` rounds
abbrev pub IsReadyAt : SharedCase → ℕ → Flows → ℕ → Type 0
IsReadyAt case rounds flows flow =
    (other : FlowTraffic) → IsFlowReady (flow_link_at case flow) rounds (get_or flows.traffic.items flow other)

-- there is room for the flow's acknowledgements of a round
abbrev pub HasRoomAt : List Ask → Flows → ℕ → Type 0
HasRoomAt asks flows flow =
    (other : FlowTraffic) → most_answers asks flow (get_or flows.traffic.items flow other)
    ≤ vec_capacity (get_or flows.traffic.items flow other).acks

-- there is room for each flow's
abbrev pub HaveRoom : List Ask → Flows → Type 0
HaveRoom asks flows = (flow : ℕ) → flow < length flows.traffic.items → HasRoomAt asks flows flow

-- all flows but this one are as they were
abbrev pub AreOthersKept : ℕ → Flows → Flows → Type 0
AreOthersKept flow old new =
    (at : ℕ) (other : FlowTraffic) → at ≢ flow → get_or new.traffic.items at other ≡ get_or old.traffic.items at other

-- these are the flow's acknowledgements before a time
abbrev pub AnswersAt : SharedCase → List Ask → ℕ → ℕ → Flows → Flows → List Ack → Type 0
AnswersAt case asks end flow old new acks =
    (other : FlowTraffic) → record { acks = acks; standing = flow_under_way (get_or new.traffic.items flow other) }
    ≡ answered_all (flow_link_at case flow) end (ask_at asks flow).left
    (record { acks = []; standing = flow_under_way (get_or old.traffic.items flow other) })

-- these are all flows' acknowledgements before a time, whatever was sent and acknowledged before
abbrev pub AnswersAll : SharedCase → List Ask → ℕ → Flows → Flows → List (List Ack) → Type 0
AnswersAll case asks end old new answers =
    (now : ℕ) (sent : List Sent) (givens : ℕ → List GivenAck) → Settled case now sent givens
    → FlowsFollow case old.traffic.items sent givens
    → AnsweredTo case asks end new.traffic.items answers (length new.traffic.items) sent givens
