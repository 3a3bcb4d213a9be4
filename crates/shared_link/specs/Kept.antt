-- What a shared link keeps, step by step: one more packet of a flow, and a flow's acknowledgements in a round.
use Rattle.std.specs.Prelude.{map, min, vec_capacity, ◌≡◌, ℕ, zero, suc, ◌+◌, ◌-◌, ◌*◌, ◌<◌, ◌≤◌, max, ◌&&◌, nat_lt, Option, Some, None, if◌then◌else◌, List, [], ◌∷◌, ◌++◌, length, drop, get_or, slice_get, slice_index}
use Rattle.ccp_base.specs.declared.ack.Ack.{Ack}
use Rattle.ccp_base.specs.Limits.{most_flight, most_queue, most_delay_us, most_rounds, most_quantum_us}
use Rattle.link_model.specs.declared.arrival.Arrival.{Arrival}
use Rattle.link_model.specs.declared.chance.Chance.{Chance}
use Rattle.link_model.specs.Traces.{longest_period, IsTrace}
use Rattle.link_model.specs.Chances.{chance_number, first_chance}
use Rattle.link_model.specs.Link.{Fate, Served, GivenAck, chance_past, chances_past, is_marked, fate_of, past_in, arrival_ack_of, timeout_ack_of}
use Rattle.link_model.specs.LinkMoves.{flight_count}
use Rattle.link_model.specs.Horizon.{ArriveWithin}
use Rattle.shared_link.specs.declared.shared_case.FlowLink.{FlowLink}
use Rattle.shared_link.specs.declared.shared_case.SharedCase.{SharedCase}
use Rattle.shared_link.specs.declared.round.Ask.{Ask}
use Rattle.shared_link.specs.declared.flow_traffic.FlowTraffic.{FlowTraffic}
use Rattle.shared_link.specs.declared.sending.Sending.{Sending}
use Rattle.shared_link.specs.SharedRounds.{Sent, flow_link_at, ask_at, every_packet, own_packets, allowed, turns_of, since_start, answers, with_givens, acks_of_givens, each_flow}
use Rattle.shared_link.specs.SharedStanding.{FlowStanding, SharedState, no_flight, with_fate, flow_standing}
use Rattle.shared_link.specs.SharedLimits.{IsWithin}
use Rattle.shared_link.specs.Reached.{Settled}

-- what is under way of a flow: a packet that was sent and neither was acknowledged nor is in flight left as lost
abbrev pub flow_under_way : FlowTraffic → FlowStanding
flow_under_way flow = record {
  time = flow.time;
  past = flow.past;
  flight = record { arrivals = flow.flight.items; lost = flow.lost; since = flow.since };
  sent = flow.sent;
  acked = flow.acked;
  gone = flow.sent - flow.acked - flow.in_flight;
}

-- how a link of these parts stands; it keeps chances by their turns and places, the standing has their numbers
abbrev pub link_state : SharedCase → ℕ → Chance → List FlowTraffic → SharedState
link_state case rounds next flows = record {
  case = case;
  rounds = rounds;
  chance = chance_number case.trace next;
  flows = map flow_under_way flows;
}

-- how long after a round's time the next chance may come, in microseconds. At most `most_queue` packets wait; they have
-- the first chances from a microsecond after that time on, and the next chance is the one after theirs. Each of these
-- comes at most the longest period after the one before.
abbrev pub span : ℕ
span = (most_queue + 1) * longest_period + 1

-- all times are at most this, in microseconds: the latest round's time, how long after it a chance may come, and a
-- delay
abbrev pub horizon : ℕ
horizon = most_rounds * most_quantum_us + span + most_delay_us

-- what holds of the traffic of a flow at every moment
pub record IsFlowKept (link : FlowLink) (flow : FlowTraffic) : Type 0 where
  pub places : flow.allowance ≤ flow.flight.capacity
  pub count : flow.in_flight ≡ flight_count flow.flight.items flow.lost
  pub few : flow.in_flight ≤ most_flight
  pub allowance : flow.allowance ≤ most_flight
  pub passed : (i : ℕ) → i < flow.passed → slice_index link.losses i < flow.sent
  pub arrivals : ArriveWithin horizon flow.flight.items
  pub time : flow.time ≤ horizon
  pub since : flow.since ≤ horizon
  pub sum : flow.acked + flow.in_flight ≤ flow.sent

-- ---- sending

-- a flow with one more packet, which is sent at this time and has this fate
abbrev pub with_one : List ℕ → ℕ → ℕ → Fate → FlowStanding → FlowStanding
with_one times delay now fate standing = record {
  time = standing.time;
  past = standing.past;
  flight = with_fate times delay now fate standing.flight;
  sent = standing.sent + 1;
  acked = standing.acked;
  gone = standing.gone;
}

-- the fate of the packet that is sent next, if the queue holds `room` packets and the flow has sent `sent`
abbrev pub fate_now : List ℕ → FlowLink → ℕ → ℕ → Sending → Fate
fate_now times link room sent sending =
    fate_of link.losses room link.mark sent sending.queue.waiting (chance_number times sending.queue.next)

-- the fate of a packet that gets the queue's next chance
abbrev pub served_now : List ℕ → FlowLink → Sending → Fate
served_now times link sending =
    Served (chance_number times sending.queue.next) (is_marked link.mark sending.queue.waiting)

-- the next chance is the one past the packet that is sent next
abbrev pub IsNextChance : List ℕ → FlowLink → ℕ → ℕ → Sending → Sending → Type 0
IsNextChance times link room sent old new =
    chance_number times new.next ≡ chance_past (fate_now times link room sent old) (chance_number times old.next)

-- the sending of a round: the queue is that at its time, after the chances that were given
pub record IsSending (times : List ℕ) (sending : Sending) : Type 0 where
  pub valid : IsTrace times
  pub rounds : sending.rounds < most_rounds
  pub now : sending.now ≤ most_rounds * most_quantum_us
  pub next_place : sending.next.place < length times
  pub place : sending.queue.next.place < length times
  pub next : chance_number times sending.queue.next
      ≡ max (chance_number times sending.next) (first_chance times sending.now 0)
  pub waiting : sending.queue.waiting ≡ chance_number times sending.next - first_chance times (sending.now + 1) 0
  pub few : sending.queue.waiting ≤ most_queue

-- ---- acknowledging

-- a flow with its acknowledgements of a round so far
pub record AnsweredFlow : Type 0 where
  pub acks : List Ack
  pub standing : FlowStanding

abbrev pub answered_in : FlowTraffic → AnsweredFlow
answered_in flow = record { acks = flow.acks.items; standing = flow_under_way flow }

-- the acknowledgement of the first packet in flight that isn't lost
abbrev pub arrival_ack_to : FlowLink → Arrival → FlowStanding → Ack
arrival_ack_to link arrival standing =
    since_start link.mss link.start_us (standing.acked + 1) standing.sent
    (arrival_ack_of link.mss arrival.sent_at arrival.at arrival.marked standing.past arrival.lost
    (flight_count (drop 1 standing.flight.arrivals) standing.flight.lost) (standing.acked + 1) standing.sent)

abbrev pub with_arrival : FlowLink → Arrival → AnsweredFlow → AnsweredFlow
with_arrival link arrival answered = record {
  acks = answered.acks ++ arrival_ack_to link arrival answered.standing ∷ [];
  standing = record {
    time = arrival.at;
    past = past_in (arrival_ack_to link arrival answered.standing);
    flight = record {
      arrivals = drop 1 answered.standing.flight.arrivals;
      lost = answered.standing.flight.lost;
      since = answered.standing.flight.since;
    };
    sent = answered.standing.sent;
    acked = answered.standing.acked + 1;
    gone = answered.standing.gone + arrival.lost;
  };
}

-- the timeout at this time, if all packets in flight are lost
abbrev pub timeout_ack_to : FlowLink → ℕ → FlowStanding → Ack
timeout_ack_to link now standing =
    since_start link.mss link.start_us standing.acked standing.sent
    (timeout_ack_of link.mss now standing.past standing.flight.lost 0 standing.acked standing.sent)

abbrev pub with_timeout : FlowLink → ℕ → AnsweredFlow → AnsweredFlow
with_timeout link now answered = record {
  acks = answered.acks ++ timeout_ack_to link now answered.standing ∷ [];
  standing = record {
    time = now;
    past = past_in (timeout_ack_to link now answered.standing);
    flight = no_flight;
    sent = answered.standing.sent;
    acked = answered.standing.acked;
    gone = answered.standing.gone + answered.standing.flight.lost;
  };
}

abbrev pub timeout_now : FlowLink → FlowStanding → ℕ
timeout_now link standing = max standing.time standing.flight.since + link.timeout_us

abbrev pub timed_out : FlowLink → ℕ → AnsweredFlow → AnsweredFlow
timed_out link end answered =
    if nat_lt 0 answered.standing.flight.lost && nat_lt (timeout_now link answered.standing) end
    then with_timeout link (timeout_now link answered.standing) answered
    else answered

abbrev pub answered_by : FlowLink → ℕ → AnsweredFlow → Option Arrival → (AnsweredFlow → AnsweredFlow) → AnsweredFlow
answered_by link end answered None then_ = timed_out link end answered
answered_by link end answered (Some arrival) then_ =
    if nat_lt arrival.at end then then_ (with_arrival link arrival answered) else answered

-- the acknowledgements before the time `end`, at most `left`
abbrev pub answered_all : FlowLink → ℕ → ℕ → AnsweredFlow → AnsweredFlow
answered_all link end zero answered = answered
answered_all link end (suc left) answered =
    answered_by link end answered (slice_get answered.standing.flight.arrivals 0) (answered_all link end left)

-- ---- all flows

-- what is under way of each flow after these packets and acknowledgements
abbrev pub FlowsFollow : SharedCase → List FlowTraffic → List Sent → (ℕ → List GivenAck) → Type 0
FlowsFollow case flows sent givens =
    (flow : ℕ) (other : FlowTraffic) → flow < length flows
    → flow_under_way (get_or flows flow other)
    ≡ flow_standing case.trace (flow_link_at case flow) (own_packets flow sent) (givens flow)

-- the sending of a round after these packets and acknowledgements
pub record Follows (case : SharedCase) (flows : List FlowTraffic) (sending : Sending) (sent : List Sent)
    (givens : ℕ → List GivenAck) : Type 0 where
  pub settled : Settled case sending.now sent givens
  pub chance : chance_number case.trace sending.next ≡ chances_past (every_packet sent)
  pub traffic : FlowsFollow case flows sent givens

-- what holds of a flow's traffic after `rounds` rounds
pub record IsFlowReady (link : FlowLink) (rounds : ℕ) (flow : FlowTraffic) : Type 0 where
  pub kept : IsFlowKept link flow
  pub sent : flow.sent ≤ most_flight * rounds + flow.in_flight
  pub acks : flow.acks.items ≡ []

pub record AreReady (case : SharedCase) (rounds : ℕ) (flows : List FlowTraffic) : Type 0 where
  pub count : length flows ≡ length case.flows
  pub each : (flow : ℕ) (other : FlowTraffic) → flow < length flows
      → IsFlowReady (flow_link_at case flow) rounds (get_or flows flow other)

-- the most acknowledgements that a flow with this traffic can get in a round: one for each packet that is in flight or
-- that it may have in flight, and no more than it has left
abbrev pub most_answers : List Ask → ℕ → FlowTraffic → ℕ
most_answers asks flow traffic = min (ask_at asks flow).left (max traffic.in_flight traffic.allowance)

-- a flow with this traffic has begun the round at the time `now`: it keeps how many packets it may have in flight, and
-- there is room for its acknowledgements
pub record IsPrepared (case : SharedCase) (now : ℕ) (asks : List Ask) (flow : ℕ) (traffic : FlowTraffic) : Type 0 where
  pub allowance : traffic.allowance ≡ allowed case now asks flow
  pub room : most_answers asks flow traffic ≤ vec_capacity traffic.acks

-- each of the first `first` flows has begun the round
abbrev pub ArePrepared : SharedCase → ℕ → List Ask → ℕ → List FlowTraffic → Type 0
ArePrepared case now asks first flows =
    (flow : ℕ) (other : FlowTraffic) → flow < first → IsPrepared case now asks flow (get_or flows flow other)

-- some turns of a round's sending were made: from the packets sent so far, `left` more turns lead to the same packets
-- as all turns do from `sent`
pub record TurnsMade (case : SharedCase) (asks : List Ask) (flows : List FlowTraffic) (sending : Sending) (left : ℕ)
    (sent : List Sent) (givens : ℕ → List GivenAck) : Type 0 where
  pub so_far : List Sent
  pub follows : Follows case flows sending so_far givens
  pub rest : turns_of case sending.now (allowed case sending.now asks) givens left so_far
      ≡ turns_of case sending.now (allowed case sending.now asks) givens most_flight sent

-- the acknowledgements of a flow before a time
abbrev pub acks_before : SharedCase → List Ask → ℕ → List Sent → (ℕ → List GivenAck) → ℕ → List GivenAck
acks_before case asks end sent givens flow =
    answers case.trace (flow_link_at case flow) end (own_packets flow sent) (ask_at asks flow).left (givens flow)

-- the first `first` flows have their acknowledgements of the round
pub record AnsweredTo (case : SharedCase) (asks : List Ask) (end : ℕ) (flows : List FlowTraffic)
    (answers : List (List Ack)) (first : ℕ) (sent : List Sent) (givens : ℕ → List GivenAck) : Type 0 where
  pub acks : answers ≡ each_flow first (λ flow. acks_of_givens (acks_before case asks end sent givens flow))
  pub done : (flow : ℕ) (other : FlowTraffic) → flow < first
      → flow_under_way (get_or flows flow other)
      ≡ flow_standing case.trace (flow_link_at case flow) (own_packets flow sent)
      (with_givens (acks_before case asks end sent givens flow) (givens flow))
  pub ahead : (flow : ℕ) (other : FlowTraffic) → first ≤ flow → flow < length flows
      → flow_under_way (get_or flows flow other)
      ≡ flow_standing case.trace (flow_link_at case flow) (own_packets flow sent) (givens flow)

-- what holds of a link
pub record IsLinkKept (case : SharedCase) (rounds : ℕ) (next : Chance) (flows : List FlowTraffic) : Type 0 where
  pub within : IsWithin case
  pub valid : IsTrace case.trace
  pub few : rounds ≤ most_rounds
  pub ready : AreReady case rounds flows
  pub place : next.place < length case.trace
  pub waiting : chance_number case.trace next
      ≤ first_chance case.trace (rounds * case.quantum_us + 1) 0 + most_queue
