-- The link that several flows share: what becomes of the packets and acknowledgements of its rounds.
use Rattle.std.specs.Prelude.{ℕ, zero, suc, ◌+◌, ◌-◌, ◌*◌, max, Bool, true, false, ◌||◌, ◌&&◌, ◌==◌, nat_lt, None, unwrap_or, if◌then◌else◌, List, [], ◌∷◌, ◌++◌, length, slice_get}
use Rattle.ccp_base.specs.declared.ack.Ack.{Ack}
use Rattle.ccp_base.specs.Limits.{most_flight}
use Rattle.link_model.specs.Chances.{chance_time, first_chance}
use Rattle.link_model.specs.Link.{Packet, Fate, Lost, Served, GivenAck, packet_and_lost_below, all_below, Numbered, Next, arrives, all_lost, allowance_of, waiting, chances_past, fate_of, is_lost, left_by, lost_by, in_flight, time_of, past_of, acked_of, byte_rate, arrival_ack_of, timeout_ack_of}
use Rattle.link_model.specs.Counts.{lost_of}
use Rattle.shared_link.specs.declared.shared_case.FlowLink.{FlowLink}
use Rattle.shared_link.specs.declared.shared_case.SharedCase.{SharedCase}
use Rattle.shared_link.specs.declared.round.Ask.{Ask}
use Rattle.shared_link.specs.declared.round.Counts.{Counts}

-- a packet with the number of its flow
pub record Sent : Type 0 where
  pub flow : ℕ
  pub packet : Packet

-- a run of the link: every packet ever sent, and of each flow every acknowledgement given, the latest first; and how
-- many rounds there were
pub record SharedLinkRun : Type 0 where
  pub sent : List Sent
  pub givens : ℕ → List GivenAck
  pub rounds : ℕ

abbrev pub no_flow : FlowLink
no_flow = record { mss = 1; delay_us = 0; timeout_us = 1; losses = []; mark = None; start_us = 0 }

abbrev pub flow_link_at : SharedCase → ℕ → FlowLink
flow_link_at case flow = unwrap_or (slice_get case.flows flow) no_flow

abbrev pub no_ask : Ask
no_ask = record { window = 0; left = 0 }

abbrev pub ask_at : List Ask → ℕ → Ask
ask_at asks flow = unwrap_or (slice_get asks flow) no_ask

-- the packets of all flows
abbrev pub every_packet : List Sent → List Packet
every_packet [] = []
every_packet (sent ∷ earlier) = sent.packet ∷ every_packet earlier

-- the packets of one flow; their numbers are their places in its own list
abbrev pub own_packets : ℕ → List Sent → List Packet
own_packets flow [] = []
own_packets flow (sent ∷ earlier) =
    if sent.flow == flow then sent.packet ∷ own_packets flow earlier else own_packets flow earlier

-- the packets of one flow that are in flight, the first one first
abbrev pub own_flight : ℕ → List Sent → List GivenAck → List Numbered
own_flight flow sent givens = in_flight (own_packets flow sent) givens

-- ---- sending

-- how many packets a flow may have in flight at the time `now`: none if it has no acknowledgement left or starts later
abbrev pub allowed : SharedCase → ℕ → List Ask → ℕ → ℕ
allowed case now asks flow =
    if (ask_at asks flow).left == 0 || nat_lt now (flow_link_at case flow).start_us then 0
    else allowance_of (flow_link_at case flow).mss (ask_at asks flow).window

-- the packet that a flow sends at the time `now` after these. It is lost if its number in its flow is listed, or if as
-- many packets of all flows wait as the queue holds. Otherwise it gets the first chance that isn't before now and is
-- after every chance given before.
abbrev pub packet_after : SharedCase → ℕ → ℕ → List Sent → Packet
packet_after case now flow sent = record {
  sent_at = now;
  fate =
      fate_of (flow_link_at case flow).losses case.queue (flow_link_at case flow).mark (length (own_packets flow sent))
      (waiting case.trace now (every_packet sent)) (first_chance case.trace now (chances_past (every_packet sent)));
}

abbrev pub with_packet : SharedCase → ℕ → ℕ → List Sent → List Sent
with_packet case now flow sent = record { flow = flow; packet = packet_after case now flow sent } ∷ sent

-- a flow has fewer packets in flight than it may have
abbrev pub lacks : (ℕ → ℕ) → (ℕ → List GivenAck) → ℕ → List Sent → Bool
lacks may givens flow sent = nat_lt (length (own_flight flow sent (givens flow))) (may flow)

-- some of the first flows has fewer
abbrev pub some_lacks : (ℕ → ℕ) → (ℕ → List GivenAck) → ℕ → List Sent → Bool
some_lacks may givens zero sent = false
some_lacks may givens (suc flow) sent = lacks may givens flow sent || some_lacks may givens flow sent

-- each of the first flows in turn sends a packet if it has fewer packets in flight than it may have
abbrev pub sending_turn : SharedCase → ℕ → (ℕ → ℕ) → (ℕ → List GivenAck) → ℕ → List Sent → List Sent
sending_turn case now may givens zero sent = sent
sending_turn case now may givens (suc flow) sent =
    if lacks may givens flow (sending_turn case now may givens flow sent)
    then with_packet case now flow (sending_turn case now may givens flow sent)
    else sending_turn case now may givens flow sent

-- turn after turn until no flow has fewer packets in flight than it may have, at most `turns` turns
abbrev pub turns_of : SharedCase → ℕ → (ℕ → ℕ) → (ℕ → List GivenAck) → ℕ → List Sent → List Sent
turns_of case now may givens zero sent = sent
turns_of case now may givens (suc turns) sent =
    if some_lacks may givens (length case.flows) sent
    then turns_of case now may givens turns (sending_turn case now may givens (length case.flows) sent)
    else sent

-- the time of a round
abbrev pub round_time : SharedCase → ℕ → ℕ
round_time case rounds = rounds * case.quantum_us

-- the packets after the sending of one more round: the 4,096 turns are always enough, since afterwards no flow has
-- fewer packets in flight than it may have, by the law `SharedCase::sending_law`
abbrev pub sent_by : SharedCase → List Ask → SharedLinkRun → List Sent
sent_by case asks run =
    turns_of case (round_time case run.rounds) (allowed case (round_time case run.rounds) asks) run.givens most_flight
    run.sent

-- ---- acknowledgements

abbrev pub next_by : ℕ → ℕ → ℕ → ℕ → ℕ → Bool → Next → Next
next_by end number sent_at arrival chance marked later =
    if nat_lt arrival end then arrives number sent_at chance marked else later

abbrev pub next_where : List ℕ → ℕ → ℕ → ℕ → ℕ → Fate → Next → Next
next_where times delay end number sent_at Lost later = later
next_where times delay end number sent_at (Served chance marked) later =
    next_by end number sent_at (chance_time times chance + delay) chance marked later

-- the lowest packet in flight that isn't lost and arrives before the time `end`; it arrives `delay` microseconds after
-- its chance. `all_lost` stands for none.
abbrev pub next_before : List ℕ → ℕ → ℕ → List Numbered → Next
next_before times delay end [] = all_lost
next_before times delay end (sent ∷ rest) =
    next_where times delay end sent.number sent.packet.sent_at sent.packet.fate (next_before times delay end rest)

-- an acknowledgement with its two rates over the time since the start of its flow, of whose packets, `mss` bytes each,
-- `acked` were acknowledged so far and `sent` were sent
abbrev pub since_start : ℕ → ℕ → ℕ → ℕ → Ack → Ack
since_start mss start acked sent ack = record ack {
  rate_incoming = byte_rate mss acked (ack.now - start);
  rate_outgoing = byte_rate mss sent (ack.now - start);
}

-- the acknowledgement of a packet of a flow
abbrev pub arrival_given : List ℕ → FlowLink → List Packet → List GivenAck → List Numbered → ℕ → ℕ → ℕ → Bool → GivenAck
arrival_given times link packets givens flight number sent_at chance marked = record {
  taking = packet_and_lost_below number;
  ack = since_start link.mss link.start_us (acked_of givens + 1) (length packets)
      (arrival_ack_of link.mss sent_at (chance_time times chance + link.delay_us) marked (past_of givens)
      (lost_by (packet_and_lost_below number) flight) (length (left_by (packet_and_lost_below number) flight))
      (acked_of givens + 1) (length packets));
}

abbrev pub are_lost : List Numbered → Bool
are_lost [] = true
are_lost (sent ∷ rest) = is_lost sent.packet.fate && are_lost rest

-- the acknowledgement of a flow's timeout at the time `now`
abbrev pub timeout_given : FlowLink → List Packet → List GivenAck → List Numbered → ℕ → GivenAck
timeout_given link packets givens flight now = record {
  taking = all_below (length packets);
  ack = since_start link.mss link.start_us (acked_of givens) (length packets)
      (timeout_ack_of link.mss now (past_of givens) (length flight)
      (length (left_by (all_below (length packets)) flight)) (acked_of givens) (length packets));
}

-- when a flow times out: `timeout_us` after its last acknowledgement or after the sending of its lowest packet in
-- flight, whichever is later
abbrev pub timeout_at : FlowLink → List GivenAck → Packet → ℕ
timeout_at link givens first = max (time_of givens) first.sent_at + link.timeout_us

-- the timeout of a flow, if it has packets in flight, all of them are lost, and it times out before the time `end`
abbrev pub timeouts : FlowLink → ℕ → List Packet → List GivenAck → List Numbered → List GivenAck
timeouts link end packets givens [] = []
timeouts link end packets givens (first ∷ rest) =
    if are_lost (first ∷ rest) && nat_lt (timeout_at link givens first.packet) end
    then timeout_given link packets givens (first ∷ rest) (timeout_at link givens first.packet) ∷ []
    else []

-- the acknowledgements from the next packet that arrives on: that packet's and those after it, or the timeout if no
-- packet arrives
abbrev pub answers_after : List ℕ → FlowLink → ℕ → List Packet → List GivenAck → List Numbered → Next
    → (GivenAck → List GivenAck) → List GivenAck
answers_after times link end packets givens flight (arrives number sent_at chance marked) then_ =
    then_ (arrival_given times link packets givens flight number sent_at chance marked)
answers_after times link end packets givens flight all_lost then_ = timeouts link end packets givens flight

-- the acknowledgements of a flow before the time `end`, in order: those of the packets that arrive, and then, if the
-- flow has one left, that of its timeout. The flow has `left` acknowledgements left, and gets at most as many.
abbrev pub answers : List ℕ → FlowLink → ℕ → List Packet → ℕ → List GivenAck → List GivenAck
answers times link end packets zero givens = []
answers times link end packets (suc left) givens =
    answers_after times link end packets givens (in_flight packets givens)
    (next_before times link.delay_us end (in_flight packets givens))
    (λ given. given ∷ answers times link end packets left (given ∷ givens))

-- the acknowledgements of a flow in one more round, after these packets were sent
abbrev pub round_givens : SharedCase → List Ask → SharedLinkRun → List Sent → ℕ → List GivenAck
round_givens case asks run sent flow =
    answers case.trace (flow_link_at case flow) (round_time case (run.rounds + 1)) (own_packets flow sent)
    (ask_at asks flow).left (run.givens flow)

-- ---- rounds

-- acknowledgements in order, put before those that were given earlier
abbrev pub with_givens : List GivenAck → List GivenAck → List GivenAck
with_givens [] givens = givens
with_givens (given ∷ later) givens = with_givens later (given ∷ givens)

-- one more round
abbrev pub with_round : SharedCase → List Ask → SharedLinkRun → SharedLinkRun
with_round case asks run = record {
  sent = sent_by case asks run;
  givens = λ flow. with_givens (round_givens case asks run (sent_by case asks run) flow) (run.givens flow);
  rounds = run.rounds + 1;
}

abbrev pub shared_run_from : SharedCase → SharedLinkRun → List (List Ask) → SharedLinkRun
shared_run_from case run [] = run
shared_run_from case run (asks ∷ later) = shared_run_from case (with_round case asks run) later

abbrev pub first_run : SharedLinkRun
first_run = record { sent = []; givens = λ flow. []; rounds = 0 }

-- the run of a list of rounds, each given by what its flows ask for
abbrev pub shared_run_of : SharedCase → List (List Ask) → SharedLinkRun
shared_run_of case rounds = shared_run_from case first_run rounds

abbrev pub acks_of_givens : List GivenAck → List Ack
acks_of_givens [] = []
acks_of_givens (given ∷ later) = given.ack ∷ acks_of_givens later

-- the lists of the first flows, in order
abbrev pub each_flow : ℕ → (ℕ → List Ack) → List (List Ack)
each_flow zero acks = []
each_flow (suc flow) acks = each_flow flow acks ++ acks flow ∷ []

-- each flow's acknowledgements in one more round after a list of rounds
abbrev pub acks_after : SharedCase → List (List Ask) → List Ask → List (List Ack)
acks_after case rounds asks =
    each_flow (length case.flows)
    (λ flow.
    acks_of_givens
    (round_givens case asks (shared_run_of case rounds) (sent_by case asks (shared_run_of case rounds)) flow))

-- ---- counts

-- the sum of the first flows' numbers
abbrev pub sum_over_flows : ℕ → (ℕ → ℕ) → ℕ
sum_over_flows zero number = 0
sum_over_flows (suc flow) number = sum_over_flows flow number + number flow

-- the packets of all flows after a run: sent, acknowledged, left as lost and in flight
abbrev pub counts_in : SharedCase → SharedLinkRun → Counts
counts_in case run = record {
  rounds = run.rounds;
  sent = sum_over_flows (length case.flows) (λ flow. length (own_packets flow run.sent));
  acked = sum_over_flows (length case.flows) (λ flow. acked_of (run.givens flow));
  lost = sum_over_flows (length case.flows) (λ flow. lost_of (run.givens flow));
  inflight = sum_over_flows (length case.flows) (λ flow. length (own_flight flow run.sent (run.givens flow)));
}

abbrev pub counts_of : SharedCase → List (List Ask) → Counts
counts_of case rounds = counts_in case (shared_run_of case rounds)
