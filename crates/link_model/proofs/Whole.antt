-- The link with every packet in flight, those that are lost, too: between the definition and what a link keeps.
use Rattle.std.proofs.Common.{ℕ, zero, suc, ◌+◌, ◌-◌, max, Bool, List, [], ◌∷◌, ◌++◌, length}
use Rattle.ccp_base.specs.declared.ack.Ack.{Ack}
use Rattle.link_model.specs.declared.link_case.LinkCase.{LinkCase}
use Rattle.link_model.specs.declared.past.Past.{Past}
use Rattle.link_model.specs.Chances.{first_chance}
use Rattle.link_model.specs.Link.{Run, Packet, Fate, Lost, Served, allowance, chance_past, chances_past, fate_by, in_flight, time_of, past_in, past_of, acked_of, arrival_of, arrival_ack, timeout_ack}
use Rattle.link_model.specs.Standing.{packets_of}

-- the fate of the packets in flight: the first one that isn't lost arrives after `lost` lost ones, or all are lost
pub data Landing : Type 0 where
  Arrived : (sent_at chance : ℕ) → Bool → ℕ → Landing
  AllLost : ℕ → Landing

-- what a link would keep that kept every packet in flight
pub record Whole : Type 0 where
  pub time : ℕ
  pub past : Past
  pub flight : List Packet
  pub chance : ℕ
  pub sent : ℕ
  pub acked : ℕ
  pub calls : ℕ

-- it after a run
abbrev pub whole_of : Run → Whole
whole_of run = record {
  time = time_of run.givens;
  past = past_of run.givens;
  flight = packets_of (in_flight run.packets run.givens);
  chance = chances_past run.packets;
  sent = length run.packets;
  acked = acked_of run.givens;
  calls = length run.givens;
}

-- ---- sending

-- the packet that is sent next, if `due` is the first chance that isn't before now and `later` the first one
-- after now
abbrev pub packet_by : LinkCase → Whole → ℕ → ℕ → Packet
packet_by case standing due later = record {
  sent_at = standing.time;
  fate = fate_by case standing.sent (standing.chance - later) (max standing.chance due);
}

abbrev pub with_packet : Whole → Packet → Whole
with_packet standing packet = record {
  time = standing.time;
  past = standing.past;
  flight = standing.flight ++ packet ∷ [];
  chance = chance_past packet.fate standing.chance;
  sent = standing.sent + 1;
  acked = standing.acked;
  calls = standing.calls;
}

abbrev pub sending : LinkCase → ℕ → ℕ → ℕ → Whole → Whole
sending case due later zero standing = standing
sending case due later (suc more) standing =
    sending case due later more (with_packet standing (packet_by case standing due later))

-- this many packets are sent now
abbrev pub sending_whole : LinkCase → ℕ → Whole → Whole
sending_whole case more standing =
    sending case (first_chance case.trace standing.time 0) (first_chance case.trace (standing.time + 1) 0) more standing

-- ---- acknowledging

abbrev pub landing_by : Fate → ℕ → ℕ → Landing → Landing
landing_by Lost sent_at lost later = later
landing_by (Served chance marked) sent_at lost later = Arrived sent_at chance marked lost

-- the first packet that isn't lost, after those that are
abbrev pub landing : List Packet → ℕ → Landing
landing [] lost = AllLost lost
landing (packet ∷ rest) lost = landing_by packet.fate packet.sent_at lost (landing rest (lost + 1))

abbrev pub staying_by : Fate → List Packet → List Packet → List Packet
staying_by Lost rest later = later
staying_by (Served chance marked) rest later = rest

-- the packets after it
abbrev pub staying : List Packet → List Packet
staying [] = []
staying (packet ∷ rest) = staying_by packet.fate rest (staying rest)

-- the acknowledgement of what landed, if the standing has the packets that stay
abbrev pub ack_by : LinkCase → Whole → Landing → Ack
ack_by case standing (Arrived sent_at chance marked lost) =
    arrival_ack case sent_at (arrival_of case chance) marked standing.past lost (length standing.flight) (standing.acked + 1) standing.sent
ack_by case standing (AllLost lost) =
    timeout_ack case (standing.time + case.timeout_us) standing.past lost (length standing.flight) standing.acked standing.sent

abbrev pub with_flight : Whole → List Packet → Whole
with_flight standing flight = record {
  time = standing.time;
  past = standing.past;
  flight = flight;
  chance = standing.chance;
  sent = standing.sent;
  acked = standing.acked;
  calls = standing.calls;
}

-- the standing after an acknowledgement
abbrev pub with_ack : Whole → Ack → Whole
with_ack standing ack = record {
  time = ack.now;
  past = past_in ack;
  flight = standing.flight;
  chance = standing.chance;
  sent = standing.sent;
  acked = standing.acked + ack.packets_acked;
  calls = standing.calls + 1;
}

-- ---- one call

-- the standing after the sending of a call
abbrev pub sent_whole : LinkCase → ℕ → Whole → Whole
sent_whole case window standing = sending_whole case (allowance case window - length standing.flight) standing

-- the acknowledgement of a call
abbrev pub next_ack : LinkCase → ℕ → Whole → Ack
next_ack case window standing =
    ack_by case (with_flight (sent_whole case window standing) (staying (sent_whole case window standing).flight))
    (landing (sent_whole case window standing).flight 0)

-- the standing after a call
abbrev pub next_whole : LinkCase → ℕ → Whole → Whole
next_whole case window standing =
    with_ack (with_flight (sent_whole case window standing) (staying (sent_whole case window standing).flight))
    (next_ack case window standing)
