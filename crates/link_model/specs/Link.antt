-- The link: what it answers to a list of windows, one a call.
use Rattle.std.specs.Prelude.{ℕ, zero, suc, ◌+◌, ◌-◌, ◌*◌, ◌/◌, max, min, Bool, true, false, ◌||◌, ◌&&◌, ◌==◌, nat_lt, nat_le, Option, Some, None, if◌then◌else◌, List, [], ◌∷◌, ◌++◌, length}
use Rattle.ccp_base.specs.declared.ack.Ack.{Ack}
use Rattle.link_model.specs.declared.link_case.LinkCase.{LinkCase}
use Rattle.link_model.specs.declared.past.Past.{Past}
use Rattle.ccp_base.specs.Limits.{most_flight}
use Rattle.link_model.specs.Chances.{chance_time, first_chance}

-- what becomes of a packet: it is lost, or the link sends it on at the chance of this number, and may mark it
pub data Fate : Type 0 where
  Lost : Fate
  Served : ℕ → Bool → Fate

-- a packet that was sent at this time, in microseconds
pub record Packet : Type 0 where
  pub sent_at : ℕ
  pub fate : Fate

-- what an acknowledgement takes away: the packet of this number and the lost ones below it, or at a timeout all packets
-- below this number
pub data Taking : Type 0 where
  packet_and_lost_below : ℕ → Taking
  all_below : ℕ → Taking

-- an acknowledgement that was given, with what it takes away
pub record GivenAck : Type 0 where
  pub taking : Taking
  pub ack : Ack

-- a run of the link: every packet ever sent and every acknowledgement given, the latest first
pub record Run : Type 0 where
  pub packets : List Packet
  pub givens : List GivenAck

-- a packet with its number; packets are numbered from 0 as they are sent
pub record Numbered : Type 0 where
  pub number : ℕ
  pub packet : Packet

-- ---- sending

-- how many packets of this size a window allows to be in flight
abbrev pub allowance_of : ℕ → ℕ → ℕ
allowance_of mss window = min most_flight (max 1 (window / mss))

abbrev pub allowance : LinkCase → ℕ → ℕ
allowance case window = allowance_of case.mss window

-- a packet has a chance later than this time
abbrev pub waits : List ℕ → ℕ → Fate → Bool
waits times now Lost = false
waits times now (Served chance marked) = nat_lt now (chance_time times chance)

-- how many packets have a chance later than this time
abbrev pub waiting : List ℕ → ℕ → List Packet → ℕ
waiting times now [] = 0
waiting times now (packet ∷ earlier) =
    if waits times now packet.fate then waiting times now earlier + 1 else waiting times now earlier

-- the number after a packet's chance, or this one if that is later
abbrev pub chance_past : Fate → ℕ → ℕ
chance_past Lost from = from
chance_past (Served chance marked) from = max (chance + 1) from

-- the first number after the chances of all packets
abbrev pub chances_past : List Packet → ℕ
chances_past [] = 0
chances_past (packet ∷ earlier) = chance_past packet.fate (chances_past earlier)

abbrev pub is_listed : ℕ → List ℕ → Bool
is_listed number [] = false
is_listed number (other ∷ rest) = (other == number) || is_listed number rest

abbrev pub is_marked : Option ℕ → ℕ → Bool
is_marked None queued = false
is_marked (Some mark) queued = nat_le mark queued

-- the fate of the packet `number` of a flow, if `losses` are listed as lost, the queue holds `queue` packets, packets
-- are marked if at least `mark` wait, and `queued` wait: lost, or served at `chance`
abbrev pub fate_of : List ℕ → ℕ → Option ℕ → ℕ → ℕ → ℕ → Fate
fate_of losses queue mark number queued chance =
    if is_listed number losses || nat_le queue queued then Lost
    else Served chance (is_marked mark queued)

abbrev pub fate_by : LinkCase → ℕ → ℕ → ℕ → Fate
fate_by case number queued chance = fate_of case.losses case.queue case.mark number queued chance

-- the packet that is sent at this time after these
abbrev pub packet_after : LinkCase → ℕ → List Packet → Packet
packet_after case now earlier = record {
  sent_at = now;
  fate = fate_by case (length earlier) (waiting case.trace now earlier)
      (first_chance case.trace now (chances_past earlier));
}

-- the packets after `more` more are sent at this time
abbrev pub with_sent : LinkCase → ℕ → ℕ → List Packet → List Packet
with_sent case now zero packets = packets
with_sent case now (suc more) packets = with_sent case now more (packet_after case now packets ∷ packets)

-- ---- in flight

abbrev pub is_lost : Fate → Bool
is_lost Lost = true
is_lost (Served chance marked) = false

abbrev pub takes : Taking → Numbered → Bool
takes (packet_and_lost_below number) sent =
    (sent.number == number) || (is_lost sent.packet.fate && nat_lt sent.number number)
takes (all_below sent_count) sent = nat_lt sent.number sent_count

-- the packets that are left
abbrev pub left_by : Taking → List Numbered → List Numbered
left_by taking [] = []
left_by taking (sent ∷ rest) = if takes taking sent then left_by taking rest else sent ∷ left_by taking rest

-- how many lost packets are taken away
abbrev pub lost_by : Taking → List Numbered → ℕ
lost_by taking [] = 0
lost_by taking (sent ∷ rest) =
    if takes taking sent && is_lost sent.packet.fate then lost_by taking rest + 1 else lost_by taking rest

-- every packet with its number, the first one first
abbrev pub numbered : List Packet → List Numbered
numbered [] = []
numbered (packet ∷ earlier) = numbered earlier ++ record { number = length earlier; packet = packet } ∷ []

-- the packets in flight: those sent and not taken away, the first one first
abbrev pub in_flight : List Packet → List GivenAck → List Numbered
in_flight packets [] = numbered packets
in_flight packets (given ∷ earlier) = left_by given.taking (in_flight packets earlier)

-- ---- acknowledgements

-- the link's time: that of the last acknowledgement
abbrev pub time_of : List GivenAck → ℕ
time_of [] = 0
time_of (given ∷ earlier) = given.ack.now

-- what later acknowledgements take from earlier ones: from this one, if it is the last
abbrev pub past_in : Ack → Past
past_in ack = record { rtt_sample_us = ack.rtt_sample_us }

-- if nothing was acknowledged yet
abbrev pub no_past : Past
no_past = record { rtt_sample_us = 0 }

-- after these
abbrev pub past_of : List GivenAck → Past
past_of [] = no_past
past_of (given ∷ earlier) = past_in given.ack

-- how many packets were acknowledged
abbrev pub acked_of : List GivenAck → ℕ
acked_of [] = 0
acked_of (given ∷ earlier) = given.ack.packets_acked + acked_of earlier

-- bytes a second up to this time by packets of this size, 0 at time 0
abbrev pub byte_rate : ℕ → ℕ → ℕ → ℕ
byte_rate mss packets now = if now == 0 then 0 else mss * packets * 1000000 / now

-- the number if the truth holds, and 0 otherwise
abbrev pub number_if : Bool → ℕ → ℕ
number_if truth number = if truth then number else 0

-- when the acknowledgement of a packet arrives
abbrev pub arrival_of : LinkCase → ℕ → ℕ
arrival_of case chance = chance_time case.trace chance + case.delay_us

-- the acknowledgement of a packet of `mss` bytes with this sending time, arrival and mark after this past, if `lost`
-- lost packets leave, `stay` packets stay in flight, and `acked` packets were acknowledged and `sent` sent so far
abbrev pub arrival_ack_of : ℕ → ℕ → ℕ → Bool → Past → ℕ → ℕ → ℕ → ℕ → Ack
arrival_ack_of mss sent_at arrival marked past lost stay acked sent = record {
  bytes_acked = mss;
  packets_acked = 1;
  bytes_misordered = number_if (nat_lt 0 lost) mss;
  packets_misordered = number_if (nat_lt 0 lost) 1;
  ecn_bytes = number_if marked mss;
  ecn_packets = number_if marked 1;
  lost_pkts_sample = lost;
  now = arrival;
  bytes_in_flight = mss * stay;
  packets_in_flight = stay;
  bytes_pending = 0;
  rate_incoming = byte_rate mss acked arrival;
  rate_outgoing = byte_rate mss sent arrival;
  rtt_sample_us = arrival - sent_at;
  was_timeout = false;
}

abbrev pub arrival_ack : LinkCase → ℕ → ℕ → Bool → Past → ℕ → ℕ → ℕ → ℕ → Ack
arrival_ack case sent_at arrival marked past lost stay acked sent =
    arrival_ack_of case.mss sent_at arrival marked past lost stay acked sent

-- the acknowledgement of a timeout at this time after this past, if `lost` packets of `mss` bytes leave, `stay` stay in
-- flight, and `acked` were acknowledged and `sent` sent so far
abbrev pub timeout_ack_of : ℕ → ℕ → Past → ℕ → ℕ → ℕ → ℕ → Ack
timeout_ack_of mss now past lost stay acked sent = record {
  bytes_acked = 0;
  packets_acked = 0;
  bytes_misordered = 0;
  packets_misordered = 0;
  ecn_bytes = 0;
  ecn_packets = 0;
  lost_pkts_sample = lost;
  now = now;
  bytes_in_flight = mss * stay;
  packets_in_flight = stay;
  bytes_pending = 0;
  rate_incoming = byte_rate mss acked now;
  rate_outgoing = byte_rate mss sent now;
  rtt_sample_us = past.rtt_sample_us;
  was_timeout = true;
}

abbrev pub timeout_ack : LinkCase → ℕ → Past → ℕ → ℕ → ℕ → ℕ → Ack
timeout_ack case now past lost stay acked sent = timeout_ack_of case.mss now past lost stay acked sent

-- the lowest packet in flight that isn't lost, or that all are lost
pub data Next : Type 0 where
  arrives : (number sent_at chance : ℕ) → Bool → Next
  all_lost : Next

abbrev pub next_by : ℕ → ℕ → Fate → Next → Next
next_by number sent_at Lost later = later
next_by number sent_at (Served chance marked) later = arrives number sent_at chance marked

abbrev pub next_arrival : List Numbered → Next
next_arrival [] = all_lost
next_arrival (sent ∷ rest) = next_by sent.number sent.packet.sent_at sent.packet.fate (next_arrival rest)

-- that packet's acknowledgement, or the timeout if all are lost
abbrev pub answer_by : LinkCase → List Packet → List GivenAck → List Numbered → Next → GivenAck
answer_by case packets givens flight (arrives number sent_at chance marked) = record {
  taking = packet_and_lost_below number;
  ack = arrival_ack case sent_at (arrival_of case chance) marked (past_of givens)
      (lost_by (packet_and_lost_below number) flight) (length (left_by (packet_and_lost_below number) flight))
      (acked_of givens + 1)
      (length packets);
}
answer_by case packets givens flight all_lost = record {
  taking = all_below (length packets);
  ack = timeout_ack case (time_of givens + case.timeout_us) (past_of givens) (length flight)
      (length (left_by (all_below (length packets)) flight)) (acked_of givens) (length packets);
}

abbrev pub given_for : LinkCase → List Packet → List GivenAck → GivenAck
given_for case packets givens =
    answer_by case packets givens (in_flight packets givens) (next_arrival (in_flight packets givens))

-- ---- calls

-- the packets after the sending of a call with this window
abbrev pub sent_by : LinkCase → ℕ → Run → List Packet
sent_by case window run =
    with_sent case (time_of run.givens) (allowance case window - length (in_flight run.packets run.givens)) run.packets

-- one more call
abbrev pub called : LinkCase → ℕ → Run → Run
called case window run = record {
  packets = sent_by case window run;
  givens = given_for case (sent_by case window run) run.givens ∷ run.givens;
}

abbrev pub run_from : LinkCase → Run → List ℕ → Run
run_from case run [] = run
run_from case run (window ∷ later) = run_from case (called case window run) later

-- the run of a list of windows
abbrev pub run_of : LinkCase → List ℕ → Run
run_of case windows = run_from case (record { packets = []; givens = [] }) windows

-- the acknowledgement of one more call after a list of windows
abbrev pub ack_after : LinkCase → List ℕ → ℕ → Ack
ack_after case windows window =
    (given_for case (sent_by case window (run_of case windows)) (run_of case windows).givens).ack

abbrev pub acks_in_order : List GivenAck → List Ack
acks_in_order [] = []
acks_in_order (given ∷ earlier) = acks_in_order earlier ++ given.ack ∷ []

-- the acknowledgements of a list of windows, the first one first
abbrev pub acks_for_windows : LinkCase → List ℕ → List Ack
acks_for_windows case windows = acks_in_order (run_of case windows).givens
