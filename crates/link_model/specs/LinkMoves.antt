-- How a link moves by what it keeps: the sending of one packet, that of a call, and the acknowledgement.
use Rattle.std.specs.Prelude.{◌≡◌, ℕ, zero, suc, ◌+◌, ◌-◌, max, Bool, Option, Some, None, List, [], ◌∷◌, ◌++◌, drop, slice_get}
use Rattle.ccp_base.specs.declared.ack.Ack.{Ack}
use Rattle.link_model.specs.declared.link_case.LinkCase.{LinkCase}
use Rattle.link_model.specs.declared.arrival.Arrival.{Arrival}
use Rattle.link_model.specs.declared.traffic.Traffic.{Traffic}
use Rattle.link_model.specs.Chances.{first_chance, chance_number}
use Rattle.link_model.specs.Link.{Fate, Lost, Served, allowance, is_marked, fate_by, past_in, timeout_ack}
use Rattle.link_model.specs.Standing.{Standing, arrival_by, packet_ack}
use Rattle.link_model.specs.Rings.{arrivals_in}

-- how many packets are in flight
abbrev pub flight_count : List Arrival → ℕ → ℕ
flight_count [] lost = lost
flight_count (arrival ∷ rest) lost = arrival.lost + 1 + flight_count rest lost

-- what is under way, by the numbers of the trace's chances
abbrev pub standing_in : List ℕ → Traffic → Standing
standing_in times traffic = record {
  time = traffic.time;
  past = traffic.past;
  arrivals = arrivals_in traffic.flight;
  lost = traffic.lost;
  chance = chance_number times traffic.line.next.chance;
  sent = traffic.sent;
  acked = traffic.flight.taken;
  calls = traffic.calls;
}

-- ---- sending

-- `more` packets more, all of them lost
abbrev pub with_lost : ℕ → Standing → Standing
with_lost more standing = record {
  time = standing.time;
  past = standing.past;
  arrivals = standing.arrivals;
  lost = standing.lost + more;
  chance = standing.chance;
  sent = standing.sent + more;
  acked = standing.acked;
  calls = standing.calls;
}

-- one more packet, which is sent on at this chance
abbrev pub with_served : LinkCase → ℕ → Bool → Standing → Standing
with_served case chance marked standing = record {
  time = standing.time;
  past = standing.past;
  arrivals = standing.arrivals ++ arrival_by case standing.lost standing.time chance marked ∷ [];
  lost = 0;
  chance = chance + 1;
  sent = standing.sent + 1;
  acked = standing.acked;
  calls = standing.calls;
}

abbrev pub with_fate : LinkCase → Fate → Standing → Standing
with_fate case Lost standing = with_lost 1 standing
with_fate case (Served chance marked) standing = with_served case chance marked standing

-- how many packets wait
abbrev pub waiting_now : LinkCase → Standing → ℕ
waiting_now case standing = standing.chance - first_chance case.trace (standing.time + 1) 0

-- the first chance that isn't before now and that no packet has
abbrev pub chance_now : LinkCase → Standing → ℕ
chance_now case standing = max standing.chance (first_chance case.trace standing.time 0)

-- one more packet, which is sent on now
abbrev pub served_now : LinkCase → Standing → Standing
served_now case standing =
    with_served case (chance_now case standing) (is_marked case.mark (waiting_now case standing)) standing

-- one more packet is sent now
abbrev pub with_packet : LinkCase → Standing → Standing
with_packet case standing =
    with_fate case (fate_by case standing.sent (waiting_now case standing) (chance_now case standing)) standing

-- `more` packets are sent now
abbrev pub sending : LinkCase → ℕ → Standing → Standing
sending case zero standing = standing
sending case (suc more) standing = sending case more (with_packet case standing)

-- ---- acknowledging

-- the acknowledgement of the first packet that isn't lost, or the timeout if there is none
abbrev pub ack_by : LinkCase → Standing → Option Arrival → Ack
ack_by case standing None =
    timeout_ack case (standing.time + case.timeout_us) standing.past standing.lost 0 standing.acked standing.sent
ack_by case standing (Some arrival) =
    packet_ack case arrival standing.past (flight_count (drop 1 standing.arrivals) standing.lost) (standing.acked + 1)
    standing.sent

-- the standing after it
abbrev pub acked_by : LinkCase → Standing → Option Arrival → Standing
acked_by case standing None = record {
  time = standing.time + case.timeout_us;
  past = past_in (ack_by case standing None);
  arrivals = [];
  lost = 0;
  chance = standing.chance;
  sent = standing.sent;
  acked = standing.acked;
  calls = standing.calls + 1;
}
acked_by case standing (Some arrival) = record {
  time = arrival.at;
  past = past_in (ack_by case standing (Some arrival));
  arrivals = drop 1 standing.arrivals;
  lost = standing.lost;
  chance = standing.chance;
  sent = standing.sent;
  acked = standing.acked + 1;
  calls = standing.calls + 1;
}

abbrev pub link_ack : LinkCase → Standing → Ack
link_ack case standing = ack_by case standing (slice_get standing.arrivals 0)

abbrev pub standing_after_ack : LinkCase → Standing → Standing
standing_after_ack case standing = acked_by case standing (slice_get standing.arrivals 0)

-- ---- what is under way

-- what is under way now stands as this step leaves what was
abbrev pub TakesStep : LinkCase → (Standing → Standing) → Traffic → Traffic → Type 0
TakesStep case step old new = standing_in case.trace new ≡ step (standing_in case.trace old)

-- to send `left` packets now leaves the same as to send `more` before
abbrev pub SendsOn : LinkCase → ℕ → Traffic → ℕ → Traffic → Type 0
SendsOn case more old left new =
    sending case left (standing_in case.trace new) ≡ sending case more (standing_in case.trace old)

-- ---- one call

-- the standing after the sending of a call
abbrev pub sent_standing : LinkCase → ℕ → Standing → Standing
sent_standing case window standing =
    sending case (allowance case window - flight_count standing.arrivals standing.lost) standing

-- the acknowledgement of a call
abbrev pub next_ack : LinkCase → ℕ → Standing → Ack
next_ack case window standing = link_ack case (sent_standing case window standing)

-- the standing after a call
abbrev pub next_standing : LinkCase → ℕ → Standing → Standing
next_standing case window standing = standing_after_ack case (sent_standing case window standing)
