-- How a shared link stands after a list of rounds: what it keeps of all the packets and acknowledgements.
use Rattle.std.specs.Prelude.{◌≡◌, ℕ, ◌+◌, ◌<◌, ◌==◌, if◌then◌else◌, List, [], ◌∷◌, ◌++◌, length, get_or}
use Rattle.link_model.specs.declared.arrival.Arrival.{Arrival}
use Rattle.link_model.specs.declared.past.Past.{Past}
use Rattle.link_model.specs.Chances.{chance_time}
use Rattle.link_model.specs.Link.{Packet, Fate, Lost, Served, GivenAck, chances_past, in_flight, time_of, past_of, acked_of}
use Rattle.link_model.specs.Standing.{packets_of}
use Rattle.link_model.specs.Counts.{lost_of}
use Rattle.shared_link.specs.declared.shared_case.FlowLink.{FlowLink}
use Rattle.shared_link.specs.declared.shared_case.SharedCase.{SharedCase}
use Rattle.shared_link.specs.declared.round.Ask.{Ask}
use Rattle.shared_link.specs.SharedRounds.{SharedLinkRun, flow_link_at, every_packet, own_packets, shared_run_of}

-- what is kept of a flow's packets in flight: those that aren't lost, each with how many lost ones lie right before
-- it; how many lost ones lie after them, and when the first of these was sent, 0 if there are none
pub record Flight : Type 0 where
  pub arrivals : List Arrival
  pub lost : ℕ
  pub since : ℕ

-- what a link keeps of a flow: the time of its last acknowledgement, what its later ones take from earlier ones, its
-- flight, and how many of its packets were sent, were acknowledged and left as lost
pub record FlowStanding : Type 0 where
  pub time : ℕ
  pub past : Past
  pub flight : Flight
  pub sent : ℕ
  pub acked : ℕ
  pub gone : ℕ

abbrev pub no_flight : Flight
no_flight = record { arrivals = []; lost = 0; since = 0 }

abbrev pub with_fate : List ℕ → ℕ → ℕ → Fate → Flight → Flight
with_fate times delay sent_at Lost flight = record {
  arrivals = flight.arrivals;
  lost = flight.lost + 1;
  since = if flight.lost == 0 then sent_at else flight.since;
}
with_fate times delay sent_at (Served chance marked) flight = record {
  arrivals = flight.arrivals ++ record {
    lost = flight.lost;
    sent_at = sent_at;
    at = chance_time times chance + delay;
    marked = marked;
  } ∷ [];
  lost = 0;
  since = 0;
}

-- a flight with these packets more, each of which arrives `delay` microseconds after its chance
abbrev pub with_packets : List ℕ → ℕ → List Packet → Flight → Flight
with_packets times delay [] flight = flight
with_packets times delay (packet ∷ rest) flight =
    with_packets times delay rest (with_fate times delay packet.sent_at packet.fate flight)

-- what is kept of a flow with these packets and acknowledgements
abbrev pub flow_standing : List ℕ → FlowLink → List Packet → List GivenAck → FlowStanding
flow_standing times link packets givens = record {
  time = time_of givens;
  past = past_of givens;
  flight = with_packets times link.delay_us (packets_of (in_flight packets givens)) no_flight;
  sent = length packets;
  acked = acked_of givens;
  gone = lost_of givens;
}

-- a link: its case, how many rounds there were, the number of the first chance after all that were given, and what
-- it keeps of each flow
pub record SharedState : Type 0 where
  pub case : SharedCase
  pub rounds : ℕ
  pub chance : ℕ
  pub flows : List FlowStanding

-- the link stands as after a run
pub record StandsAt (link : SharedState) (run : SharedLinkRun) : Type 0 where
  pub rounds : link.rounds ≡ run.rounds
  pub chance : link.chance ≡ chances_past (every_packet run.sent)
  pub flows : (flow : ℕ) (other : FlowStanding) → flow < length link.case.flows
      → get_or link.flows flow other
      ≡ flow_standing link.case.trace (flow_link_at link.case flow) (own_packets flow run.sent) (run.givens flow)

-- the link stands for a list of rounds
abbrev pub Stands : SharedState → List (List Ask) → Type 0
Stands link rounds = StandsAt link (shared_run_of link.case rounds)
