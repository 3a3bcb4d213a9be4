-- How a link stands after a list of windows: what it keeps of all the packets and acknowledgements.
use Rattle.std.specs.Prelude.{◌≡◌, ℕ, ◌+◌, Bool, List, [], ◌∷◌, ◌++◌, length}
use Rattle.ccp_base.specs.declared.ack.Ack.{Ack}
use Rattle.link_model.specs.declared.link_case.LinkCase.{LinkCase}
use Rattle.link_model.specs.declared.arrival.Arrival.{Arrival}
use Rattle.link_model.specs.declared.past.Past.{Past}
use Rattle.link_model.specs.Link.{Run, Packet, Fate, Lost, Served, Numbered, chances_past, in_flight, time_of, past_of, acked_of, arrival_of, arrival_ack, run_of, ack_after}

-- what a link keeps: its time, what later acknowledgements take from earlier ones, the packets in flight that aren't
-- lost, how many lost ones lie after them, the first chance after all that were given, and how many packets were sent,
-- how many acknowledged and how many calls were made
pub record Standing : Type 0 where
  pub time : ℕ
  pub past : Past
  pub arrivals : List Arrival
  pub lost : ℕ
  pub chance : ℕ
  pub sent : ℕ
  pub acked : ℕ
  pub calls : ℕ

-- a packet that isn't lost, with how many lost ones lie right before it
abbrev pub arrival_by : LinkCase → ℕ → ℕ → ℕ → Bool → Arrival
arrival_by case lost sent_at chance marked = record {
  lost = lost;
  sent_at = sent_at;
  at = arrival_of case chance;
  marked = marked;
}

abbrev pub packets_of : List Numbered → List Packet
packets_of [] = []
packets_of (sent ∷ rest) = sent.packet ∷ packets_of rest

abbrev pub arrivals_by : LinkCase → ℕ → ℕ → Fate → List Arrival → List Arrival → List Arrival
arrivals_by case lost sent_at Lost after_lost after_served = after_lost
arrivals_by case lost sent_at (Served chance marked) after_lost after_served =
    arrival_by case lost sent_at chance marked ∷ after_served

-- the packets that aren't lost, if `lost` lost ones lie before them all
abbrev pub arrivals_of : LinkCase → ℕ → List Packet → List Arrival
arrivals_of case lost [] = []
arrivals_of case lost (packet ∷ rest) =
    arrivals_by case lost packet.sent_at packet.fate (arrivals_of case (lost + 1) rest) (arrivals_of case 0 rest)

abbrev pub lost_last_by : Fate → ℕ → ℕ → ℕ
lost_last_by Lost after_lost after_served = after_lost
lost_last_by (Served chance marked) after_lost after_served = after_served

-- how many lost ones lie after the last one that isn't lost, if `lost` lie before them all
abbrev pub lost_last : ℕ → List Packet → ℕ
lost_last lost [] = lost
lost_last lost (packet ∷ rest) = lost_last_by packet.fate (lost_last (lost + 1) rest) (lost_last 0 rest)

-- how a link stands after a run
abbrev pub standing_of : LinkCase → Run → Standing
standing_of case run = record {
  time = time_of run.givens;
  past = past_of run.givens;
  arrivals = arrivals_of case 0 (packets_of (in_flight run.packets run.givens));
  lost = lost_last 0 (packets_of (in_flight run.packets run.givens));
  chance = chances_past run.packets;
  sent = length run.packets;
  acked = acked_of run.givens;
  calls = length run.givens;
}

-- a link: its case, and how it stands
pub record LinkState : Type 0 where
  pub case : LinkCase
  pub standing : Standing

-- the link stands for a list of windows
abbrev pub Stands : LinkState → List ℕ → Type 0
Stands link windows = link.standing ≡ standing_of link.case (run_of link.case windows)

-- how a link stands before its first call
abbrev pub first_standing : LinkCase → Standing
first_standing case = standing_of case (run_of case [])

-- the acknowledgement answers this window, whatever list of windows the link stands for
abbrev pub IsAnswer : LinkState → ℕ → Ack → Type 0
IsAnswer link window ack = (windows : List ℕ) → Stands link windows → ack ≡ ack_after link.case windows window

-- whatever list of windows the old link stands for, the new one stands for it with this window after it
abbrev pub StandsOn : LinkState → ℕ → LinkState → Type 0
StandsOn old window new = (windows : List ℕ) → Stands old windows → Stands new (windows ++ window ∷ [])

-- the acknowledgement of a packet after this past, if `stay` packets stay in flight, and `acked` were acknowledged and
-- `sent` sent so far
abbrev pub packet_ack : LinkCase → Arrival → Past → ℕ → ℕ → ℕ → Ack
packet_ack case arrival past stay acked sent =
    arrival_ack case arrival.sent_at arrival.at arrival.marked past arrival.lost stay acked sent
