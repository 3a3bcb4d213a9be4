-- What holds of the packets and acknowledgements of a shared link at every moment.
use Rattle.std.specs.Prelude.{◌≡◌, ℕ, ◌+◌, ◌≤◌, List, [], ◌∷◌, length}
use Rattle.link_model.specs.Chances.{chance_time}
use Rattle.link_model.specs.Link.{Packet, Fate, Lost, Served, GivenAck, chances_past, in_flight, time_of, acked_of}
use Rattle.link_model.specs.Counts.{served_chances, lost_of}
use Rattle.link_model.specs.Standing.{packets_of}
use Rattle.link_model.specs.Flights.{AllServedWithin, RisesFrom, AllBelow, AllTakeBelow, RiseBelow, IsQueued}
use Rattle.shared_link.specs.declared.shared_case.SharedCase.{SharedCase}
use Rattle.shared_link.specs.SharedRounds.{Sent, flow_link_at, every_packet, own_packets}
use Rattle.shared_link.specs.SharedLaws.{AreInOrder, AreSampled}

-- a packet arrives at this time or later, if it isn't lost
abbrev pub ArrivesFrom : List ℕ → ℕ → ℕ → Fate → Type 0
ArrivesFrom times delay from Lost = Unit {0}
ArrivesFrom times delay from (Served chance marked) = from ≤ chance_time times chance + delay

-- the time of a packet's arrival, or this time if it is lost
abbrev pub after_arrival : List ℕ → ℕ → ℕ → Fate → ℕ
after_arrival times delay from Lost = from
after_arrival times delay from (Served chance marked) = chance_time times chance + delay

-- the packets arrive one after another, from this time on
abbrev pub ArriveFrom : List ℕ → ℕ → ℕ → List Packet → Type 0
ArriveFrom times delay from [] = Unit {0}
ArriveFrom times delay from (packet ∷ rest) =
    ArrivesFrom times delay from packet.fate × ArriveFrom times delay (after_arrival times delay from packet.fate) rest

-- what holds of a flow with these packets and acknowledgements, if all chances that were given are below `past`: what
-- was taken away was sent, the numbers of the packets in flight rise, their chances were given, they arrive one after
-- another and not before the last acknowledgement, the packets add up, and the acknowledgements are in order
pub record FlowSettled (times : List ℕ) (delay past : ℕ) (packets : List Packet) (givens : List GivenAck) : Type 0 where
  pub takings : AllTakeBelow (length packets) givens
  pub rises : RisesFrom 0 (in_flight packets givens)
  pub below : AllBelow (length packets) (in_flight packets givens)
  pub served : AllServedWithin times past (packets_of (in_flight packets givens))
  pub arriving : ArriveFrom times delay (time_of givens) (packets_of (in_flight packets givens))
  pub counts : length packets ≡ acked_of givens + lost_of givens + length (in_flight packets givens)
  pub order : AreInOrder givens
  pub samples : AreSampled delay givens

-- what holds of the link at the time `now`: packets that wait have the last chances that were given, chances rise, each
-- flow is settled, and no acknowledgement comes later
pub record Settled (case : SharedCase) (now : ℕ) (sent : List Sent) (givens : ℕ → List GivenAck) : Type 0 where
  pub queued : IsQueued case.trace now (every_packet sent)
  pub once : RiseBelow (chances_past (every_packet sent)) (served_chances (every_packet sent))
  pub flows : (flow : ℕ)
      → FlowSettled case.trace (flow_link_at case flow).delay_us (chances_past (every_packet sent))
      (own_packets flow sent)
      (givens flow)
  pub past : (flow : ℕ) → time_of (givens flow) ≤ now
