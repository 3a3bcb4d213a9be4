-- The ring of the packets in flight: which packets its places hold.
use Rattle.std.specs.Prelude.{◌≡◌, ℕ, zero, suc, ◌+◌, ◌-◌, ◌%◌, ◌≤◌, false, min, List, [], ◌∷◌, length, get_or, vec_capacity}
use Rattle.ccp_base.specs.Limits.{most_flight}
use Rattle.link_model.specs.declared.arrival.Arrival.{Arrival}
use Rattle.link_model.specs.declared.flight.Flight.{Flight}

abbrev pub no_arrival : Arrival
no_arrival = record { lost = 0; sent_at = 0; at = 0; marked = false }

-- the packet at a place of a list
abbrev pub arrival_at : List Arrival → ℕ → Arrival
arrival_at arrivals place = get_or arrivals place no_arrival

-- `more` packets from this count on, each at the place of its count
abbrev pub read_from : List Arrival → ℕ → ℕ → List Arrival
read_from places from zero = []
read_from places from (suc more) = arrival_at places (from % most_flight) ∷ read_from places (from + 1) more

-- the packets in flight
abbrev pub arrivals_in : Flight → List Arrival
arrivals_in flight = read_from flight.places.items flight.taken (flight.put - flight.taken)

-- a ring has room for the most packets in flight, and a place for each of those that were put in, until it is full
pub record IsRing (flight : Flight) : Type 0 where
  pub capacity : most_flight ≤ vec_capacity flight.places
  pub places : length flight.places.items ≡ min flight.put most_flight
  pub order : flight.taken ≤ flight.put
  pub room : flight.put ≤ flight.taken + most_flight
