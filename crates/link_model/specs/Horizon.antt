-- How far the times of a link can come: bounds by the packets sent and the calls made, so that its numbers fit.
use Rattle.std.specs.Prelude.{◌≡◌, ℕ, ◌+◌, ◌-◌, ◌*◌, ◌^◌, ◌<◌, ◌≤◌, List, [], ◌∷◌, get_or, slice_index}
use Rattle.ccp_base.specs.Limits.{most_flight, most_acks, most_delay_us, most_timeout_us}
use Rattle.link_model.specs.declared.link_case.LinkCase.{LinkCase}
use Rattle.link_model.specs.declared.arrival.Arrival.{Arrival}
use Rattle.link_model.specs.declared.traffic.Traffic.{Traffic}
use Rattle.link_model.specs.Traces.{longest_period, IsTrace}
use Rattle.link_model.specs.Chances.{chance_time}
use Rattle.link_model.specs.Rings.{IsRing, arrivals_in}
use Rattle.link_model.specs.Lines.{IsLine}
use Rattle.link_model.specs.Standing.{Standing}
use Rattle.link_model.specs.LinkMoves.{flight_count, standing_in}

-- the longest that a call may take beside its packets, in microseconds: a delay and a timeout
abbrev pub longest_call : ℕ
longest_call = most_delay_us + most_timeout_us

-- how far the times come: each packet takes at most a period, and each call its longest
abbrev pub horizon : ℕ → ℕ → ℕ
horizon sent calls = longest_period * sent + longest_call * calls

-- the packets were sent before they arrive, and arrive up to this time
abbrev pub ArriveWithin : ℕ → List Arrival → Type 0
ArriveWithin limit [] = Unit {0}
ArriveWithin limit (arrival ∷ rest) = (arrival.sent_at ≤ arrival.at) × (arrival.at ≤ limit) × ArriveWithin limit rest

-- the packets arrive one after another, from one time on up to another
abbrev pub ArriveInOrder : ℕ → ℕ → List Arrival → Type 0
ArriveInOrder from limit [] = Unit {0}
ArriveInOrder from limit (arrival ∷ rest) =
    (from ≤ arrival.at) × (arrival.at ≤ limit) × ArriveInOrder arrival.at limit rest

-- the times of a link are within its horizon
pub record IsTimely (case : LinkCase) (standing : Standing) : Type 0 where
  pub time : standing.time ≤ horizon standing.sent standing.calls
  pub chances : (k : ℕ) → k < standing.chance → chance_time case.trace k ≤ horizon standing.sent standing.calls
  pub arrivals : ArriveWithin (horizon standing.sent standing.calls + case.delay_us) standing.arrivals

-- the number of the loss listed at a place, the greatest one of 64 bits past the last one
abbrev pub loss_at : List ℕ → ℕ → ℕ
loss_at losses place = get_or losses place (2 ^ 64 - 1)

-- what a link keeps beside how it stands: the room for packets, the line of those that wait, how many are in flight,
-- how many of the losses listed have numbers below the next packet's, and the loss listed after those; the next packet
-- arrives after those in flight
pub record IsKept (case : LinkCase) (traffic : Traffic) : Type 0 where
  pub valid : IsTrace case.trace
  pub ring : IsRing traffic.flight
  pub put : traffic.flight.put ≤ traffic.sent
  pub line : IsLine case traffic.time traffic.flight traffic.line
  pub order : ArriveInOrder traffic.time (traffic.line.next.at + case.delay_us) (arrivals_in traffic.flight)
  pub count : traffic.in_flight ≡ flight_count (arrivals_in traffic.flight) traffic.lost
  pub few : traffic.in_flight ≤ most_flight
  pub passed : (i : ℕ) → i < traffic.passed → slice_index case.losses i < traffic.sent
  pub next_loss : traffic.next_loss ≡ loss_at case.losses traffic.passed
  pub timely : IsTimely case (standing_in case.trace traffic)

-- the counts are within the bounds of the most calls
pub record IsCounted (traffic : Traffic) : Type 0 where
  pub calls : traffic.calls ≤ most_acks
  pub sent : traffic.sent ≤ most_flight * traffic.calls
  pub acked : traffic.flight.taken ≤ traffic.calls
