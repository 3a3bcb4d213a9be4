-- The line of the packets that wait at a link: which chances they have, and which chances are gone by.
use Rattle.std.specs.Prelude.{◌≡◌, ℕ, ◌+◌, ◌-◌, ◌<◌, ◌≤◌, max, min, Option, Some, None, List, length}
use Rattle.link_model.specs.declared.link_case.LinkCase.{LinkCase}
use Rattle.link_model.specs.declared.arrival.Arrival.{Arrival}
use Rattle.link_model.specs.declared.chance.Coming.{Coming}
use Rattle.link_model.specs.declared.flight.Flight.{Flight}
use Rattle.link_model.specs.declared.line.Line.{Line}
use Rattle.link_model.specs.Chances.{chance_number, chance_time, first_chance}
use Rattle.link_model.specs.Link.{arrival_of}
use Rattle.link_model.specs.Rings.{arrival_at, arrivals_in}

-- a chance of a trace with its time
pub record IsComing (times : List ℕ) (coming : Coming) : Type 0 where
  pub place : coming.chance.place < length times
  pub at : coming.at ≡ chance_time times (chance_number times coming.chance)

-- of `put` packets the first `taken` ones left, and the others are in flight; those from the count `from` on have the
-- last chances before this one, and all chances before theirs are gone by at this time
pub record AreQueued (case : LinkCase) (time chance from taken put : ℕ) (arrivals : List Arrival) : Type 0 where
  pub given : put ≤ from + chance
  pub arrive : (n : ℕ) → from ≤ n → n < put → (arrival_at arrivals (n - taken)).at ≡ arrival_of case (chance + n - put)
  pub past : (j : ℕ) → j + (put - from) < chance → chance_time case.trace j ≤ time

-- a packet finds room and isn't marked if fewer packets wait
abbrev pub least_noticed : ℕ → Option ℕ → ℕ
least_noticed queue None = queue
least_noticed queue (Some mark) = min queue mark

-- the count from which on packets in flight may wait
abbrev pub waiting_from : Flight → Line → ℕ
waiting_from flight line = max line.gone flight.taken

-- a line of a link at a time, over its packets in flight
pub record IsLine (case : LinkCase) (time : ℕ) (flight : Flight) (line : Line) : Type 0 where
  pub next : IsComing case.trace line.next
  pub gone : line.gone ≤ flight.put
  pub queued : AreQueued case time (chance_number case.trace line.next.chance) (waiting_from flight line) flight.taken flight.put (arrivals_in flight)
  pub free : line.free_until ≤ line.gone + least_noticed case.queue case.mark

-- the number of the next chance of a line that isn't before this time
abbrev pub due_number : List ℕ → Line → ℕ → ℕ
due_number times line now = max (chance_number times line.next.chance) (first_chance times now 0)

-- how many packets wait at a time, if this is the chance after those that were given
abbrev pub waiting_before : List ℕ → ℕ → ℕ → ℕ
waiting_before times chance time = chance - first_chance times (time + 1) 0
