-- The round-trip sample of an acknowledgement, and the room that a packet finds in the queue.
use Rattle.std.proofs.Common.{◌≡◌, ℕ, ◌≤◌, Bool, true, false, cond, leb, ◌||◌, List, [], ◌∷◌, refl, arith}
use Rattle.std.proofs.lemmas.Bool.Decides.{nat_tests}
use Rattle.link_model.specs.declared.link_case.LinkCase.{LinkCase}
use Rattle.link_model.specs.Chances.{chance_time}
use Rattle.link_model.specs.Link.{Packet, GivenAck, Numbered, Fate, Lost, Served, Next, arrives, all_lost, next_by, next_arrival, past_of, answer_by}
use Rattle.link_model.specs.Standing.{packets_of}
use Rattle.link_model.specs.Flights.{IsServedWithin, AllServedWithin}
use Rattle.link_model.specs.Runs.{IsSampled, FindsRoom}

-- the packet that arrives wasn't sent after its chance
abbrev pub IsNextServed : List ℕ → Next → Type 0
IsNextServed times all_lost = Unit {0}
IsNextServed times (arrives number sent_at chance marked) = sent_at ≤ chance_time times chance

next_served_by : (times : List ℕ) (bound number sent_at : ℕ) (fate : Fate) (later : Next) → IsServedWithin times bound sent_at fate → IsNextServed times later → IsNextServed times (next_by number sent_at fate later)
next_served_by times bound number sent_at Lost later within served = served
next_served_by times bound number sent_at (Served chance marked) later within served = within.1

pub next_served : (times : List ℕ) (bound : ℕ) (flight : List Numbered) → AllServedWithin times bound (packets_of flight) → IsNextServed times (next_arrival flight)
next_served times bound [] within = tt
next_served times bound (sent ∷ rest) within =
    next_served_by times bound sent.number sent.packet.sent_at sent.packet.fate (next_arrival rest) within.0 (next_served times bound rest within.1)

pub is_sampled-next : (case : LinkCase) (packets : List Packet) (givens : List GivenAck) (flight : List Numbered) (next : Next) → IsNextServed case.trace next
    → IsSampled case.delay_us (past_of givens) (answer_by case packets givens flight next).ack
is_sampled-next case packets givens flight all_lost served = record {
  packet = λ other. absurd (let h : true ≡ false = other in cc);
  timeout = λ is. refl;
}
is_sampled-next case packets givens flight (arrives number sent_at chance marked) served = record {
  packet = λ is. omega (arith, served);
  timeout = λ other. absurd (let h : false ≡ true = other in cc);
}

pub finds_room : (queue waiting own : ℕ) (listed full marked : Bool) → leb queue waiting ≡ full → FindsRoom queue waiting (cond (listed || full) Lost (Served own marked))
finds_room queue waiting own true full marked is = tt
finds_room queue waiting own false true marked is = tt
finds_room queue waiting own false false marked is = grind (arith, nat_tests)
