-- How many packets are in flight at most, and how many of them an acknowledgement loses.
use Rattle.std.specs.Prelude.{◌≡◌, ◌≤◌, ℕ, ◌+◌, Bool, true, false, ◌&&◌, if◌then◌else◌, List, [], ◌∷◌, length, refl}
use Rattle.std.proofs.Common.{arith, length-append}
use Rattle.link_model.specs.Link.{Packet, Taking, Numbered, GivenAck, is_lost, takes, left_by, lost_by, numbered, in_flight}

pub length-numbered : (packets : List Packet) → length (numbered packets) ≡ length packets
length-numbered [] = refl
length-numbered (packet ∷ earlier) =
    omega (arith, length-numbered earlier, length-append (numbered earlier) (record { number = length earlier; packet = packet } ∷ []))

left-one : (b : Bool) (sent : Numbered) (rest : List Numbered) → length (if b then rest else sent ∷ rest) ≤ length rest + 1
left-one true sent rest = omega arith
left-one false sent rest = omega arith

pub left-most : (taking : Taking) (flight : List Numbered) → length (left_by taking flight) ≤ length flight
left-most taking [] = omega arith
left-most taking (sent ∷ rest) =
    omega (arith, left-most taking rest, left-one (takes taking sent) sent (left_by taking rest))

lost-one : (b : Bool) (n : ℕ) → (if b then n + 1 else n) ≤ n + 1
lost-one true n = omega arith
lost-one false n = omega arith

pub lost-most : (taking : Taking) (flight : List Numbered) → lost_by taking flight ≤ length flight
lost-most taking [] = omega arith
lost-most taking (sent ∷ rest) =
    omega (arith, lost-most taking rest, lost-one (takes taking sent && is_lost sent.packet.fate) (lost_by taking rest))

pub flight-most : (packets : List Packet) (givens : List GivenAck) → length (in_flight packets givens) ≤ length packets
flight-most packets [] = omega (arith, length-numbered packets)
flight-most packets (given ∷ earlier) =
    omega (arith, flight-most packets earlier, left-most given.taking (in_flight packets earlier))
