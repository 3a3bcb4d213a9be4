-- How the packets of a run add up: the chances that they got, and what became of them.
use Rattle.std.specs.Prelude.{◌≡◌, ℕ, ◌+◌, ◌*◌, List, [], ◌∷◌, ◌++◌, length}
use Rattle.std.specs.List.Sorted.{IsStrictlyIncreasing}
use Rattle.ccp_base.specs.Limits.{most_flight, most_acks}
use Rattle.link_model.specs.Link.{Run, Packet, GivenAck, Fate, Lost, Served, in_flight, acked_of}

-- the packets that all calls can send
abbrev pub most_packets : ℕ
most_packets = most_flight * most_acks

-- the chances so far, and that of one more packet if it isn't lost
abbrev pub with_chance : Fate → List ℕ → List ℕ
with_chance Lost earlier = earlier
with_chance (Served chance marked) earlier = earlier ++ chance ∷ []

-- the chances of the packets that aren't lost, in the order in which they were sent
abbrev pub served_chances : List Packet → List ℕ
served_chances [] = []
served_chances (packet ∷ earlier) = with_chance packet.fate (served_chances earlier)

-- how many packets left as lost
abbrev pub lost_of : List GivenAck → ℕ
lost_of [] = 0
lost_of (given ∷ earlier) = given.ack.lost_pkts_sample + lost_of earlier

-- no chance serves two packets: each packet's comes after that of the one before
abbrev pub AreOnce : Run → Type 0
AreOnce run = IsStrictlyIncreasing (served_chances run.packets)

-- every packet that was sent was acknowledged, left as lost, or is in flight
abbrev pub AddUp : Run → Type 0
AddUp run = length run.packets ≡ acked_of run.givens + lost_of run.givens + length (in_flight run.packets run.givens)
