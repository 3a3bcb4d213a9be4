-- Packets in flight have chances that were given, and none before its sending time.
use Rattle.std.proofs.Common.{ℕ, ◌≤◌, List, [], ◌∷◌, ◌++◌, arith}
use Rattle.link_model.specs.Link.{Packet, Fate, Lost, Served}
use Rattle.link_model.specs.Flights.{IsServedWithin, AllServedWithin}
use Rattle.link_model.proofs.Whole.{staying, staying_by}

is_served_within-more : (times : List ℕ) (chance more sent_at : ℕ) (fate : Fate) → chance ≤ more → IsServedWithin times chance sent_at fate → IsServedWithin times more sent_at fate
is_served_within-more times chance more sent_at Lost order within = tt
is_served_within-more times chance more sent_at (Served own marked) order within = (omega (arith, within.0), within.1)

pub all_served_within-more : (times : List ℕ) (chance more : ℕ) (packets : List Packet) → chance ≤ more → AllServedWithin times chance packets → AllServedWithin times more packets
all_served_within-more times chance more [] order within = tt
all_served_within-more times chance more (packet ∷ rest) order within =
    (is_served_within-more times chance more packet.sent_at packet.fate order within.0, all_served_within-more times chance more rest order within.1)

pub all_served_within-push : (times : List ℕ) (chance : ℕ) (packets : List Packet) (packet : Packet) → AllServedWithin times chance packets → IsServedWithin times chance packet.sent_at packet.fate → AllServedWithin times chance (packets ++ packet ∷ [])
all_served_within-push times chance [] packet within last = (last, tt)
all_served_within-push times chance (first ∷ rest) packet within last = (within.0, all_served_within-push times chance rest packet within.1 last)

-- what stays in flight was in flight
staying_within : (times : List ℕ) (chance : ℕ) (fate : Fate) (rest later : List Packet) → AllServedWithin times chance rest → AllServedWithin times chance later → AllServedWithin times chance (staying_by fate rest later)
staying_within times chance Lost rest later within within_later = within_later
staying_within times chance (Served own marked) rest later within within_later = within

pub all_served_within-staying : (times : List ℕ) (chance : ℕ) (packets : List Packet) → AllServedWithin times chance packets → AllServedWithin times chance (staying packets)
all_served_within-staying times chance [] within = tt
all_served_within-staying times chance (packet ∷ rest) within =
    staying_within times chance packet.fate rest (staying rest) within.1 (all_served_within-staying times chance rest within.1)
