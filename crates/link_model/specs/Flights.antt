-- What holds of the packets and acknowledgements of a run at every moment: proofs keep these facts from step to step.
use Rattle.std.specs.Prelude.{◌≡◌, ℕ, ◌+◌, ◌-◌, ◌<◌, ◌≤◌, List, [], ◌∷◌, length, get_or}
use Rattle.std.specs.List.Sorted.{IsStrictlyIncreasing}
use Rattle.link_model.specs.Chances.{chance_time, first_chance}
use Rattle.link_model.specs.Link.{Packet, Fate, Lost, Served, Taking, packet_and_lost_below, all_below, GivenAck, Numbered, waiting, chances_past}

-- ---- chances

-- a packet's chance is below a number, and isn't before its sending time
abbrev pub IsServedWithin : List ℕ → ℕ → ℕ → Fate → Type 0
IsServedWithin times chance sent_at Lost = Unit {0}
IsServedWithin times chance sent_at (Served own marked) = (own < chance) × (sent_at ≤ chance_time times own)

abbrev pub AllServedWithin : List ℕ → ℕ → List Packet → Type 0
AllServedWithin times chance [] = Unit {0}
AllServedWithin times chance (packet ∷ rest) =
    IsServedWithin times chance packet.sent_at packet.fate × AllServedWithin times chance rest

-- the chances rise and are below this number
pub record RiseBelow (bound : ℕ) (chances : List ℕ) : Type 0 where
  pub rise : IsStrictlyIncreasing chances
  pub below : (i : ℕ) → i < length chances → get_or chances i 0 < bound

-- at each time from now on, the packets that wait have the chances after that time, up to the last one that was given
abbrev pub IsQueued : List ℕ → ℕ → List Packet → Type 0
IsQueued times now packets =
    (at : ℕ) → now ≤ at → waiting times at packets ≡ chances_past packets - first_chance times (at + 1) 0

-- ---- numbers

-- the numbers rise, from this one on
abbrev pub RisesFrom : ℕ → List Numbered → Type 0
RisesFrom from [] = Unit {0}
RisesFrom from (sent ∷ rest) = (from ≤ sent.number) × RisesFrom (sent.number + 1) rest

-- the numbers are below this one
abbrev pub AllBelow : ℕ → List Numbered → Type 0
AllBelow bound [] = Unit {0}
AllBelow bound (sent ∷ rest) = (sent.number < bound) × AllBelow bound rest

-- what is taken away has numbers below this one
abbrev pub TakesBelow : ℕ → Taking → Type 0
TakesBelow bound (packet_and_lost_below number) = number < bound
TakesBelow bound (all_below sent) = sent ≤ bound

abbrev pub AllTakeBelow : ℕ → List GivenAck → Type 0
AllTakeBelow bound [] = Unit {0}
AllTakeBelow bound (given ∷ earlier) = TakesBelow bound given.taking × AllTakeBelow bound earlier
