-- The chances that packets got rise, and the packets in flight are counted over an acknowledgement.
use Rattle.std.proofs.Common.{◌≡◌, ℕ, ◌+◌, ◌<◌, ◌≤◌, Bool, true, false, cond, List, [], ◌∷◌, ◌++◌, length, get_or, max, ap, ◌∙◌, subst, arith, inl, inr, length-append}
use Rattle.std.proofs.lemmas.Bool.{cases_lt}
use Rattle.std.proofs.lemmas.List.{get_or_append_left}
use Rattle.std.proofs.Math.Seq.{get_or-append_seam}
use Rattle.link_model.specs.Link.{Packet, Fate, Lost, Served, Numbered, Next, arrives, all_lost, packet_and_lost_below, all_below, left_by, lost_by, chances_past}
use Rattle.link_model.specs.Counts.{served_chances}
use Rattle.link_model.specs.Flights.{RiseBelow, AllBelow}
use Rattle.link_model.specs.Standing.{packets_of}
use Rattle.link_model.proofs.Whole.{Landing, Arrived, AllLost, landing, landing_by, staying}
use Rattle.link_model.proofs.FlightLemmas.{MatchNext, left_by-all_below, length-packets_of}

pub rise_below-none : (bound : ℕ) → RiseBelow bound []
rise_below-none bound = record { rise = λ k within. absurd (omega arith); below = λ i within. absurd (omega arith) }

pub rise_below-push : (bound last : ℕ) (chances : List ℕ) → RiseBelow bound chances → bound ≤ last → RiseBelow (max (last + 1) bound) (chances ++ last ∷ [])
rise_below-push bound last chances so_far order =
    let count : length (chances ++ last ∷ []) ≡ length chances + 1 = omega (arith, length-append chances (last ∷ [])) in
    let seam : get_or (chances ++ last ∷ []) (length chances) 0 ≡ last = get_or-append_seam chances last [] 0 in
    record {
      rise = λ k within.
          elim (cases_lt (k + 1) (length chances)) as (λ _. get_or (chances ++ last ∷ []) k 0 < get_or (chances ++ last ∷ []) (k + 1) 0) [
            | inl inside ↦
                (let here = get_or_append_left chances (last ∷ []) 0 k (omega arith) in
                let next = get_or_append_left chances (last ∷ []) 0 (k + 1) inside in
                omega (arith, here, next, so_far.rise k inside))
            | inr outside ↦
                (let here = get_or_append_left chances (last ∷ []) 0 k (omega (arith, count, within)) in
                let end : k + 1 ≡ length chances = omega (arith, count, within) in
                let next : get_or (chances ++ last ∷ []) (k + 1) 0 ≡ last = ap (λ i. get_or (chances ++ last ∷ []) i 0) end ∙ seam in
                omega (arith, here, next, so_far.below k (omega arith), order))
          ];
      below = λ i within.
          elim (cases_lt i (length chances)) as (λ _. get_or (chances ++ last ∷ []) i 0 < max (last + 1) bound) [
            | inl inside ↦
                (let here = get_or_append_left chances (last ∷ []) 0 i inside in
                omega (arith, here, so_far.below i inside))
            | inr outside ↦
                (let end : i ≡ length chances = omega (arith, count, within) in
                let here : get_or (chances ++ last ∷ []) i 0 ≡ last = ap (λ j. get_or (chances ++ last ∷ []) j 0) end ∙ seam in
                omega (arith, here))
          ];
    }

pub rise_below-sent : (b marked : Bool) (own sent_at : ℕ) (packets : List Packet) → chances_past packets ≤ own → RiseBelow (chances_past packets) (served_chances packets)
    → RiseBelow (chances_past (record { sent_at = sent_at; fate = cond b Lost (Served own marked) } ∷ packets)) (served_chances (record { sent_at = sent_at; fate = cond b Lost (Served own marked) } ∷ packets))
rise_below-sent true marked own sent_at packets order so_far = so_far
rise_below-sent false marked own sent_at packets order so_far = rise_below-push (chances_past packets) own (served_chances packets) so_far order

-- ---- packets in flight over an acknowledgement

abbrev pub CountsAs : ℕ → List Packet → Landing → Type 0
CountsAs n flight (Arrived sent_at chance marked lost) = lost + 1 + length (staying flight) ≡ n + length flight
CountsAs n flight (AllLost lost) = lost ≡ n + length flight

counts_after : (n sent_at : ℕ) (rest : List Packet) (later : Landing) → CountsAs (n + 1) rest later → CountsAs n (record { sent_at = sent_at; fate = Lost } ∷ rest) later
counts_after n sent_at rest (Arrived own chance marked lost) counts = omega (arith, counts)
counts_after n sent_at rest (AllLost lost) counts = omega (arith, counts)

counts_by : (n sent_at : ℕ) (fate : Fate) (rest : List Packet) (later : Landing) → CountsAs (n + 1) rest later → CountsAs n (record { sent_at = sent_at; fate = fate } ∷ rest) (landing_by fate sent_at n later)
counts_by n sent_at Lost rest later counts = counts_after n sent_at rest later counts
counts_by n sent_at (Served chance marked) rest later counts = omega arith

pub counts_as : (n : ℕ) (flight : List Packet) → CountsAs n flight (landing flight n)
counts_as n [] = omega arith
counts_as n (packet ∷ rest) = counts_by n packet.sent_at packet.fate rest (landing rest (n + 1)) (counts_as (n + 1) rest)

-- the packets in flight are the one that is acknowledged, the lost ones that leave, and those that stay
abbrev pub CountNext : ℕ → List Numbered → Next → Type 0
CountNext bound flight (arrives number sent_at chance marked) = length flight ≡ 1 + lost_by (packet_and_lost_below number) flight + length (left_by (packet_and_lost_below number) flight)
CountNext bound flight all_lost = length (left_by (all_below bound) flight) ≡ 0

pub count_next : (bound : ℕ) (flight : List Numbered) (next : Next) → MatchNext flight 0 0 next → AllBelow bound flight → CountNext bound flight next
count_next bound flight all_lost same below = ap length (left_by-all_below bound flight below)
count_next bound flight (arrives number sent_at chance marked) same below =
    let counts = subst (λ (l : Landing). CountsAs 0 (packets_of flight) l) same.0 (counts_as 0 (packets_of flight)) in
    let stay = ap length same.1 in
    omega (arith, counts, stay, length-packets_of flight, length-packets_of (left_by (packet_and_lost_below number) flight))
