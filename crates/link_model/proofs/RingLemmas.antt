-- The ring of the packets in flight: what it holds after one more packet, and after the first one left.
use Rattle.std.proofs.Common.{◌≡◌, ◌≢◌, ℕ, zero, suc, ◌+◌, ◌-◌, ◌%◌, ◌<◌, ◌≤◌, List, [], ◌∷◌, ◌++◌, length, set, min, refl, ap, subst, sym, ◌∙◌, arith, inl, inr}
use Rattle.std.proofs.Math.Nat.{div-add-mod, mod-lt}
use Rattle.std.proofs.lemmas.Bool.{cases_lt}
use Rattle.std.proofs.lemmas.List.{get_or_append_left, get_or_push, get_or-set_same, get_or-set_other}
use Rattle.ccp_base.specs.Limits.{most_flight}
use Rattle.link_model.specs.declared.arrival.Arrival.{Arrival}
use Rattle.link_model.specs.Rings.{no_arrival, arrival_at, read_from}

pub length-read : (places : List Arrival) (from more : ℕ) → length (read_from places from more) ≡ more
length-read places from zero = refl
length-read places from (suc more) = omega (arith, length-read places (from + 1) more)

-- the packet of a count that is read
read-at : (places : List Arrival) (from more k : ℕ) → k < more → arrival_at (read_from places from more) k ≡ arrival_at places ((from + k) % most_flight)
read-at places from zero k under = absurd (omega arith)
read-at places from (suc more) zero under = let same : from ≡ from + 0 = omega arith in ap (λ n. arrival_at places (n % most_flight)) same
read-at places from (suc more) (suc k) under =
    let same : from + 1 + k ≡ from + suc k = omega arith in
    read-at places (from + 1) more k (omega arith) ∙ ap (λ n. arrival_at places (n % most_flight)) same

-- one more packet is read
read-more : (places : List Arrival) (from more : ℕ) → read_from places from (suc more) ≡ read_from places from more ++ arrival_at places ((from + more) % most_flight) ∷ []
read-more places from zero = let same : from ≡ from + 0 = omega arith in ap (λ n. arrival_at places (n % most_flight) ∷ []) same
read-more places from (suc more) =
    let same : from + 1 + more ≡ from + suc more = omega arith in
    ap (λ xs. arrival_at places (from % most_flight) ∷ xs)
    (read-more places (from + 1) more ∙ ap (λ n. read_from places (from + 1) more ++ arrival_at places (n % most_flight) ∷ []) same)

-- packets that are in flight at once have different places
apart : (from k more : ℕ) → k < more → more < most_flight → (from + k) % most_flight ≢ (from + more) % most_flight
apart from k more under room = λ same. omega (arith, div-add-mod (from + k) most_flight, div-add-mod (from + more) most_flight)

-- a place that isn't read
read-other : (places : List Arrival) (x : Arrival) (place from more : ℕ) → ((k : ℕ) → k < more → (from + k) % most_flight ≢ place) → read_from (set places place x) from more ≡ read_from places from more
read-other places x place from zero other = refl
read-other places x place from (suc more) other =
    let here : from + 0 ≡ from = omega arith in
    let first : from % most_flight ≢ place = λ same. other 0 (omega arith) (ap (λ n. n % most_flight) here ∙ same) in
    ap (λ a. a ∷ read_from (set places place x) (from + 1) more) (get_or-set_other places place (from % most_flight) x no_arrival first)
    ∙ ap (λ xs. arrival_at places (from % most_flight) ∷ xs)
    (read-other places x place (from + 1) more (λ k under same. (let next : from + suc k ≡ from + 1 + k = omega arith in other (suc k) (omega arith) (ap (λ n. n % most_flight) next ∙ same))))

-- a packet that is put behind the others, over one that left
read-push : (places : List Arrival) (x : Arrival) (from more : ℕ) → (from + more) % most_flight < length places → more < most_flight
    → read_from (set places ((from + more) % most_flight) x) from (suc more) ≡ read_from places from more ++ x ∷ []
read-push places x from more within room =
    let place = (from + more) % most_flight in
    read-more (set places place x) from more
    ∙ ap (λ a. read_from (set places place x) from more ++ a ∷ []) (get_or-set_same places place x no_arrival within)
    ∙ ap (λ xs. xs ++ x ∷ []) (read-other places x place from more (λ k under. apart from k more under room))

pub push-read : (places : List Arrival) (x : Arrival) (taken put : ℕ) → put % most_flight < length places → taken ≤ put → put < taken + most_flight
    → read_from (set places (put % most_flight) x) taken (put + 1 - taken) ≡ read_from places taken (put - taken) ++ x ∷ []
push-read places x taken put within order room =
    let last : put ≡ taken + (put - taken) = omega arith in
    let more : put + 1 - taken ≡ suc (put - taken) = omega arith in
    ap (read_from (set places (put % most_flight) x) taken) more
    ∙ ap (λ n. read_from (set places (n % most_flight) x) taken (suc (put - taken))) last
    ∙ read-push places x taken (put - taken) (subst (λ n. n % most_flight < length places) last within) (omega arith)

-- the place of a count
pub place_at_most : (count : ℕ) → count % most_flight ≤ count
place_at_most count = omega (arith, div-add-mod count most_flight)

pub place_below : (count : ℕ) → count % most_flight < most_flight
place_below count = let some : 0 < most_flight = omega arith in mod-lt count some

place_is : (count : ℕ) → count < most_flight → count ≡ count % most_flight
place_is count under = omega (arith, div-add-mod count most_flight, place_below count)

-- a place that was put at before is one of a full ring
pub full_from : (put count : ℕ) → put % most_flight < count → count ≡ min put most_flight → most_flight ≤ put
full_from put count within long =
    elim (cases_lt put most_flight) as (λ _. most_flight ≤ put) [ inl under ↦ absurd (omega (arith, place_is put under)) | inr not_under ↦ not_under ]

-- or at a new place
read-grown : (places : List Arrival) (x : Arrival) (from more : ℕ) → from + more ≤ length places → read_from (places ++ x ∷ []) from more ≡ read_from places from more
read-grown places x from zero within = refl
read-grown places x from (suc more) within =
    ap (λ a. a ∷ read_from (places ++ x ∷ []) (from + 1) more) (get_or_append_left places (x ∷ []) no_arrival (from % most_flight) (omega (arith, place_at_most from)))
    ∙ ap (λ xs. arrival_at places (from % most_flight) ∷ xs) (read-grown places x (from + 1) more (omega arith))

pub grow-read : (places : List Arrival) (x : Arrival) (taken put : ℕ) → length places ≡ put → taken ≤ put → put < most_flight
    → read_from (places ++ x ∷ []) taken (put + 1 - taken) ≡ read_from places taken (put - taken) ++ x ∷ []
grow-read places x taken put long order room =
    let last : taken + (put - taken) ≡ put = omega arith in
    let more : put + 1 - taken ≡ suc (put - taken) = omega arith in
    let place : length places ≡ (taken + (put - taken)) % most_flight = long ∙ place_is put room ∙ ap (λ n. n % most_flight) (sym last) in
    ap (read_from (places ++ x ∷ []) taken) more
    ∙ read-more (places ++ x ∷ []) taken (put - taken)
    ∙ ap (λ a. read_from (places ++ x ∷ []) taken (put - taken) ++ a ∷ []) (get_or_push places x no_arrival ((taken + (put - taken)) % most_flight) place)
    ∙ ap (λ xs. xs ++ x ∷ []) (read-grown places x taken (put - taken) (omega (arith, long)))

-- the first packet, and those after it
pub read-first : (places : List Arrival) (taken put : ℕ) → taken < put
    → read_from places taken (put - taken) ≡ arrival_at places (taken % most_flight) ∷ read_from places (taken + 1) (put - (taken + 1))
read-first places taken put some = let more : put - taken ≡ suc (put - (taken + 1)) = omega arith in ap (read_from places taken) more

pub read-none : (places : List Arrival) (taken put : ℕ) → taken ≡ put → read_from places taken (put - taken) ≡ []
read-none places taken put same = let none : put - taken ≡ 0 = omega arith in ap (read_from places taken) none

-- the packet of a count that is in flight
pub read-count : (places : List Arrival) (taken put count : ℕ) → taken ≤ count → count < put
    → arrival_at places (count % most_flight) ≡ arrival_at (read_from places taken (put - taken)) (count - taken)
read-count places taken put count order under =
    let same : taken + (count - taken) ≡ count = omega arith in
    sym (read-at places taken (put - taken) (count - taken) (omega arith) ∙ ap (λ n. arrival_at places (n % most_flight)) same)
