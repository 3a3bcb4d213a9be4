-- The packets in flight of the definition against those that a link keeps.
use Rattle.std.proofs.Common.{◌≡◌, ℕ, suc, ◌+◌, ◌<◌, ◌≤◌, Bool, true, false, cond, eqb, ltb, ◌&&◌, List, [], ◌∷◌, ◌++◌, length, refl, ap, ◌∙◌, arith}
use Rattle.std.proofs.lemmas.Bool.{and_right, or_from, or_left, or_right, eq-eqb, ne_eqb, lt-ltb, le-ltb}
use Rattle.link_model.specs.Link.{Packet, Fate, Lost, Served, Taking, packet_and_lost_below, all_below, GivenAck, Numbered, takes, left_by, lost_by, is_lost, in_flight, Next, arrives, all_lost, next_by, next_arrival}
use Rattle.link_model.specs.Flights.{RisesFrom, AllBelow, TakesBelow, AllTakeBelow}
use Rattle.link_model.specs.Standing.{packets_of}
use Rattle.link_model.proofs.Whole.{Arrived, AllLost, landing, staying}

-- ---- numbers in flight

pub RisesFrom-less : (from less : ℕ) (flight : List Numbered) → less ≤ from → RisesFrom from flight → RisesFrom less flight
RisesFrom-less from less [] order rises = tt
RisesFrom-less from less (sent ∷ rest) order rises = (omega (arith, rises.0), rises.1)

pub AllBelow-more : (bound more : ℕ) (flight : List Numbered) → bound ≤ more → AllBelow bound flight → AllBelow more flight
AllBelow-more bound more [] order below = tt
AllBelow-more bound more (sent ∷ rest) order below = (omega (arith, below.0), AllBelow-more bound more rest order below.1)

pub RisesFrom-push : (from bound : ℕ) (flight : List Numbered) (last : Numbered) → RisesFrom from flight → AllBelow bound flight → from ≤ last.number → bound ≤ last.number → RisesFrom from (flight ++ last ∷ [])
RisesFrom-push from bound [] last rises below after order = (after, tt)
RisesFrom-push from bound (sent ∷ rest) last rises below after order =
    (rises.0, RisesFrom-push (sent.number + 1) bound rest last rises.1 below.1 (omega (arith, below.0)) order)

pub AllBelow-push : (bound : ℕ) (flight : List Numbered) (last : Numbered) → AllBelow bound flight → last.number < bound → AllBelow bound (flight ++ last ∷ [])
AllBelow-push bound [] last below is = (is, tt)
AllBelow-push bound (sent ∷ rest) last below is = (below.0, AllBelow-push bound rest last below.1 is)

rises_if : (b : Bool) (from : ℕ) (sent : Numbered) (rest : List Numbered) → from ≤ sent.number → RisesFrom (sent.number + 1) rest → RisesFrom from (cond b rest (sent ∷ rest))
rises_if true from sent rest order rises = RisesFrom-less (sent.number + 1) from rest (omega arith) rises
rises_if false from sent rest order rises = (order, rises)

pub RisesFrom-left_by : (taking : Taking) (from : ℕ) (flight : List Numbered) → RisesFrom from flight → RisesFrom from (left_by taking flight)
RisesFrom-left_by taking from [] rises = tt
RisesFrom-left_by taking from (sent ∷ rest) rises =
    rises_if (takes taking sent) from sent (left_by taking rest) rises.0 (RisesFrom-left_by taking (sent.number + 1) rest rises.1)

below_if : (b : Bool) (bound : ℕ) (sent : Numbered) (rest : List Numbered) → sent.number < bound → AllBelow bound rest → AllBelow bound (cond b rest (sent ∷ rest))
below_if true bound sent rest is below = below
below_if false bound sent rest is below = (is, below)

pub AllBelow-left_by : (taking : Taking) (bound : ℕ) (flight : List Numbered) → AllBelow bound flight → AllBelow bound (left_by taking flight)
AllBelow-left_by taking bound [] below = tt
AllBelow-left_by taking bound (sent ∷ rest) below = below_if (takes taking sent) bound sent (left_by taking rest) below.0 (AllBelow-left_by taking bound rest below.1)

-- ---- one more packet

takes_below-more : (bound more : ℕ) (taking : Taking) → bound ≤ more → TakesBelow bound taking → TakesBelow more taking
takes_below-more bound more (packet_and_lost_below number) order below = omega (arith, below)
takes_below-more bound more (all_below sent) order below = omega (arith, below)

pub all_take_below-more : (bound more : ℕ) (givens : List GivenAck) → bound ≤ more → AllTakeBelow bound givens → AllTakeBelow more givens
all_take_below-more bound more [] order below = tt
all_take_below-more bound more (given ∷ earlier) order below =
    (takes_below-more bound more given.taking order below.0, all_take_below-more bound more earlier order below.1)

-- a later packet isn't taken away
pub not_taken : (taking : Taking) (sent : Numbered) → TakesBelow sent.number taking → takes taking sent ≡ false
not_taken (packet_and_lost_below number) sent below =
    let earlier : number < sent.number = below in
    let other = ne_eqb sent.number number (λ same. omega (arith, earlier, same)) in
    let later = le-ltb sent.number number (omega (arith, earlier)) in
    or_from (eqb sent.number number) (is_lost sent.packet.fate && ltb sent.number number) other (and_right (is_lost sent.packet.fate) (ltb sent.number number) later)
not_taken (all_below count) sent below = le-ltb sent.number count below

left_by-append : (taking : Taking) (xs ys : List Numbered) → left_by taking (xs ++ ys) ≡ left_by taking xs ++ left_by taking ys
left_by-append taking [] ys = refl
left_by-append taking (sent ∷ rest) ys =
    ap (λ zs. cond (takes taking sent) zs (sent ∷ zs)) (left_by-append taking rest ys)
    ∙ elim (takes taking sent) as (λ b. cond b (left_by taking rest ++ left_by taking ys) (sent ∷ (left_by taking rest ++ left_by taking ys)) ≡ cond b (left_by taking rest) (sent ∷ left_by taking rest) ++ left_by taking ys)
    [ true ↦ refl | false ↦ refl ]

pub in_flight-sent : (packets : List Packet) (packet : Packet) (givens : List GivenAck) → AllTakeBelow (length packets) givens
    → in_flight (packet ∷ packets) givens ≡ in_flight packets givens ++ record { number = length packets; packet = packet } ∷ []
in_flight-sent packets packet [] below = refl
in_flight-sent packets packet (given ∷ earlier) below =
    let last : Numbered = record { number = length packets; packet = packet } in
    ap (left_by given.taking) (in_flight-sent packets packet earlier below.1)
    ∙ left_by-append given.taking (in_flight packets earlier) (last ∷ [])
    ∙ ap (λ b. left_by given.taking (in_flight packets earlier) ++ cond b [] (last ∷ [])) (not_taken given.taking last below.0)

pub packets_of-push : (flight : List Numbered) (last : Numbered) → packets_of (flight ++ last ∷ []) ≡ packets_of flight ++ last.packet ∷ []
packets_of-push [] last = refl
packets_of-push (sent ∷ rest) last = ap (λ xs. sent.packet ∷ xs) (packets_of-push rest last)

pub length-packets_of : (flight : List Numbered) → length (packets_of flight) ≡ length flight
length-packets_of [] = refl
length-packets_of (sent ∷ rest) = ap suc (length-packets_of rest)

-- ---- an acknowledgement

-- a timeout takes all away
pub left_by-all_below : (bound : ℕ) (flight : List Numbered) → AllBelow bound flight → left_by (all_below bound) flight ≡ []
left_by-all_below bound [] below = refl
left_by-all_below bound (sent ∷ rest) below =
    ap (λ b. cond b (left_by (all_below bound) rest) (sent ∷ left_by (all_below bound) rest)) (lt-ltb sent.number bound below.0) ∙ left_by-all_below bound rest below.1

-- an acknowledgement takes nothing later away
left_by-later : (number from : ℕ) (flight : List Numbered) → RisesFrom from flight → number < from → left_by (packet_and_lost_below number) flight ≡ flight
left_by-later number from [] rises order = refl
left_by-later number from (sent ∷ rest) rises order =
    ap (λ b. cond b (left_by (packet_and_lost_below number) rest) (sent ∷ left_by (packet_and_lost_below number) rest)) (not_taken (packet_and_lost_below number) sent (omega (arith, rises.0)))
    ∙ ap (λ xs. sent ∷ xs) (left_by-later number (sent.number + 1) rest rises.1 (omega (arith, rises.0)))

lost_by-later : (number from : ℕ) (flight : List Numbered) → RisesFrom from flight → number < from → lost_by (packet_and_lost_below number) flight ≡ 0
lost_by-later number from [] rises order = refl
lost_by-later number from (sent ∷ rest) rises order =
    ap (λ b. cond (b && is_lost sent.packet.fate) (lost_by (packet_and_lost_below number) rest + 1) (lost_by (packet_and_lost_below number) rest)) (not_taken (packet_and_lost_below number) sent (omega (arith, rises.0)))
    ∙ lost_by-later number (sent.number + 1) rest rises.1 (omega (arith, rises.0))

-- what the definition acknowledges is what lands of the packets that the link keeps, after the lost ones
abbrev pub MatchNext : List Numbered → ℕ → ℕ → Next → Type 0
MatchNext flight from lost all_lost = (landing (packets_of flight) lost ≡ AllLost (lost + length flight)) × (staying (packets_of flight) ≡ [])
MatchNext flight from lost (arrives number sent_at chance marked) =
    (landing (packets_of flight) lost ≡ Arrived sent_at chance marked (lost + lost_by (packet_and_lost_below number) flight))
    × (packets_of (left_by (packet_and_lost_below number) flight) ≡ staying (packets_of flight))
    × (from ≤ number)

match_lost : (sent_number sent_at from lost : ℕ) (rest : List Numbered) (next : Next) → from ≤ sent_number → MatchNext rest (sent_number + 1) (lost + 1) next
    → MatchNext (record { number = sent_number; packet = record { sent_at = sent_at; fate = Lost } } ∷ rest) from lost next
match_lost sent_number sent_at from lost rest all_lost order same =
    (same.0 ∙ ap AllLost (let e : lost + 1 + length rest ≡ lost + suc (length rest) = omega arith in e), same.1)
match_lost sent_number sent_at from lost rest (arrives number sent_at' chance marked) order same =
    let sent : Numbered = record { number = sent_number; packet = record { sent_at = sent_at; fate = Lost } } in
    let taken : takes (packet_and_lost_below number) sent ≡ true = or_right (eqb sent_number number) (ltb sent_number number) (lt-ltb sent_number number (omega (arith, same.2))) in
    let lost_is : lost_by (packet_and_lost_below number) (sent ∷ rest) ≡ lost_by (packet_and_lost_below number) rest + 1 =
    ap (λ b. cond (b && true) (lost_by (packet_and_lost_below number) rest + 1) (lost_by (packet_and_lost_below number) rest)) taken in
    let left_is : left_by (packet_and_lost_below number) (sent ∷ rest) ≡ left_by (packet_and_lost_below number) rest =
    ap (λ b. cond b (left_by (packet_and_lost_below number) rest) (sent ∷ left_by (packet_and_lost_below number) rest)) taken in (
      same.0 ∙ ap (Arrived sent_at' chance marked) (let e : lost + 1 + lost_by (packet_and_lost_below number) rest ≡ lost + lost_by (packet_and_lost_below number) (sent ∷ rest) = omega (arith, lost_is) in e),
      ap packets_of left_is ∙ same.1,
      omega (arith, same.2),
    )

match_served : (number sent_at chance from lost : ℕ) (marked : Bool) (rest : List Numbered) → from ≤ number → RisesFrom (number + 1) rest
    → MatchNext (record { number = number; packet = record { sent_at = sent_at; fate = Served chance marked } } ∷ rest) from lost (arrives number sent_at chance marked)
match_served number sent_at chance from lost marked rest order rises =
    let sent : Numbered = record { number = number; packet = record { sent_at = sent_at; fate = Served chance marked } } in
    let taken : takes (packet_and_lost_below number) sent ≡ true = or_left (eqb number number) (false && ltb number number) (eq-eqb number number refl) in
    let lost_is : lost_by (packet_and_lost_below number) (sent ∷ rest) ≡ lost_by (packet_and_lost_below number) rest =
    elim (takes (packet_and_lost_below number) sent) as (λ b. cond (b && false) (lost_by (packet_and_lost_below number) rest + 1) (lost_by (packet_and_lost_below number) rest) ≡ lost_by (packet_and_lost_below number) rest)
    [ true ↦ refl | false ↦ refl ] in
    let left_is : left_by (packet_and_lost_below number) (sent ∷ rest) ≡ left_by (packet_and_lost_below number) rest =
    ap (λ b. cond b (left_by (packet_and_lost_below number) rest) (sent ∷ left_by (packet_and_lost_below number) rest)) taken in (
      ap (Arrived sent_at chance marked) (let e : lost ≡ lost + lost_by (packet_and_lost_below number) (sent ∷ rest) = omega (arith, lost_is, lost_by-later number (number + 1) rest rises (omega arith)) in e),
      ap packets_of (left_is ∙ left_by-later number (number + 1) rest rises (omega arith)),
      order,
    )

match_by : (number sent_at from lost : ℕ) (fate : Fate) (rest : List Numbered) → from ≤ number → RisesFrom (number + 1) rest → MatchNext rest (number + 1) (lost + 1) (next_arrival rest)
    → MatchNext (record { number = number; packet = record { sent_at = sent_at; fate = fate } } ∷ rest) from lost (next_arrival (record { number = number; packet = record { sent_at = sent_at; fate = fate } } ∷ rest))
match_by number sent_at from lost Lost rest order rises same = match_lost number sent_at from lost rest (next_arrival rest) order same
match_by number sent_at from lost (Served chance marked) rest order rises same = match_served number sent_at chance from lost marked rest order rises

pub match_next : (flight : List Numbered) (from lost : ℕ) → RisesFrom from flight → MatchNext flight from lost (next_arrival flight)
match_next [] from lost rises = (ap AllLost (let e : lost ≡ lost + 0 = omega arith in e), refl)
match_next (sent ∷ rest) from lost rises =
    match_by sent.number sent.packet.sent_at from lost sent.packet.fate rest rises.0 rises.1 (match_next rest (sent.number + 1) (lost + 1) rises.1)

-- the acknowledged packet was sent
abbrev pub IsNextBelow : ℕ → Next → Type 0
IsNextBelow bound all_lost = Unit {0}
IsNextBelow bound (arrives number sent_at chance marked) = number < bound

next_below_by : (bound number sent_at : ℕ) (fate : Fate) (later : Next) → number < bound → IsNextBelow bound later → IsNextBelow bound (next_by number sent_at fate later)
next_below_by bound number sent_at Lost later is below = below
next_below_by bound number sent_at (Served chance marked) later is below = is

pub next_below : (bound : ℕ) (flight : List Numbered) → AllBelow bound flight → IsNextBelow bound (next_arrival flight)
next_below bound [] below = tt
next_below bound (sent ∷ rest) below = next_below_by bound sent.number sent.packet.sent_at sent.packet.fate (next_arrival rest) below.0 (next_below bound rest below.1)
