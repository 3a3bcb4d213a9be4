-- What a round of the link answers: no more acknowledgements than were asked for, and each of them with small numbers.
use Rattle.std.specs.Prelude.{◌≡◌, ◌<◌, ◌≤◌, ℕ, zero, suc, ◌+◌, ◌*◌, ◌==◌, Bool, true, false, ◌&&◌, nat_lt, if◌then◌else◌, Some, unwrap_or, List, [], ◌∷◌, ◌++◌, length, slice_get, refl}
use Rattle.std.specs.List.{All}
use Rattle.std.proofs.Common.{arith, ap, sym, ◌∙◌}
use Rattle.std.proofs.lemmas.Option.{same_Some, none-some}
use Rattle.ccp_base.specs.declared.ack.Ack.{Ack}
use Rattle.campaign_core.proofs.BoundLemmas.{lost-most, flight-most}
use Rattle.link_model.specs.Link.{Packet, GivenAck, packet_and_lost_below, Numbered, Next, arrives, all_lost, in_flight}
use Rattle.shared_link.specs.declared.round.Ask.{Ask}
use Rattle.shared_link.specs.declared.shared_case.FlowLink.{FlowLink}
use Rattle.shared_link.specs.declared.shared_case.SharedCase.{SharedCase}
use Rattle.shared_link.specs.SharedLimits.{IsFlowWithin, IsWithin}
use Rattle.shared_link.specs.SharedRounds.{Sent, SharedLinkRun, flow_link_at, no_flow, ask_at, own_packets, allowed, packet_after, lacks, some_lacks, sending_turn, turns_of, round_time, sent_by, next_before, arrival_given, are_lost, timeout_given, timeout_at, timeouts, answers_after, answers, round_givens, with_round, shared_run_from, shared_run_of, acks_of_givens, each_flow, acks_after}
use Rattle.shared_rounds.proofs.RoundsLemmas.{each-length}

-- ---- how many

length-one : (b : Bool) (given : GivenAck) → length (if b then given ∷ [] else []) ≤ 1
length-one true given = omega arith
length-one false given = omega arith

acks-length : (list : List GivenAck) → length (acks_of_givens list) ≡ length list
acks-length [] = refl
acks-length (given ∷ rest) = ap suc (acks-length rest)

-- ---- how small

-- how many packets at most, and how many bytes a segment at most
abbrev pub IsSmall : ℕ → Ack → Type 0
IsSmall most ack = (ack.lost_pkts_sample ≤ most) × (ack.bytes_acked ≤ 65535)

abbrev pub AreSmall : ℕ → List Ack → Type 0
AreSmall most [] = Unit {0}
AreSmall most (ack ∷ rest) = IsSmall most ack × AreSmall most rest

module _ (times : List ℕ) (link : FlowLink) (end : ℕ) (packets : List Packet) where
  timeouts-few : (givens : List GivenAck) (flight : List Numbered) → length (timeouts link end packets givens flight) ≤ 1
  timeouts-few givens [] = omega arith
  timeouts-few givens (first ∷ rest) =
      length-one (are_lost (first ∷ rest) && nat_lt (timeout_at link givens first.packet) end)
      (timeout_given link packets givens (first ∷ rest) (timeout_at link givens first.packet))

  after-few : (left : ℕ) (givens : List GivenAck) (flight : List Numbered) (next : Next) (rest : GivenAck → List GivenAck)
      → ((given : GivenAck) → length (rest given) ≤ suc left)
      → length (answers_after times link end packets givens flight next rest) ≤ suc left
  after-few left givens flight (arrives number sent_at chance marked) rest few =
      few (arrival_given times link packets givens flight number sent_at chance marked)
  after-few left givens flight all_lost rest few = omega (arith, timeouts-few givens flight)

  -- no more than are left
  pub answers-few : (left : ℕ) (givens : List GivenAck) → length (answers times link end packets left givens) ≤ left
  answers-few zero givens = omega arith
  answers-few (suc left) givens =
      after-few left givens (in_flight packets givens) (next_before times link.delay_us end (in_flight packets givens))
      (λ given. given ∷ answers times link end packets left (given ∷ givens))
      (λ given. let fewer = answers-few left (given ∷ givens) in omega (arith, fewer))

  module _ (most : ℕ) (size : link.mss ≤ 65535) (few : length packets ≤ most) where
    one-small : (b : Bool) (given : GivenAck) → IsSmall most given.ack → AreSmall most (acks_of_givens (if b then given ∷ [] else []))
    one-small true given small = (small, tt)
    one-small false given small = tt

    timeouts-small : (givens : List GivenAck) (flight : List Numbered) → length flight ≤ most → AreSmall most (acks_of_givens (timeouts link end packets givens flight))
    timeouts-small givens [] within = tt
    timeouts-small givens (first ∷ rest) within =
        one-small (are_lost (first ∷ rest) && nat_lt (timeout_at link givens first.packet) end)
        (timeout_given link packets givens (first ∷ rest) (timeout_at link givens first.packet))
        (within, omega arith)

    after-small : (givens : List GivenAck) (flight : List Numbered) (next : Next) (rest : GivenAck → List GivenAck) → length flight ≤ most
        → ((given : GivenAck) → IsSmall most given.ack → AreSmall most (acks_of_givens (rest given)))
        → AreSmall most (acks_of_givens (answers_after times link end packets givens flight next rest))
    after-small givens flight (arrives number sent_at chance marked) rest within small =
        small (arrival_given times link packets givens flight number sent_at chance marked)
        (let lost = lost-most (packet_and_lost_below number) flight in omega (arith, lost, within), size)
    after-small givens flight all_lost rest within small = timeouts-small givens flight within

    pub answers-small : (left : ℕ) (givens : List GivenAck) → AreSmall most (acks_of_givens (answers times link end packets left givens))
    answers-small zero givens = tt
    answers-small (suc left) givens =
        let flight = flight-most packets givens in
        after-small givens (in_flight packets givens) (next_before times link.delay_us end (in_flight packets givens))
        (λ given. given ∷ answers times link end packets left (given ∷ givens))
        (omega (arith, flight, few))
        (λ given small. (small, answers-small left (given ∷ givens)))

-- ---- how many packets

own-few : (flow : ℕ) (sent : List Sent) → length (own_packets flow sent) ≤ length sent
own-few flow [] = omega arith
own-few flow (one ∷ earlier) = own-where (one.flow == flow) (own-few flow earlier) where
  own-where : (b : Bool) → length (own_packets flow earlier) ≤ length earlier
      → length (if b then one.packet ∷ own_packets flow earlier else own_packets flow earlier) ≤ length (one ∷ earlier)
  own-where true few = omega (arith, few)
  own-where false few = omega (arith, few)

sent-where : (b : Bool) (one : Sent) (sent : List Sent) → length (if b then one ∷ sent else sent) ≤ length sent + 1
sent-where true one sent = omega arith
sent-where false one sent = omega arith

module _ (case : SharedCase) (now : ℕ) (may : ℕ → ℕ) (givens : ℕ → List GivenAck) where
  turn-few : (n : ℕ) (sent : List Sent) → length (sending_turn case now may givens n sent) ≤ length sent + n
  turn-few zero sent = omega arith
  turn-few (suc flow) sent =
      let before = sending_turn case now may givens flow sent in
      let one : Sent = record { flow = flow; packet = packet_after case now flow before } in
      omega (arith, turn-few flow sent, sent-where (lacks may givens flow before) one before)

  turns-where : (b : Bool) (all : List Sent) (sent : List Sent) (n : ℕ) → length all ≤ length sent + n → length (if b then all else sent) ≤ length sent + n
  turns-where true all sent n few = few
  turns-where false all sent n few = omega arith

  turns-few : length case.flows ≤ 64 → (turns : ℕ) (sent : List Sent)
      → length (turns_of case now may givens turns sent) ≤ length sent + turns * 64
  turns-few flows zero sent = omega arith
  turns-few flows (suc turns) sent =
      let turn = turn-few (length case.flows) sent in
      let rest = turns-few flows turns (sending_turn case now may givens (length case.flows) sent) in
      turns-where (some_lacks may givens (length case.flows) sent)
      (turns_of case now may givens turns (sending_turn case now may givens (length case.flows) sent)) sent (suc turns * 64)
      (omega (arith, turn, rest, flows))

module _ (case : SharedCase) (within : IsWithin case) where
  sent-few : (asks : List Ask) (run : SharedLinkRun) → length (sent_by case asks run) ≤ length run.sent + 262144
  sent-few asks run =
      let turns = turns-few case (round_time case run.rounds) (allowed case (round_time case run.rounds) asks) run.givens within.few 4096 run.sent in
      omega (arith, turns)

  run-few : (rounds : List (List Ask)) (run : SharedLinkRun) → length (shared_run_from case run rounds).sent ≤ length run.sent + length rounds * 262144
  run-few [] run = omega arith
  run-few (asks ∷ later) run =
      let here = sent-few asks run in
      let rest = run-few later (with_round case asks run) in
      omega (arith, here, rest)

  -- ---- one more round

  size-at : (flows : List FlowLink) → All IsFlowWithin flows → (i : ℕ) → (unwrap_or (slice_get flows i) no_flow).mss ≤ 65535
  size-at [] all i = omega arith
  size-at (flow ∷ rest) all zero = (all 0 flow (omega arith)).mss.1
  size-at (flow ∷ rest) all (suc i) = size-at rest (λ k d h. all (suc k) d (omega (arith, h))) i

  pub round-small : (rounds : List (List Ask)) (asks : List Ask) → length rounds < 10000 → (flow : ℕ)
      → AreSmall 2621440000 (acks_of_givens (round_givens case asks (shared_run_of case rounds) (sent_by case asks (shared_run_of case rounds)) flow))
  round-small rounds asks fewer flow =
      let run = shared_run_of case rounds in
      let sent = sent_by case asks run in
      let own = own-few flow sent in
      let now = sent-few asks run in
      let before = run-few rounds (record { sent = []; givens = λ f. []; rounds = 0 }) in
      answers-small case.trace (flow_link_at case flow) (round_time case (run.rounds + 1)) (own_packets flow sent) 2621440000
      (size-at case.flows within.flows flow) (omega (arith, own, now, before, fewer)) (ask_at asks flow).left (run.givens flow)

-- no flow has more than it asks for
pub round-few : (case : SharedCase) (asks : List Ask) (run : SharedLinkRun) (sent : List Sent) (flow : ℕ)
    → length (acks_of_givens (round_givens case asks run sent flow)) ≤ (ask_at asks flow).left
round-few case asks run sent flow =
    let few = answers-few case.trace (flow_link_at case flow) (round_time case (run.rounds + 1)) (own_packets flow sent) (ask_at asks flow).left (run.givens flow) in
    omega (arith, few, acks-length (round_givens case asks run sent flow))

-- ---- the lists of flows

get-last : {A P : Type 0} (front : List A) (last : A) (i : ℕ) (one : A) → slice_get (front ++ last ∷ []) i ≡ Some one
    → (slice_get front i ≡ Some one → P) → (i ≡ length front → one ≡ last → P) → P
get-last [] last zero one is before at = at refl (sym (same_Some last one is))
get-last [] last (suc i) one is before at = absurd (none-some one is)
get-last (first ∷ front) last zero one is before at = before is
get-last (first ∷ front) last (suc i) one is before at = get-last front last i one is before (λ e. at (ap suc e))

-- the list at a place is that of the flow
pub each-get : (n : ℕ) (acks : ℕ → List Ack) (i : ℕ) (list : List Ack) → slice_get (each_flow n acks) i ≡ Some list → list ≡ acks i
each-get zero acks i list is = absurd (none-some list is)
each-get (suc flow) acks i list is =
    get-last (each_flow flow acks) (acks flow) i list is (λ before. each-get flow acks i list before)
    (λ at same. same ∙ ap acks (sym (at ∙ each-length flow acks)))

-- all lists are small
abbrev pub AreAllSmall : List (List Ack) → Type 0
AreAllSmall [] = Unit {0}
AreAllSmall (acks ∷ rest) = AreSmall 2621440000 acks × AreAllSmall rest

small-last : (lists : List (List Ack)) (acks : List Ack) → AreAllSmall lists → AreSmall 2621440000 acks → AreAllSmall (lists ++ acks ∷ [])
small-last [] acks all small = (small, tt)
small-last (first ∷ rest) acks all small = (all.0, small-last rest acks all.1 small)

each-small : (n : ℕ) (acks : ℕ → List Ack) → ((flow : ℕ) → AreSmall 2621440000 (acks flow)) → AreAllSmall (each_flow n acks)
each-small zero acks small = tt
each-small (suc flow) acks small = small-last (each_flow flow acks) (acks flow) (each-small flow acks small) (small flow)

pub after-all-small : (case : SharedCase) → IsWithin case → (rounds : List (List Ask)) (asks : List Ask) → length rounds < 10000
    → AreAllSmall (acks_after case rounds asks)
after-all-small case within rounds asks fewer =
    each-small (length case.flows) _ (λ flow. round-small case within rounds asks fewer flow)
