-- What is kept of a flow goes on as the definition does.
use Rattle.std.proofs.Common.{◌≡◌, ℕ, zero, suc, ◌+◌, ◌<◌, Bool, true, false, cond, ltb, eqb, ◌&&◌, List, [], ◌∷◌, ◌++◌, length, drop, slice_get, max, refl, ap, sym, ◌∙◌, subst, arith, add_comm, append_assoc, append-nil}
use Rattle.std.proofs.lemmas.Bool.{ne_eqb, lt-ltb}
use Rattle.ccp_base.specs.declared.ack.Ack.{Ack}
use Rattle.link_model.specs.declared.arrival.Arrival.{Arrival}
use Rattle.link_model.specs.Traces.{IsTrace}
use Rattle.link_model.specs.Chances.{chance_time}
use Rattle.link_model.specs.Link.{Packet, Fate, Lost, Served, GivenAck, Numbered, packet_and_lost_below, all_below, is_lost, left_by, lost_by, in_flight, time_of, past_in, past_of, acked_of, arrival_ack_of, timeout_ack_of, Next, arrives, all_lost, next_arrival}
use Rattle.link_model.specs.Link as model
use Rattle.link_model.specs.Counts.{lost_of}
use Rattle.link_model.specs.Standing.{packets_of}
use Rattle.link_model.specs.LinkMoves.{flight_count}
use Rattle.link_model.proofs.Whole.{Landing, Arrived, AllLost, landing, landing_by, staying}
use Rattle.link_model.proofs.HorizonLemmas.{count-lost, count-push}
use Rattle.link_model.proofs.FlightLemmas.{MatchNext, IsNextBelow, next_below, left_by-all_below, length-packets_of}
use Rattle.shared_link.specs.declared.shared_case.FlowLink.{FlowLink}
use Rattle.shared_link.specs.SharedRounds.{since_start, arrival_given, are_lost, timeout_at, timeout_given, timeouts, answers, answers_after, with_givens, acks_of_givens}
use Rattle.shared_link.specs.SharedStanding.{Flight, FlowStanding, no_flight, with_fate, with_packets, flow_standing}
use Rattle.shared_link.specs.Reached.{FlowSettled}
use Rattle.shared_link.specs.Kept.{AnsweredFlow, with_one, with_arrival, with_timeout, timeout_now, timed_out, answered_by, answered_all}
use Rattle.shared_link.proofs.FlowLemmas.{earlier, next_before_of, flight_sent, matches, flow_settled-arrived}

-- ---- a flight

-- a flight with one more packet before all others
abbrev with_first : Arrival → Flight → Flight
with_first first flight = record { arrivals = first ∷ flight.arrivals; lost = flight.lost; since = flight.since }

module _ (times : List ℕ) (delay : ℕ) where
  with_packets-push : (packets : List Packet) (last : Packet) (flight : Flight)
      → with_packets times delay (packets ++ last ∷ []) flight ≡ with_fate times delay last.sent_at last.fate (with_packets times delay packets flight)
  with_packets-push [] last flight = refl
  with_packets-push (packet ∷ rest) last flight = with_packets-push rest last (with_fate times delay packet.sent_at packet.fate flight)

  abbrev counted : Flight → ℕ
  counted flight = flight_count flight.arrivals flight.lost

  count_fate : (sent_at : ℕ) (fate : Fate) (flight : Flight) → counted (with_fate times delay sent_at fate flight) ≡ counted flight + 1
  count_fate sent_at Lost flight = count-lost flight.arrivals flight.lost 1
  count_fate sent_at (Served chance marked) flight =
      count-push flight.arrivals (record { lost = flight.lost; sent_at = sent_at; at = chance_time times chance + delay; marked = marked }) flight.lost refl

  pub count-packets : (packets : List Packet) (flight : Flight) → counted (with_packets times delay packets flight) ≡ counted flight + length packets
  count-packets [] flight = omega arith
  count-packets (packet ∷ rest) flight =
      omega (arith, count-packets rest (with_fate times delay packet.sent_at packet.fate flight), count_fate packet.sent_at packet.fate flight)

  fate_first : (first : Arrival) (sent_at : ℕ) (fate : Fate) (flight : Flight) → with_fate times delay sent_at fate (with_first first flight) ≡ with_first first (with_fate times delay sent_at fate flight)
  fate_first first sent_at Lost flight = refl
  fate_first first sent_at (Served chance marked) flight = refl

  with_packets-first : (first : Arrival) (packets : List Packet) (flight : Flight) → with_packets times delay packets (with_first first flight) ≡ with_first first (with_packets times delay packets flight)
  with_packets-first first [] flight = refl
  with_packets-first first (packet ∷ rest) flight =
      ap (with_packets times delay rest) (fate_first first packet.sent_at packet.fate flight)
      ∙ with_packets-first first rest (with_fate times delay packet.sent_at packet.fate flight)

  abbrev lost_so_far : ℕ → ℕ → Flight
  lost_so_far lost since = record { arrivals = []; lost = lost; since = since }

  -- what lands of all packets is the first one that is kept
  abbrev LandsAs : ℕ → ℕ → List Packet → Landing → Type 0
  LandsAs n since packets (Arrived sent_at chance marked lost) =
      with_packets times delay packets (lost_so_far n since)
      ≡ with_first (record { lost = lost; sent_at = sent_at; at = chance_time times chance + delay; marked = marked }) (with_packets times delay (staying packets) no_flight)
  LandsAs n since packets (AllLost lost) =
      ((with_packets times delay packets (lost_so_far n since)).arrivals ≡ [])
      × ((with_packets times delay packets (lost_so_far n since)).lost ≡ lost)
      × (0 < n → (with_packets times delay packets (lost_so_far n since)).since ≡ since)

  later_since : (n sent_at since : ℕ) → 0 < n → cond (eqb n 0) sent_at since ≡ since
  later_since n sent_at since some = ap (λ b. cond b sent_at since) (ne_eqb n 0 (λ none. omega (arith, some, none)))

  lands_after : (n since sent_at : ℕ) (rest : List Packet) (later : Landing) → LandsAs (n + 1) (cond (eqb n 0) sent_at since) rest later
      → LandsAs n since (record { sent_at = sent_at; fate = Lost } ∷ rest) later
  lands_after n since sent_at rest (Arrived own chance marked lost) lands = lands
  lands_after n since sent_at rest (AllLost lost) lands = (lands.0, lands.1, λ some. lands.2 (omega arith) ∙ later_since n sent_at since some)

  lands_by : (n since sent_at : ℕ) (fate : Fate) (rest : List Packet) (later : Landing) → LandsAs (n + 1) (cond (eqb n 0) sent_at since) rest later
      → LandsAs n since (record { sent_at = sent_at; fate = fate } ∷ rest) (landing_by fate sent_at n later)
  lands_by n since sent_at Lost rest later lands = lands_after n since sent_at rest later lands
  lands_by n since sent_at (Served chance marked) rest later lands =
      with_packets-first (record { lost = n; sent_at = sent_at; at = chance_time times chance + delay; marked = marked }) rest no_flight

  lands_as : (n since : ℕ) (packets : List Packet) → LandsAs n since packets (landing packets n)
  lands_as n since [] = (refl, refl, λ some. refl)
  lands_as n since (packet ∷ rest) =
      lands_by n since packet.sent_at packet.fate rest (landing rest (n + 1)) (lands_as (n + 1) (cond (eqb n 0) packet.sent_at since) rest)

  pub lands : (packets : List Packet) (l : Landing) → landing packets 0 ≡ l → LandsAs 0 0 packets l
  lands packets l same = subst (λ (x : Landing). LandsAs 0 0 packets x) same (lands_as 0 0 packets)

  -- if all are lost, the first of these was sent first
  since_by : (sent_at lost : ℕ) (fate : Fate) (rest : List Packet) → landing (record { sent_at = sent_at; fate = fate } ∷ rest) 0 ≡ AllLost lost
      → (with_packets times delay (record { sent_at = sent_at; fate = fate } ∷ rest) no_flight).since ≡ sent_at
  since_by sent_at lost Lost rest same = (subst (λ (x : Landing). LandsAs 1 sent_at rest x) same (lands_as 1 sent_at rest)).2 (omega arith)
  since_by sent_at lost (Served chance marked) rest same = absurd (let h : Arrived sent_at chance marked 0 ≡ AllLost lost = same in cc)

  pub since_first : (first : Packet) (rest : List Packet) (lost : ℕ) → landing (first ∷ rest) 0 ≡ AllLost lost → (with_packets times delay (first ∷ rest) no_flight).since ≡ first.sent_at
  since_first first rest lost same = since_by first.sent_at lost first.fate rest same

-- ---- one more packet

pub kept-sent : (times : List ℕ) (trace : IsTrace times) (link : FlowLink) (past : ℕ) (packets : List Packet) (givens : List GivenAck) → FlowSettled times link.delay_us past packets givens
    → (packet : Packet) → flow_standing times link (packet ∷ packets) givens ≡ with_one times link.delay_us packet.sent_at packet.fate (flow_standing times link packets givens)
kept-sent times trace link past packets givens settled packet =
    let with_parts : Flight → ℕ → FlowStanding = λ flight sent. record {
      time = time_of givens;
      past = past_of givens;
      flight = flight;
      sent = sent;
      acked = acked_of givens;
      gone = lost_of givens;
    } in
    let more : suc (length packets) ≡ length packets + 1 = omega arith in
    ap (λ ps. with_parts (with_packets times link.delay_us ps no_flight) (suc (length packets))) (flight_sent times trace link.delay_us past packets givens settled packet)
    ∙ ap (λ flight. with_parts flight (suc (length packets))) (with_packets-push times link.delay_us (packets_of (in_flight packets givens)) packet no_flight)
    ∙ ap (with_parts (with_fate times link.delay_us packet.sent_at packet.fate (with_packets times link.delay_us (packets_of (in_flight packets givens)) no_flight))) more

-- the packets in flight are counted
pub kept-count : (times : List ℕ) (link : FlowLink) (packets : List Packet) (givens : List GivenAck)
    → flight_count (flow_standing times link packets givens).flight.arrivals (flow_standing times link packets givens).flight.lost ≡ length (in_flight packets givens)
kept-count times link packets givens =
    let flight = in_flight packets givens in
    let counted : flight_count (flow_standing times link packets givens).flight.arrivals (flow_standing times link packets givens).flight.lost ≡ 0 + length (packets_of flight) =
    count-packets times link.delay_us (packets_of flight) no_flight in
    omega (arith, counted, length-packets_of flight)

-- ---- whether all packets in flight are lost

abbrev is_none : Next → Bool
is_none (arrives number sent_at chance marked) = false
is_none all_lost = true

are_lost_by : (number sent_at : ℕ) (fate : Fate) (b : Bool) (next : Next) → b ≡ is_none next → is_lost fate && b ≡ is_none (model.next_by number sent_at fate next)
are_lost_by number sent_at Lost b next same = same
are_lost_by number sent_at (Served chance marked) b next same = refl

are_lost_as : (flight : List Numbered) → are_lost flight ≡ is_none (next_arrival flight)
are_lost_as [] = refl
are_lost_as (sent ∷ rest) = are_lost_by sent.number sent.packet.sent_at sent.packet.fate (are_lost rest) (next_arrival rest) (are_lost_as rest)

-- ---- acknowledgements

module _ (times : List ℕ) (trace : IsTrace times) (link : FlowLink) (end past : ℕ) (packets : List Packet) where
  abbrev pub state : List Ack → List GivenAck → AnsweredFlow
  state acks givens = record { acks = acks; standing = flow_standing times link packets givens }

  -- the acknowledgements that these givens add
  abbrev Adds : List Ack → List GivenAck → AnsweredFlow → List GivenAck → Type 0
  Adds acks givens after more = after ≡ record { acks = acks ++ acks_of_givens more; standing = flow_standing times link packets (with_givens more givens) }

  -- a flow right after this acknowledgement
  abbrev parts : List Ack → ℕ → Ack → Flight → ℕ → ℕ → AnsweredFlow
  parts acks time ack flight acked gone = record {
    acks = acks ++ ack ∷ [];
    standing = record { time = time; past = past_in ack; flight = flight; sent = length packets; acked = acked; gone = gone };
  }

  module _ (acks : List Ack) (givens : List GivenAck) (settled : FlowSettled times link.delay_us past packets givens) where
    abbrev flight_kept : Flight
    flight_kept = with_packets times link.delay_us (packets_of (in_flight packets givens)) no_flight

    -- the packet that arrives
    arrived : (number sent_at chance : ℕ) (marked : Bool) → MatchNext (in_flight packets givens) 0 0 (arrives number sent_at chance marked)
        → (n : ℕ) → n ≡ lost_by (packet_and_lost_below number) (in_flight packets givens)
        → flight_kept ≡ with_first (record { lost = n; sent_at = sent_at; at = chance_time times chance + link.delay_us; marked = marked }) (with_packets times link.delay_us (staying (packets_of (in_flight packets givens))) no_flight)
        → with_arrival link (record { lost = n; sent_at = sent_at; at = chance_time times chance + link.delay_us; marked = marked }) (state acks givens)
        ≡ state (acks ++ (arrival_given times link packets givens (in_flight packets givens) number sent_at chance marked).ack ∷ []) (arrival_given times link packets givens (in_flight packets givens) number sent_at chance marked ∷ givens)
    arrived number sent_at chance marked same n n_is kept =
        let flight = in_flight packets givens in
        let at = chance_time times chance + link.delay_us in
        let stays = packets_of (left_by (packet_and_lost_below number) flight) in
        let rest = with_packets times link.delay_us (staying (packets_of flight)) no_flight in
        let ack : ℕ → ℕ → Ack = λ lost stay. since_start link.mss link.start_us (acked_of givens + 1) (length packets) (arrival_ack_of link.mss sent_at at marked (past_of givens) lost stay (acked_of givens + 1) (length packets)) in
        let with_stay : ℕ → Flight → ℕ → ℕ → AnsweredFlow = λ stay left acked gone. parts acks at (ack n stay) left acked gone in
        let count : flight_count rest.arrivals rest.lost ≡ length (left_by (packet_and_lost_below number) flight) =
        ap (λ ps. flight_count (with_packets times link.delay_us ps no_flight).arrivals (with_packets times link.delay_us ps no_flight).lost) (sym same.1)
        ∙ (let c : flight_count (with_packets times link.delay_us stays no_flight).arrivals (with_packets times link.delay_us stays no_flight).lost ≡ 0 + length stays = count-packets times link.delay_us stays no_flight in
        let e : 0 + length stays ≡ length (left_by (packet_and_lost_below number) flight) = omega (arith, length-packets_of (left_by (packet_and_lost_below number) flight)) in c ∙ e) in
        ap (λ f. with_stay (flight_count (drop 1 f.arrivals) f.lost) (record { arrivals = drop 1 f.arrivals; lost = f.lost; since = f.since }) (acked_of givens + 1) (lost_of givens + n)) kept
        ∙ ap (λ stay. with_stay stay rest (acked_of givens + 1) (lost_of givens + n)) count
        ∙ ap (λ ps. with_stay (length (left_by (packet_and_lost_below number) flight)) (with_packets times link.delay_us ps no_flight) (acked_of givens + 1) (lost_of givens + n)) (sym same.1)
        ∙ ap (λ m. parts acks at (ack m (length (left_by (packet_and_lost_below number) flight))) (with_packets times link.delay_us stays no_flight) (acked_of givens + 1) (lost_of givens + m)) n_is
        ∙ ap (λ acked. parts acks at (ack (lost_by (packet_and_lost_below number) flight) (length (left_by (packet_and_lost_below number) flight))) (with_packets times link.delay_us stays no_flight) acked (lost_of givens + lost_by (packet_and_lost_below number) flight)) (add_comm (acked_of givens) 1)
        ∙ ap (parts acks at (ack (lost_by (packet_and_lost_below number) flight) (length (left_by (packet_and_lost_below number) flight))) (with_packets times link.delay_us stays no_flight) (1 + acked_of givens)) (add_comm (lost_of givens) (lost_by (packet_and_lost_below number) flight))

    -- the timeout
    timeout : (now lost : ℕ) → flight_kept.lost ≡ lost → lost ≡ length (in_flight packets givens)
        → with_timeout link now (state acks givens)
        ≡ state (acks ++ (timeout_given link packets givens (in_flight packets givens) now).ack ∷ []) (timeout_given link packets givens (in_flight packets givens) now ∷ givens)
    timeout now lost lost_is count =
        let flight = in_flight packets givens in
        let none : left_by (all_below (length packets)) flight ≡ [] = left_by-all_below (length packets) flight settled.below in
        let ack : ℕ → ℕ → Ack = λ n stay. since_start link.mss link.start_us (acked_of givens) (length packets) (timeout_ack_of link.mss now (past_of givens) n stay (acked_of givens) (length packets)) in
        ap (λ n. parts acks now (ack n 0) no_flight (acked_of givens) (lost_of givens + n)) (lost_is ∙ count)
        ∙ ap (λ xs. parts acks now (ack (length flight) (length xs)) (with_packets times link.delay_us (packets_of xs) no_flight) (acked_of givens) (lost_of givens + length flight)) (sym none)
        ∙ ap (parts acks now (ack (length flight) (length (left_by (all_below (length packets)) flight))) (with_packets times link.delay_us (packets_of (left_by (all_below (length packets)) flight)) no_flight) (acked_of givens)) (add_comm (lost_of givens) (length flight))
        ∙ ap (λ acked. parts acks now (ack (length flight) (length (left_by (all_below (length packets)) flight))) (with_packets times link.delay_us (packets_of (left_by (all_below (length packets)) flight)) no_flight) acked (length flight + lost_of givens)) (let e : acked_of givens ≡ 0 + acked_of givens = omega arith in e)

    -- what these givens mean
    abbrev come_to : List GivenAck → AnsweredFlow
    come_to more = record { acks = acks ++ acks_of_givens more; standing = flow_standing times link packets (with_givens more givens) }

    nothing_more : state acks givens ≡ come_to []
    nothing_more = ap (λ xs. record { acks = xs; standing = flow_standing times link packets givens }) (sym (append-nil acks))

    timed_if : (b : Bool) (now lost : ℕ) → flight_kept.lost ≡ lost → lost ≡ length (in_flight packets givens)
        → cond b (with_timeout link now (state acks givens)) (state acks givens) ≡ come_to (cond b (timeout_given link packets givens (in_flight packets givens) now ∷ []) [])
    timed_if true now lost lost_is count = timeout now lost lost_is count
    timed_if false now lost lost_is count = nothing_more

    kept-timeouts : (flight : List Numbered) → flight ≡ in_flight packets givens → landing (packets_of flight) 0 ≡ AllLost (0 + length flight) → are_lost flight ≡ true
        → timed_out link end (state acks givens) ≡ come_to (timeouts link end packets givens flight)
    kept-timeouts [] same lands_is are =
        let none : flight_kept.lost ≡ 0 = ap (λ xs. (with_packets times link.delay_us (packets_of xs) no_flight).lost) (sym same) in
        ap (λ n. cond (ltb 0 n && ltb (timeout_now link (flow_standing times link packets givens)) end) (with_timeout link (timeout_now link (flow_standing times link packets givens)) (state acks givens)) (state acks givens)) none
        ∙ nothing_more
    kept-timeouts (first ∷ rest) same lands_is are =
        let flight = in_flight packets givens in
        let now = timeout_at link givens first.packet in
        let landed = lands times link.delay_us (packets_of (first ∷ rest)) (AllLost (0 + length (first ∷ rest))) lands_is in
        let kept_lost : flight_kept.lost ≡ length flight =
        ap (λ xs. (with_packets times link.delay_us (packets_of xs) no_flight).lost) (sym same)
        ∙ landed.1
        ∙ (let e : 0 + length (first ∷ rest) ≡ length (first ∷ rest) = omega arith in e)
        ∙ ap length same in
        let since : flight_kept.since ≡ first.packet.sent_at =
        ap (λ xs. (with_packets times link.delay_us (packets_of xs) no_flight).since) (sym same)
        ∙ since_first times link.delay_us first.packet (packets_of rest) (0 + length (first ∷ rest)) lands_is in
        let now_is : timeout_now link (flow_standing times link packets givens) ≡ now = ap (λ n. max (time_of givens) n + link.timeout_us) since in
        let some : ltb 0 flight_kept.lost ≡ true = lt-ltb 0 flight_kept.lost (omega (arith, kept_lost, ap length same)) in
        ap (λ t. cond (ltb 0 flight_kept.lost && ltb t end) (with_timeout link t (state acks givens)) (state acks givens)) now_is
        ∙ ap (λ b. cond (b && ltb now end) (with_timeout link now (state acks givens)) (state acks givens)) some
        ∙ timed_if (ltb now end) now (length flight) kept_lost refl
        ∙ ap (λ xs. come_to (cond (ltb now end) (timeout_given link packets givens xs now ∷ []) [])) (sym same)
        ∙ ap (λ b. come_to (cond (b && ltb now end) (timeout_given link packets givens (first ∷ rest) now ∷ []) [])) (sym are)

    no_timeout : (flight : List Numbered) → are_lost flight ≡ false → timeouts link end packets givens flight ≡ []
    no_timeout [] are = absurd (let h : true ≡ false = are in cc)
    no_timeout (first ∷ rest) are =
        ap (λ b. cond (b && ltb (timeout_at link givens first.packet) end) (timeout_given link packets givens (first ∷ rest) (timeout_at link givens first.packet) ∷ []) []) are

  -- the acknowledgements that come after one
  abbrev GoesOn : ℕ → List GivenAck → Type 0
  GoesOn left givens =
      (acks : List Ack) (given : GivenAck) → FlowSettled times link.delay_us past packets (given ∷ givens)
      → Adds acks (given ∷ givens) (answered_all link end left (state acks (given ∷ givens))) (answers times link end packets left (given ∷ givens))

  kept-arrives : (b : Bool) (left : ℕ) (acks : List Ack) (givens : List GivenAck) (settled : FlowSettled times link.delay_us past packets givens) → GoesOn left givens
      → (number sent_at chance : ℕ) (marked : Bool) → next_arrival (in_flight packets givens) ≡ arrives number sent_at chance marked
      → MatchNext (in_flight packets givens) 0 0 (arrives number sent_at chance marked) → number < length packets
      → cond b (answered_all link end left (with_arrival link (record { lost = 0 + lost_by (packet_and_lost_below number) (in_flight packets givens); sent_at = sent_at; at = chance_time times chance + link.delay_us; marked = marked }) (state acks givens))) (state acks givens)
      ≡ record {
        acks = acks ++ acks_of_givens (answers_after times link end packets givens (in_flight packets givens) (cond b (arrives number sent_at chance marked) all_lost) (λ given. given ∷ answers times link end packets left (given ∷ givens)));
        standing = flow_standing times link packets (with_givens (answers_after times link end packets givens (in_flight packets givens) (cond b (arrives number sent_at chance marked) all_lost) (λ given. given ∷ answers times link end packets left (given ∷ givens))) givens);
      }
  kept-arrives true left acks givens settled go_on number sent_at chance marked is same below =
      let flight = in_flight packets givens in
      let given = arrival_given times link packets givens flight number sent_at chance marked in
      let more = answers times link end packets left (given ∷ givens) in
      ap (answered_all link end left)
      (arrived acks givens settled number sent_at chance marked same (0 + lost_by (packet_and_lost_below number) flight) (let e : 0 + lost_by (packet_and_lost_below number) flight ≡ lost_by (packet_and_lost_below number) flight = omega arith in e)
      (lands times link.delay_us (packets_of flight) (Arrived sent_at chance marked (0 + lost_by (packet_and_lost_below number) flight)) same.0))
      ∙ go_on (acks ++ given.ack ∷ []) given (flow_settled-arrived times trace link past packets givens settled number sent_at chance marked same below)
      ∙ ap (λ xs. record { acks = xs; standing = flow_standing times link packets (with_givens more (given ∷ givens)) }) (append_assoc acks (given.ack ∷ []) (acks_of_givens more))
  kept-arrives false left acks givens settled go_on number sent_at chance marked is same below =
      let flight = in_flight packets givens in
      nothing_more acks givens settled
      ∙ ap (come_to acks givens settled) (sym (no_timeout acks givens settled flight (are_lost_as flight ∙ ap is_none is)))

  kept-next : (left : ℕ) (acks : List Ack) (givens : List GivenAck) (settled : FlowSettled times link.delay_us past packets givens) → GoesOn left givens
      → (next : Next) → next_arrival (in_flight packets givens) ≡ next → MatchNext (in_flight packets givens) 0 0 next → IsNextBelow (length packets) next
      → answered_by link end (state acks givens) (slice_get (flight_kept acks givens settled).arrivals 0) (answered_all link end left)
      ≡ come_to acks givens settled (answers_after times link end packets givens (in_flight packets givens) (earlier times link.delay_us end next) (λ given. given ∷ answers times link end packets left (given ∷ givens)))
  kept-next left acks givens settled go_on (arrives number sent_at chance marked) is same below =
      let flight = in_flight packets givens in
      let kept = lands times link.delay_us (packets_of flight) (Arrived sent_at chance marked (0 + lost_by (packet_and_lost_below number) flight)) same.0 in
      ap (λ f. answered_by link end (state acks givens) (slice_get f.arrivals 0) (answered_all link end left)) kept
      ∙ kept-arrives (ltb (chance_time times chance + link.delay_us) end) left acks givens settled go_on number sent_at chance marked is same below
  kept-next left acks givens settled go_on all_lost is same below =
      let flight = in_flight packets givens in
      let kept = lands times link.delay_us (packets_of flight) (AllLost (0 + length flight)) same.0 in
      ap (λ xs. answered_by link end (state acks givens) (slice_get xs 0) (answered_all link end left)) kept.0
      ∙ kept-timeouts acks givens settled flight refl same.0 (are_lost_as flight ∙ ap is_none is)

  -- what is kept of the flow answers as the definition does
  pub kept-answers : (left : ℕ) (acks : List Ack) (givens : List GivenAck) → FlowSettled times link.delay_us past packets givens
      → answered_all link end left (state acks givens)
      ≡ record { acks = acks ++ acks_of_givens (answers times link end packets left givens); standing = flow_standing times link packets (with_givens (answers times link end packets left givens) givens) }
  kept-answers zero acks givens settled = nothing_more acks givens settled
  kept-answers (suc left) acks givens settled =
      let flight = in_flight packets givens in
      let go : GivenAck → List GivenAck = λ given. given ∷ answers times link end packets left (given ∷ givens) in
      kept-next left acks givens settled (λ more given after. kept-answers left more (given ∷ givens) after) (next_arrival flight) refl
      (matches times trace link past packets givens settled) (next_below (length packets) flight settled.below)
      ∙ ap (λ n. come_to acks givens settled (answers_after times link end packets givens flight n go)) (sym (next_before_of times trace link.delay_us end (time_of givens) flight settled.arriving))
