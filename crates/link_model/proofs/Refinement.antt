-- Steps over every packet in flight are those of the definition, by induction on the list of windows.
use Rattle.std.proofs.Common.{◌≡◌, ℕ, zero, suc, ◌+◌, ◌-◌, ◌≤◌, Bool, true, false, cond, leb, ◌||◌, List, [], ◌∷◌, ◌++◌, length, max, refl, ap, sym, ◌∙◌, subst, arith, add_comm, length-append}
use Rattle.link_model.specs.declared.link_case.LinkCase.{LinkCase}
use Rattle.link_model.specs.Traces.{IsTrace}
use Rattle.link_model.specs.Chances.{chance_time, first_chance}
use Rattle.link_model.specs.Link.{Run, Packet, Fate, Lost, Served, GivenAck, Numbered, packet_and_lost_below, all_below, allowance, waiting, chances_past, is_listed, is_marked, fate_by, packet_after, with_sent, left_by, lost_by, in_flight, time_of, past_in, past_of, acked_of, arrival_of, arrival_ack, timeout_ack, Next, arrives, all_lost, next_arrival, answer_by, given_for, sent_by, called, run_from, run_of, ack_after}
use Rattle.link_model.specs.LinkLaws.{run_from-push}
use Rattle.link_model.specs.Counts.{served_chances, lost_of}
use Rattle.link_model.specs.Runs.{AreInOrder, AreSampled, AllFindRoom}
use Rattle.link_model.specs.Standing.{packets_of}
use Rattle.link_model.specs.Flights.{IsServedWithin, AllServedWithin, RisesFrom, AllBelow, AllTakeBelow, TakesBelow, RiseBelow, IsQueued}
use Rattle.link_model.proofs.Whole.{Landing, Arrived, AllLost, Whole, whole_of, packet_by, with_packet, sending, sending_whole, landing, landing_by, staying, staying_by, ack_by, with_flight, with_ack, sent_whole, next_ack, next_whole}
use Rattle.link_model.proofs.ChanceLemmas.{chance_time_rises, first_chance_max, first_chance_from, first_chance_at}
use Rattle.link_model.proofs.ServedLemmas.{all_served_within-more, all_served_within-push, all_served_within-staying}
use Rattle.link_model.proofs.FlightLemmas.{RisesFrom-push, AllBelow-push, AllBelow-more, RisesFrom-left_by, AllBelow-left_by, all_take_below-more, in_flight-sent, packets_of-push, length-packets_of, left_by-all_below, MatchNext, match_next, IsNextBelow, next_below}
use Rattle.link_model.proofs.CountLemmas.{rise_below-none, rise_below-sent, CountNext, count_next}
use Rattle.link_model.proofs.RunLemmas.{next_served, is_sampled-next, finds_room}
use Rattle.link_model.proofs.QueueLemmas.{IsQueued-later, IsQueued-sent}

-- ---- arrivals in flight

-- a packet doesn't arrive before this time
abbrev pub ArrivesFrom : LinkCase → ℕ → Fate → Type 0
ArrivesFrom case from Lost = Unit {0}
ArrivesFrom case from (Served chance marked) = from ≤ arrival_of case chance

abbrev pub after_arrival : LinkCase → ℕ → Fate → ℕ
after_arrival case from Lost = from
after_arrival case from (Served chance marked) = arrival_of case chance

-- the packets arrive one after another, from this time on
abbrev pub ArriveFrom : LinkCase → ℕ → List Packet → Type 0
ArriveFrom case from [] = Unit {0}
ArriveFrom case from (packet ∷ rest) = ArrivesFrom case from packet.fate × ArriveFrom case (after_arrival case from packet.fate) rest

module _ (case : LinkCase) (trace : IsTrace case.trace) where
  arrives_before : (from chance sent_at : ℕ) (fate : Fate) (own : ℕ) → from ≤ arrival_of case own → IsServedWithin case.trace chance sent_at fate → chance ≤ own → after_arrival case from fate ≤ arrival_of case own
  arrives_before from chance sent_at Lost own early within order = early
  arrives_before from chance sent_at (Served other marked) own early within order =
      let rises = chance_time_rises case.trace trace other own (omega (arith, within.0)) in omega arith

  ArriveFrom-served : (from chance own sent_at : ℕ) (marked : Bool) (packets : List Packet) → from ≤ arrival_of case own → AllServedWithin case.trace chance packets → chance ≤ own
      → ArriveFrom case from packets → ArriveFrom case from (packets ++ record { sent_at = sent_at; fate = Served own marked } ∷ [])
  ArriveFrom-served from chance own sent_at marked [] early within order before = (early, tt)
  ArriveFrom-served from chance own sent_at marked (packet ∷ rest) early within order before =
      (before.0, ArriveFrom-served (after_arrival case from packet.fate) chance own sent_at marked rest (arrives_before from chance packet.sent_at packet.fate own early within.0 order) within.1 order before.1)

  ArriveFrom-lost : (from sent_at : ℕ) (packets : List Packet) → ArriveFrom case from packets → ArriveFrom case from (packets ++ record { sent_at = sent_at; fate = Lost } ∷ [])
  ArriveFrom-lost from sent_at [] before = (tt, tt)
  ArriveFrom-lost from sent_at (packet ∷ rest) before = (before.0, ArriveFrom-lost (after_arrival case from packet.fate) sent_at rest before.1)

  -- what landed arrives from this time on, and what stays arrives later
  abbrev LandedFrom : ℕ → Landing → List Packet → Type 0
  LandedFrom from (Arrived sent_at chance marked lost) rest = (from ≤ arrival_of case chance) × ArriveFrom case (arrival_of case chance) rest
  LandedFrom from (AllLost lost) rest = rest ≡ []

  landed_by : (from sent_at lost : ℕ) (fate : Fate) (rest : List Packet) (later : Landing) (later_rest : List Packet) → ArrivesFrom case from fate → ArriveFrom case (after_arrival case from fate) rest
      → LandedFrom (after_arrival case from fate) later later_rest → LandedFrom from (landing_by fate sent_at lost later) (staying_by fate rest later_rest)
  landed_by from sent_at lost Lost rest later later_rest here after landed = landed
  landed_by from sent_at lost (Served chance marked) rest later later_rest here after landed = (here, after)

  landed_from : (from lost : ℕ) (packets : List Packet) → ArriveFrom case from packets → LandedFrom from (landing packets lost) (staying packets)
  landed_from from lost [] before = refl
  landed_from from lost (packet ∷ rest) before =
      landed_by from packet.sent_at lost packet.fate rest (landing rest (lost + 1)) (staying rest) before.0 before.1
      (landed_from (after_arrival case from packet.fate) (lost + 1) rest before.1)

-- ---- what holds after each list of windows

pub record Settled (case : LinkCase) (packets : List Packet) (givens : List GivenAck) : Type 0 where
  pub takings : AllTakeBelow (length packets) givens
  pub rises : RisesFrom 0 (in_flight packets givens)
  pub below : AllBelow (length packets) (in_flight packets givens)
  pub queued : IsQueued case.trace (time_of givens) packets
  pub served : AllServedWithin case.trace (chances_past packets) (packets_of (in_flight packets givens))
  pub arriving : ArriveFrom case (time_of givens) (packets_of (in_flight packets givens))
  pub once : RiseBelow (chances_past packets) (served_chances packets)
  pub counts : length packets ≡ acked_of givens + lost_of givens + length (in_flight packets givens)
  pub in_order : AreInOrder givens
  pub sampled : AreSampled case.delay_us givens
  pub room : AllFindRoom case packets

pub settled_at_first : (case : LinkCase) → Settled case [] []
settled_at_first case = record {
  takings = tt;
  rises = tt;
  below = tt;
  queued = λ at after. omega arith;
  served = tt;
  arriving = tt;
  once = rise_below-none 0;
  counts = omega arith;
  in_order = tt;
  sampled = tt;
  room = tt;
}

-- ---- one more packet

module _ (case : LinkCase) (trace : IsTrace case.trace) (packets : List Packet) (givens : List GivenAck) (settled : Settled case packets givens) where
  served_by : (b marked : Bool) (now own : ℕ) (flight : List Packet) → chances_past packets ≤ own → now ≤ chance_time case.trace own → AllServedWithin case.trace (chances_past packets) flight
      → AllServedWithin case.trace (chances_past (record { sent_at = now; fate = cond b Lost (Served own marked) } ∷ packets)) (flight ++ record { sent_at = now; fate = cond b Lost (Served own marked) } ∷ [])
  served_by true marked now own flight order not_before within =
      all_served_within-push case.trace (chances_past packets) flight (record { sent_at = now; fate = Lost }) within tt
  served_by false marked now own flight order not_before within =
      all_served_within-push case.trace (max (own + 1) (chances_past packets)) flight (record { sent_at = now; fate = Served own marked })
      (all_served_within-more case.trace (chances_past packets) (max (own + 1) (chances_past packets)) flight (omega arith) within) (omega arith, not_before)

  arriving_by : (b marked : Bool) (now own : ℕ) (flight : List Packet) → chances_past packets ≤ own → now ≤ chance_time case.trace own → AllServedWithin case.trace (chances_past packets) flight
      → ArriveFrom case now flight → ArriveFrom case now (flight ++ record { sent_at = now; fate = cond b Lost (Served own marked) } ∷ [])
  arriving_by true marked now own flight order not_before within before = ArriveFrom-lost case trace now now flight before
  arriving_by false marked now own flight order not_before within before =
      ArriveFrom-served case trace now (chances_past packets) own now marked flight (omega arith) within order before

  flight_sent : packets_of (in_flight (packet_after case (time_of givens) packets ∷ packets) givens) ≡ packets_of (in_flight packets givens) ++ packet_after case (time_of givens) packets ∷ []
  flight_sent =
      let packet = packet_after case (time_of givens) packets in
      ap packets_of (in_flight-sent packets packet givens settled.takings) ∙ packets_of-push (in_flight packets givens) (record { number = length packets; packet = packet })

  pub settled-sent : Settled case (packet_after case (time_of givens) packets ∷ packets) givens
  settled-sent =
      let now = time_of givens in
      let past = chances_past packets in
      let packet = packet_after case now packets in
      let flight = in_flight packets givens in
      let last : Numbered = record { number = length packets; packet = packet } in
      let sent : in_flight (packet ∷ packets) givens ≡ flight ++ last ∷ [] = in_flight-sent packets packet givens settled.takings in
      let queue = waiting case.trace now packets in
      let is_lost_now = is_listed (length packets) case.losses || leb case.queue queue in
      let own = first_chance case.trace now past in
      record {
        takings = all_take_below-more (length packets) (suc (length packets)) givens (omega arith) settled.takings;
        rises = subst (RisesFrom 0) (sym sent) (RisesFrom-push 0 (length packets) flight last settled.rises settled.below (omega arith) (omega arith));
        below = subst (AllBelow (suc (length packets))) (sym sent)
            (AllBelow-push (suc (length packets)) flight last (AllBelow-more (length packets) (suc (length packets)) flight (omega arith) settled.below) (omega arith));
        queued = IsQueued-sent case now packets trace settled.queued;
        served = subst (AllServedWithin case.trace (chances_past (packet ∷ packets))) (sym flight_sent)
            (served_by is_lost_now (is_marked case.mark queue) now own (packets_of flight) (first_chance_from case.trace trace now past) (first_chance_at case.trace trace now past) settled.served);
        arriving = subst (ArriveFrom case now) (sym flight_sent)
            (arriving_by is_lost_now (is_marked case.mark queue) now own (packets_of flight) (first_chance_from case.trace trace now past) (first_chance_at case.trace trace now past) settled.served settled.arriving);
        once = rise_below-sent is_lost_now (is_marked case.mark queue) own now packets (first_chance_from case.trace trace now past) settled.once;
        counts = omega (arith, settled.counts, ap length sent, length-append flight (last ∷ []));
        in_order = settled.in_order;
        sampled = settled.sampled;
        room = (finds_room case.queue queue own (is_listed (length packets) case.losses) (leb case.queue queue) (is_marked case.mark queue) refl, settled.room);
      }

  -- the packet of the definition is the one that the link sends
  same_packet : packet_after case (time_of givens) packets
      ≡ packet_by case (whole_of (record { packets = packets; givens = givens })) (first_chance case.trace (time_of givens) 0) (first_chance case.trace (time_of givens + 1) 0)
  same_packet =
      let now = time_of givens in
      let with_fate : Fate → Packet = λ f. record { sent_at = now; fate = f } in
      ap (λ q. with_fate (fate_by case (length packets) q (first_chance case.trace now (chances_past packets)))) (settled.queued now (omega arith))
      ∙ ap (λ k. with_fate (fate_by case (length packets) (chances_past packets - first_chance case.trace (now + 1) 0) k)) (first_chance_max case.trace trace now (chances_past packets))

  pub same_standing : whole_of (record { packets = packet_after case (time_of givens) packets ∷ packets; givens = givens })
      ≡ with_packet (whole_of (record { packets = packets; givens = givens }))
      (packet_by case (whole_of (record { packets = packets; givens = givens })) (first_chance case.trace (time_of givens) 0) (first_chance case.trace (time_of givens + 1) 0))
  same_standing =
      let packet = packet_after case (time_of givens) packets in
      let with_parts : List Packet → ℕ → Whole = λ flight sent. record {
        time = time_of givens;
        past = past_of givens;
        flight = flight;
        chance = chances_past (packet ∷ packets);
        sent = sent;
        acked = acked_of givens;
        calls = length givens;
      } in
      let more : suc (length packets) ≡ length packets + 1 = omega arith in
      ap (λ flight. with_parts flight (suc (length packets))) flight_sent
      ∙ ap (with_parts (packets_of (in_flight packets givens) ++ packet ∷ [])) more
      ∙ ap (with_packet (whole_of (record { packets = packets; givens = givens }))) same_packet

-- ---- the sending of a call

module _ (case : LinkCase) (trace : IsTrace case.trace) where
  pub settled-with_sent : (more : ℕ) (packets : List Packet) (givens : List GivenAck) → Settled case packets givens → Settled case (with_sent case (time_of givens) more packets) givens
  settled-with_sent zero packets givens settled = settled
  settled-with_sent (suc more) packets givens settled =
      settled-with_sent more (packet_after case (time_of givens) packets ∷ packets) givens (settled-sent case trace packets givens settled)

  sending_same : (more : ℕ) (packets : List Packet) (givens : List GivenAck) → Settled case packets givens
      → whole_of (record { packets = with_sent case (time_of givens) more packets; givens = givens })
      ≡ sending case (first_chance case.trace (time_of givens) 0) (first_chance case.trace (time_of givens + 1) 0) more (whole_of (record { packets = packets; givens = givens }))
  sending_same zero packets givens settled = refl
  sending_same (suc more) packets givens settled =
      sending_same more (packet_after case (time_of givens) packets ∷ packets) givens (settled-sent case trace packets givens settled)
      ∙ ap (sending case (first_chance case.trace (time_of givens) 0) (first_chance case.trace (time_of givens + 1) 0) more) (same_standing case trace packets givens settled)

  pub sent_same : (window : ℕ) (run : Run) → Settled case run.packets run.givens
      → whole_of (record { packets = sent_by case window run; givens = run.givens }) ≡ sent_whole case window (whole_of run)
  sent_same window run settled =
      sending_same (allowance case window - length (in_flight run.packets run.givens)) run.packets run.givens settled
      ∙ ap (λ n. sending_whole case (allowance case window - n) (whole_of run)) (sym (length-packets_of (in_flight run.packets run.givens)))

-- ---- the acknowledgement of a call

module _ (case : LinkCase) (packets : List Packet) (givens : List GivenAck) where
  abbrev landed_standing : List Numbered → Whole
  landed_standing flight = with_flight (whole_of (record { packets = packets; givens = givens })) (staying (packets_of flight))

  ack_same : (flight : List Numbered) (next : Next) → MatchNext flight 0 0 next → AllBelow (length packets) flight
      → (answer_by case packets givens flight next).ack ≡ ack_by case (landed_standing flight) (landing (packets_of flight) 0)
  ack_same flight all_lost same below =
      let none : length (left_by (all_below (length packets)) flight) ≡ length (staying (packets_of flight)) =
      ap length (left_by-all_below (length packets) flight below) ∙ sym (ap length same.1) in
      let count : length flight ≡ 0 + length flight = omega arith in
      ap (λ stay. timeout_ack case (time_of givens + case.timeout_us) (past_of givens) (length flight) stay (acked_of givens) (length packets)) none
      ∙ ap (λ lost. timeout_ack case (time_of givens + case.timeout_us) (past_of givens) lost (length (staying (packets_of flight))) (acked_of givens) (length packets)) count
      ∙ sym (ap (ack_by case (landed_standing flight)) same.0)
  ack_same flight (arrives number sent_at chance marked) same below =
      let stay : length (left_by (packet_and_lost_below number) flight) ≡ length (staying (packets_of flight)) = sym (length-packets_of (left_by (packet_and_lost_below number) flight)) ∙ ap length same.1 in
      let count : lost_by (packet_and_lost_below number) flight ≡ 0 + lost_by (packet_and_lost_below number) flight = omega arith in
      ap (λ n. arrival_ack case sent_at (arrival_of case chance) marked (past_of givens) (lost_by (packet_and_lost_below number) flight) n (acked_of givens + 1) (length packets)) stay
      ∙ ap (λ lost. arrival_ack case sent_at (arrival_of case chance) marked (past_of givens) lost (length (staying (packets_of flight))) (acked_of givens + 1) (length packets)) count
      ∙ sym (ap (ack_by case (landed_standing flight)) same.0)

  stay_same : (flight : List Numbered) (next : Next) → MatchNext flight 0 0 next → AllBelow (length packets) flight
      → packets_of (left_by (answer_by case packets givens flight next).taking flight) ≡ staying (packets_of flight)
  stay_same flight all_lost same below = ap packets_of (left_by-all_below (length packets) flight below) ∙ sym same.1
  stay_same flight (arrives number sent_at chance marked) same below = same.1

  taking_below : (flight : List Numbered) (next : Next) → IsNextBelow (length packets) next → TakesBelow (length packets) (answer_by case packets givens flight next).taking
  taking_below flight all_lost below = omega arith
  taking_below flight (arrives number sent_at chance marked) below = below

  -- time passes, and what stays arrives later
  then_arriving : (trace : IsTrace case.trace) (flight : List Numbered) (next : Next) → MatchNext flight 0 0 next
      → LandedFrom case trace (time_of givens) (landing (packets_of flight) 0) (staying (packets_of flight))
      → (time_of givens ≤ (answer_by case packets givens flight next).ack.now) × ArriveFrom case (answer_by case packets givens flight next).ack.now (staying (packets_of flight))
  then_arriving trace flight all_lost same landed =
      (omega arith, subst (ArriveFrom case (time_of givens + case.timeout_us)) (sym same.1) tt)
  then_arriving trace flight (arrives number sent_at chance marked) same landed =
      let rest = staying (packets_of flight) in
      let here = subst (λ (l : Landing). LandedFrom case trace (time_of givens) l rest) same.0 landed in
      (here.0, here.1)

  counts_answered : (flight : List Numbered) (next : Next) → CountNext (length packets) flight next → length packets ≡ acked_of givens + lost_of givens + length flight
      → length packets ≡ (answer_by case packets givens flight next).ack.packets_acked + acked_of givens
      + ((answer_by case packets givens flight next).ack.lost_pkts_sample + lost_of givens)
      + length (left_by (answer_by case packets givens flight next).taking flight)
  counts_answered flight all_lost counted so_far = omega (arith, counted, so_far)
  counts_answered flight (arrives number sent_at chance marked) counted so_far = omega (arith, counted, so_far)

-- ---- one call

module _ (case : LinkCase) (trace : IsTrace case.trace) (packets : List Packet) (givens : List GivenAck) (settled : Settled case packets givens) where
  matches : MatchNext (in_flight packets givens) 0 0 (next_arrival (in_flight packets givens))
  matches = match_next (in_flight packets givens) 0 0 settled.rises

  stays : packets_of (in_flight packets (given_for case packets givens ∷ givens)) ≡ staying (packets_of (in_flight packets givens))
  stays = stay_same case packets givens (in_flight packets givens) (next_arrival (in_flight packets givens)) matches settled.below

  pub settled-answered : Settled case packets (given_for case packets givens ∷ givens)
  settled-answered =
      let flight = in_flight packets givens in
      let given = given_for case packets givens in
      let goes_on = then_arriving case packets givens trace flight (next_arrival flight) matches (landed_from case trace (time_of givens) 0 (packets_of flight) settled.arriving) in
      record {
        takings = (taking_below case packets givens flight (next_arrival flight) (next_below (length packets) flight settled.below), settled.takings);
        rises = RisesFrom-left_by given.taking 0 flight settled.rises;
        below = AllBelow-left_by given.taking (length packets) flight settled.below;
        queued = IsQueued-later case.trace (time_of givens) given.ack.now packets goes_on.0 settled.queued;
        served = subst (AllServedWithin case.trace (chances_past packets)) (sym stays) (all_served_within-staying case.trace (chances_past packets) (packets_of flight) settled.served);
        arriving = subst (ArriveFrom case given.ack.now) (sym stays) goes_on.1;
        once = settled.once;
        counts = counts_answered case packets givens flight (next_arrival flight) (count_next (length packets) flight (next_arrival flight) matches settled.below) settled.counts;
        in_order = (goes_on.0, settled.in_order);
        sampled = (is_sampled-next case packets givens flight (next_arrival flight) (next_served case.trace (chances_past packets) flight settled.served), settled.sampled);
        room = settled.room;
      }

  pub answer_same : (given_for case packets givens).ack
      ≡ ack_by case (with_flight (whole_of (record { packets = packets; givens = givens })) (staying (whole_of (record { packets = packets; givens = givens })).flight))
      (landing (whole_of (record { packets = packets; givens = givens })).flight 0)
  answer_same = ack_same case packets givens (in_flight packets givens) (next_arrival (in_flight packets givens)) matches settled.below

  pub answered_standing : whole_of (record { packets = packets; givens = given_for case packets givens ∷ givens })
      ≡ with_ack (with_flight (whole_of (record { packets = packets; givens = givens })) (staying (whole_of (record { packets = packets; givens = givens })).flight))
      (given_for case packets givens).ack
  answered_standing =
      let ack = (given_for case packets givens).ack in
      let with_parts : List Packet → ℕ → ℕ → Whole = λ flight acked calls. record {
        time = ack.now;
        past = past_in ack;
        flight = flight;
        chance = chances_past packets;
        sent = length packets;
        acked = acked;
        calls = calls;
      } in
      let calls : suc (length givens) ≡ length givens + 1 = omega arith in
      let stay = staying (packets_of (in_flight packets givens)) in
      ap (λ flight. with_parts flight (ack.packets_acked + acked_of givens) (suc (length givens))) stays
      ∙ ap (λ acked. with_parts stay acked (suc (length givens))) (add_comm ack.packets_acked (acked_of givens))
      ∙ ap (with_parts stay (acked_of givens + ack.packets_acked)) calls

module _ (case : LinkCase) (trace : IsTrace case.trace) where
  pub settled-called : (window : ℕ) (run : Run) → Settled case run.packets run.givens → Settled case (called case window run).packets (called case window run).givens
  settled-called window run settled =
      settled-answered case trace (sent_by case window run) run.givens
      (settled-with_sent case trace (allowance case window - length (in_flight run.packets run.givens)) run.packets run.givens settled)

  pub ack_called : (window : ℕ) (run : Run) → Settled case run.packets run.givens
      → (given_for case (sent_by case window run) run.givens).ack ≡ next_ack case window (whole_of run)
  ack_called window run settled =
      answer_same case trace (sent_by case window run) run.givens
      (settled-with_sent case trace (allowance case window - length (in_flight run.packets run.givens)) run.packets run.givens settled)
      ∙ ap (λ s. ack_by case (with_flight s (staying s.flight)) (landing s.flight 0)) (sent_same case trace window run settled)

  pub standing_called : (window : ℕ) (run : Run) → Settled case run.packets run.givens
      → whole_of (called case window run) ≡ next_whole case window (whole_of run)
  standing_called window run settled =
      answered_standing case trace (sent_by case window run) run.givens
      (settled-with_sent case trace (allowance case window - length (in_flight run.packets run.givens)) run.packets run.givens settled)
      ∙ ap (λ s. with_ack (with_flight s (staying s.flight)) (given_for case (sent_by case window run) run.givens).ack) (sent_same case trace window run settled)
      ∙ ap (with_ack (with_flight (sent_whole case window (whole_of run)) (staying (sent_whole case window (whole_of run)).flight))) (ack_called window run settled)

  -- ---- lists of windows

  settled-run_from : (windows : List ℕ) (run : Run) → Settled case run.packets run.givens → Settled case (run_from case run windows).packets (run_from case run windows).givens
  settled-run_from [] run settled = settled
  settled-run_from (window ∷ later) run settled = settled-run_from later (called case window run) (settled-called window run settled)

  pub settled-run_of : (windows : List ℕ) → Settled case (run_of case windows).packets (run_of case windows).givens
  settled-run_of windows = settled-run_from windows (record { packets = []; givens = [] }) (settled_at_first case)

  pub next_ack_same : (windows : List ℕ) (window : ℕ) (standing : Whole) → standing ≡ whole_of (run_of case windows) → next_ack case window standing ≡ ack_after case windows window
  next_ack_same windows window standing same =
      ap (next_ack case window) same ∙ sym (ack_called window (run_of case windows) (settled-run_of windows))

  pub next_whole_same : (windows : List ℕ) (window : ℕ) (standing : Whole) → standing ≡ whole_of (run_of case windows)
      → next_whole case window standing ≡ whole_of (run_of case (windows ++ window ∷ []))
  next_whole_same windows window standing same =
      ap (next_whole case window) same
      ∙ sym (standing_called window (run_of case windows) (settled-run_of windows))
      ∙ ap whole_of (sym (run_from-push case windows window (record { packets = []; givens = [] })))
