-- One flow of a shared link over what it sends and what is acknowledged: what holds of its packets in flight.
use Rattle.std.proofs.Common.{◌≡◌, ℕ, suc, ◌+◌, ◌<◌, ◌≤◌, Bool, true, false, cond, ltb, List, [], ◌∷◌, ◌++◌, length, max, refl, ap, sym, ◌∙◌, subst, arith, length-append}
use Rattle.std.proofs.lemmas.Bool.{le-ltb, ltb-false}
use Rattle.link_model.specs.Traces.{IsTrace}
use Rattle.link_model.specs.Chances.{chance_time}
use Rattle.link_model.specs.Link.{Packet, Fate, Lost, Served, GivenAck, Numbered, packet_and_lost_below, all_below, chance_past, left_by, lost_by, in_flight, time_of, acked_of, Next, arrives, all_lost, next_arrival}
use Rattle.link_model.specs.Link as link
use Rattle.link_model.specs.Standing.{packets_of}
use Rattle.link_model.specs.Flights.{IsServedWithin, AllServedWithin, RisesFrom, AllBelow}
use Rattle.link_model.proofs.Whole.{Landing, Arrived, AllLost, landing, landing_by, staying}
use Rattle.link_model.proofs.ChanceLemmas.{chance_time_rises}
use Rattle.link_model.proofs.ServedLemmas.{all_served_within-more, all_served_within-push, all_served_within-staying}
use Rattle.link_model.proofs.FlightLemmas.{RisesFrom-push, AllBelow-push, AllBelow-more, RisesFrom-left_by, AllBelow-left_by, all_take_below-more, in_flight-sent, packets_of-push, left_by-all_below, MatchNext, match_next}
use Rattle.link_model.proofs.CountLemmas.{count_next}
use Rattle.shared_link.specs.declared.shared_case.FlowLink.{FlowLink}
use Rattle.shared_link.specs.Reached.{ArrivesFrom, after_arrival, ArriveFrom, FlowSettled}
use Rattle.shared_link.specs.SharedRounds.{next_where, next_before, arrival_given, timeout_given}

-- ---- arrivals in flight

-- the lowest packet that isn't lost, if it arrives before a time
abbrev pub earlier : List ℕ → ℕ → ℕ → Next → Next
earlier times delay end (arrives number sent_at chance marked) =
    cond (ltb (chance_time times chance + delay) end) (arrives number sent_at chance marked) all_lost
earlier times delay end all_lost = all_lost

module _ (times : List ℕ) (trace : IsTrace times) (delay : ℕ) where
  arrives_before : (from past sent_at : ℕ) (fate : Fate) (own : ℕ) → from ≤ chance_time times own + delay → IsServedWithin times past sent_at fate → past ≤ own
      → after_arrival times delay from fate ≤ chance_time times own + delay
  arrives_before from past sent_at Lost own early within order = early
  arrives_before from past sent_at (Served other marked) own early within order =
      let rises = chance_time_rises times trace other own (omega (arith, within.0)) in omega arith

  ArriveFrom-served : (from past own sent_at : ℕ) (marked : Bool) (packets : List Packet) → from ≤ chance_time times own + delay → AllServedWithin times past packets → past ≤ own
      → ArriveFrom times delay from packets → ArriveFrom times delay from (packets ++ record { sent_at = sent_at; fate = Served own marked } ∷ [])
  ArriveFrom-served from past own sent_at marked [] early within order before = (early, tt)
  ArriveFrom-served from past own sent_at marked (packet ∷ rest) early within order before =
      (before.0, ArriveFrom-served (after_arrival times delay from packet.fate) past own sent_at marked rest (arrives_before from past packet.sent_at packet.fate own early within.0 order) within.1 order before.1)

  ArriveFrom-lost : (from sent_at : ℕ) (packets : List Packet) → ArriveFrom times delay from packets → ArriveFrom times delay from (packets ++ record { sent_at = sent_at; fate = Lost } ∷ [])
  ArriveFrom-lost from sent_at [] before = (tt, tt)
  ArriveFrom-lost from sent_at (packet ∷ rest) before = (before.0, ArriveFrom-lost (after_arrival times delay from packet.fate) sent_at rest before.1)

  -- the first packet that isn't lost arrives at this time or later, and was sent no later than its chance; those after it
  -- arrive from then on
  abbrev pub Lands : ℕ → List Packet → Landing → Type 0
  Lands from packets (Arrived sent_at chance marked lost) =
      (from ≤ chance_time times chance + delay) × (sent_at ≤ chance_time times chance) × ArriveFrom times delay (chance_time times chance + delay) (staying packets)
  Lands from packets (AllLost lost) = Unit {0}

  lands_after : (from sent_at : ℕ) (rest : List Packet) (later : Landing) → Lands from rest later → Lands from (record { sent_at = sent_at; fate = Lost } ∷ rest) later
  lands_after from sent_at rest (Arrived own chance marked lost) lands = lands
  lands_after from sent_at rest (AllLost lost) lands = tt

  lands_by : (past from lost sent_at : ℕ) (fate : Fate) (rest : List Packet) (later : Landing) → ArrivesFrom times delay from fate → ArriveFrom times delay (after_arrival times delay from fate) rest
      → IsServedWithin times past sent_at fate → (ArriveFrom times delay from rest → Lands from rest later)
      → Lands from (record { sent_at = sent_at; fate = fate } ∷ rest) (landing_by fate sent_at lost later)
  lands_by past from lost sent_at Lost rest later here after within then_ = lands_after from sent_at rest later (then_ after)
  lands_by past from lost sent_at (Served own marked) rest later here after within then_ = (here, within.1, after)

  pub lands_from : (past from lost : ℕ) (packets : List Packet) → ArriveFrom times delay from packets → AllServedWithin times past packets → Lands from packets (landing packets lost)
  lands_from past from lost [] before within = tt
  lands_from past from lost (packet ∷ rest) before within =
      lands_by past from lost packet.sent_at packet.fate rest (landing rest (lost + 1)) before.0 before.1 within.0 (λ after. lands_from past from (lost + 1) rest after within.1)

  -- if the first one arrives too late, all do
  none_by : (end from number sent_at : ℕ) (fate : Fate) (later : Next) → end ≤ from → ArrivesFrom times delay from fate → later ≡ all_lost → next_where times delay end number sent_at fate later ≡ all_lost
  none_by end from number sent_at Lost later order before none = none
  none_by end from number sent_at (Served own marked) later order before none =
      ap (λ b. cond b (arrives number sent_at own marked) later) (le-ltb (chance_time times own + delay) end (omega (arith, before))) ∙ none

  after_from : (from : ℕ) (fate : Fate) → ArrivesFrom times delay from fate → from ≤ after_arrival times delay from fate
  after_from from Lost before = omega arith
  after_from from (Served own marked) before = before

  none_before : (end from : ℕ) (flight : List Numbered) → end ≤ from → ArriveFrom times delay from (packets_of flight) → next_before times delay end flight ≡ all_lost
  none_before end from [] order before = refl
  none_before end from (sent ∷ rest) order before =
      none_by end from sent.number sent.packet.sent_at sent.packet.fate (next_before times delay end rest) order before.0
      (none_before end (after_arrival times delay from sent.packet.fate) rest (omega (arith, after_from from sent.packet.fate before.0)) before.1)

  earlier_by : (b : Bool) (end own : ℕ) (number sent_at : ℕ) (marked : Bool) (later : Next) → ltb (chance_time times own + delay) end ≡ b → (end ≤ chance_time times own + delay → later ≡ all_lost)
      → cond b (arrives number sent_at own marked) later ≡ cond b (arrives number sent_at own marked) all_lost
  earlier_by true end own number sent_at marked later is none = refl
  earlier_by false end own number sent_at marked later is none = none (ltb-false (chance_time times own + delay) end is)

  next_where_of : (end from number sent_at : ℕ) (fate : Fate) (later later_next : Next) → later ≡ earlier times delay end later_next → (end ≤ after_arrival times delay from fate → later ≡ all_lost)
      → next_where times delay end number sent_at fate later ≡ earlier times delay end (link.next_by number sent_at fate later_next)
  next_where_of end from number sent_at Lost later later_next same none = same
  next_where_of end from number sent_at (Served own marked) later later_next same none =
      earlier_by (ltb (chance_time times own + delay) end) end own number sent_at marked later refl none

  pub next_before_of : (end from : ℕ) (flight : List Numbered) → ArriveFrom times delay from (packets_of flight) → next_before times delay end flight ≡ earlier times delay end (next_arrival flight)
  next_before_of end from [] before = refl
  next_before_of end from (sent ∷ rest) before =
      next_where_of end from sent.number sent.packet.sent_at sent.packet.fate (next_before times delay end rest) (next_arrival rest)
      (next_before_of end (after_arrival times delay from sent.packet.fate) rest before.1)
      (λ order. none_before end (after_arrival times delay from sent.packet.fate) rest order before.1)

pub flow_settled-first : (times : List ℕ) (delay past : ℕ) → FlowSettled times delay past [] []
flow_settled-first times delay past = record {
  takings = tt;
  rises = tt;
  below = tt;
  served = tt;
  arriving = tt;
  counts = omega arith;
  order = tt;
  samples = tt;
}

-- other flows may get chances
pub flow_settled-more : (times : List ℕ) (delay past more : ℕ) (packets : List Packet) (givens : List GivenAck) → past ≤ more → FlowSettled times delay past packets givens → FlowSettled times delay more packets givens
flow_settled-more times delay past more packets givens order settled = record {
  takings = settled.takings;
  rises = settled.rises;
  below = settled.below;
  served = all_served_within-more times past more (packets_of (in_flight packets givens)) order settled.served;
  arriving = settled.arriving;
  counts = settled.counts;
  order = settled.order;
  samples = settled.samples;
}

-- ---- one more packet

module _ (times : List ℕ) (trace : IsTrace times) (delay past : ℕ) (packets : List Packet) (givens : List GivenAck) (settled : FlowSettled times delay past packets givens) where
  served_by : (b marked : Bool) (now own : ℕ) (flight : List Packet) → past ≤ own → now ≤ chance_time times own → AllServedWithin times past flight
      → AllServedWithin times (chance_past (cond b Lost (Served own marked)) past) (flight ++ record { sent_at = now; fate = cond b Lost (Served own marked) } ∷ [])
  served_by true marked now own flight order not_before within =
      all_served_within-push times past flight (record { sent_at = now; fate = Lost }) within tt
  served_by false marked now own flight order not_before within =
      all_served_within-push times (max (own + 1) past) flight (record { sent_at = now; fate = Served own marked })
      (all_served_within-more times past (max (own + 1) past) flight (omega arith) within) (omega arith, not_before)

  arriving_by : (b marked : Bool) (from now own : ℕ) (flight : List Packet) → from ≤ chance_time times own + delay → past ≤ own → AllServedWithin times past flight
      → ArriveFrom times delay from flight → ArriveFrom times delay from (flight ++ record { sent_at = now; fate = cond b Lost (Served own marked) } ∷ [])
  arriving_by true marked from now own flight early order within before = ArriveFrom-lost times trace delay from now flight before
  arriving_by false marked from now own flight early order within before =
      ArriveFrom-served times trace delay from past own now marked flight early within order before

  pub flight_sent : (packet : Packet) → packets_of (in_flight (packet ∷ packets) givens) ≡ packets_of (in_flight packets givens) ++ packet ∷ []
  flight_sent packet =
      ap packets_of (in_flight-sent packets packet givens settled.takings) ∙ packets_of-push (in_flight packets givens) (record { number = length packets; packet = packet })

  pub flow_settled-sent : (b marked : Bool) (now own : ℕ) → past ≤ own → now ≤ chance_time times own → time_of givens ≤ now
      → FlowSettled times delay (chance_past (cond b Lost (Served own marked)) past) (record { sent_at = now; fate = cond b Lost (Served own marked) } ∷ packets) givens
  flow_settled-sent b marked now own order not_before acked_before =
      let packet : Packet = record { sent_at = now; fate = cond b Lost (Served own marked) } in
      let flight = in_flight packets givens in
      let last : Numbered = record { number = length packets; packet = packet } in
      let sent : in_flight (packet ∷ packets) givens ≡ flight ++ last ∷ [] = in_flight-sent packets packet givens settled.takings in
      record {
        takings = all_take_below-more (length packets) (suc (length packets)) givens (omega arith) settled.takings;
        rises = subst (RisesFrom 0) (sym sent) (RisesFrom-push 0 (length packets) flight last settled.rises settled.below (omega arith) (omega arith));
        below = subst (AllBelow (suc (length packets))) (sym sent)
            (AllBelow-push (suc (length packets)) flight last (AllBelow-more (length packets) (suc (length packets)) flight (omega arith) settled.below) (omega arith));
        served = subst (AllServedWithin times (chance_past (cond b Lost (Served own marked)) past)) (sym (flight_sent packet))
            (served_by b marked now own (packets_of flight) order not_before settled.served);
        arriving = subst (ArriveFrom times delay (time_of givens)) (sym (flight_sent packet))
            (arriving_by b marked (time_of givens) now own (packets_of flight) (omega (arith, not_before, acked_before)) order settled.served settled.arriving);
        counts = omega (arith, settled.counts, ap length sent, length-append flight (last ∷ []));
        order = settled.order;
        samples = settled.samples;
      }

-- ---- an acknowledgement

module _ (times : List ℕ) (trace : IsTrace times) (link : FlowLink) (past : ℕ) (packets : List Packet) (givens : List GivenAck) (settled : FlowSettled times link.delay_us past packets givens) where
  pub matches : MatchNext (in_flight packets givens) 0 0 (next_arrival (in_flight packets givens))
  matches = match_next (in_flight packets givens) 0 0 settled.rises

  pub flow_settled-arrived : (number sent_at chance : ℕ) (marked : Bool) → MatchNext (in_flight packets givens) 0 0 (arrives number sent_at chance marked) → number < length packets
      → FlowSettled times link.delay_us past packets (arrival_given times link packets givens (in_flight packets givens) number sent_at chance marked ∷ givens)
  flow_settled-arrived number sent_at chance marked same before =
      let flight = in_flight packets givens in
      let counted = count_next (length packets) flight (arrives number sent_at chance marked) same settled.below in
      let from = time_of givens in
      let landed = subst (λ (l : Landing). Lands times trace link.delay_us from (packets_of flight) l) same.0 (lands_from times trace link.delay_us past from 0 (packets_of flight) settled.arriving settled.served) in
      record {
        takings = (before, settled.takings);
        rises = RisesFrom-left_by (packet_and_lost_below number) 0 flight settled.rises;
        below = AllBelow-left_by (packet_and_lost_below number) (length packets) flight settled.below;
        served = subst (AllServedWithin times past) (sym same.1) (all_served_within-staying times past (packets_of flight) settled.served);
        arriving = subst (ArriveFrom times link.delay_us (chance_time times chance + link.delay_us)) (sym same.1) landed.2;
        counts = omega (arith, counted, settled.counts);
        order = (landed.0, settled.order);
        samples = (record { packet = λ is. omega (arith, landed.1); timeout = λ is. absurd (let h : false ≡ true = is in cc) }, settled.samples);
      }

  pub flow_settled-timed_out : (now : ℕ) → time_of givens ≤ now → FlowSettled times link.delay_us past packets (timeout_given link packets givens (in_flight packets givens) now ∷ givens)
  flow_settled-timed_out now later =
      let flight = in_flight packets givens in
      let none : left_by (all_below (length packets)) flight ≡ [] = left_by-all_below (length packets) flight settled.below in
      record {
        takings = (omega arith, settled.takings);
        rises = subst (RisesFrom 0) (sym none) tt;
        below = subst (AllBelow (length packets)) (sym none) tt;
        served = subst (λ (xs : List Numbered). AllServedWithin times past (packets_of xs)) (sym none) tt;
        arriving = subst (λ (xs : List Numbered). ArriveFrom times link.delay_us now (packets_of xs)) (sym none) tt;
        counts = omega (arith, settled.counts, ap length none);
        order = (later, settled.order);
        samples = (record { packet = λ is. absurd (let h : true ≡ false = is in cc); timeout = λ is. refl }, settled.samples);
      }
