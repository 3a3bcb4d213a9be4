-- What holds of a shared link after every list of rounds.
use Rattle.std.proofs.Common.{◌≡◌, ℕ, zero, suc, ◌+◌, ◌<◌, ◌≤◌, Bool, true, false, cond, eqb, ltb, leb, ◌||◌, ◌&&◌, List, [], ◌∷◌, length, refl, sym, subst, arith, ltb-true}
use Rattle.std.proofs.lemmas.Bool.{and_parts}
use Rattle.ccp_base.specs.Limits.{most_flight}
use Rattle.link_model.specs.Traces.{IsTrace}
use Rattle.link_model.specs.Chances.{chance_time, first_chance}
use Rattle.link_model.specs.Link.{Packet, Lost, Served, GivenAck, Numbered, chance_past, chances_past, waiting, is_listed, is_marked, in_flight, time_of, Next, arrives, all_lost, next_arrival}
use Rattle.link_model.proofs.ChanceLemmas.{first_chance_from, first_chance_at, first_chance_max}
use Rattle.link_model.proofs.FlightLemmas.{MatchNext, IsNextBelow, next_below}
use Rattle.link_model.proofs.CountLemmas.{rise_below-none, rise_below-sent}
use Rattle.link_model.proofs.QueueLemmas.{IsQueued-later, queued_by}
use Rattle.shared_link.specs.declared.shared_case.FlowLink.{FlowLink}
use Rattle.shared_link.specs.declared.shared_case.SharedCase.{SharedCase}
use Rattle.shared_link.specs.declared.round.Ask.{Ask}
use Rattle.shared_link.specs.Reached.{FlowSettled, Settled}
use Rattle.shared_link.specs.SharedRounds.{Sent, SharedLinkRun, flow_link_at, ask_at, every_packet, own_packets, allowed, with_packet, lacks, some_lacks, sending_turn, turns_of, round_time, sent_by, arrival_given, are_lost, timeout_at, timeout_given, timeouts, answers, answers_after, with_givens, with_round, shared_run_from, shared_run_of, first_run}
use Rattle.shared_link.proofs.FlowLemmas.{earlier, next_before_of, flow_settled-first, flow_settled-more, flow_settled-sent, flow_settled-arrived, flow_settled-timed_out, matches}

-- ---- a flow's acknowledgements in a round

module _ (times : List ℕ) (trace : IsTrace times) (link : FlowLink) (end past : ℕ) (packets : List Packet) where
  abbrev pub Holds : List GivenAck → Type 0
  Holds givens = FlowSettled times link.delay_us past packets givens × (time_of givens ≤ end)

  timed_out_if : (b : Bool) (now : ℕ) (givens : List GivenAck) (flight : List Numbered) → flight ≡ in_flight packets givens → time_of givens ≤ now → (b ≡ true → now ≤ end) → Holds givens
      → Holds (with_givens (cond b (timeout_given link packets givens flight now ∷ []) []) givens)
  timed_out_if true now givens flight same later soon holds =
      subst (λ (xs : List Numbered). Holds (timeout_given link packets givens xs now ∷ givens)) (sym same) (flow_settled-timed_out times trace link past packets givens holds.0 now later, soon refl)
  timed_out_if false now givens flight same later soon holds = holds

  settled-timeouts : (givens : List GivenAck) (flight : List Numbered) → flight ≡ in_flight packets givens → Holds givens → Holds (with_givens (timeouts link end packets givens flight) givens)
  settled-timeouts givens [] same holds = holds
  settled-timeouts givens (first ∷ rest) same holds =
      let now = timeout_at link givens first.packet in
      timed_out_if (are_lost (first ∷ rest) && ltb now end) now givens (first ∷ rest) same (omega arith)
      (λ is. (let before : now < end = ltb-true now end (and_parts (are_lost (first ∷ rest)) (ltb now end) is).1 in omega (arith, before))) holds

  settled-if : (b : Bool) (givens : List GivenAck) (number sent_at chance : ℕ) (marked : Bool) (then_ : GivenAck → List GivenAck) → ltb (chance_time times chance + link.delay_us) end ≡ b → Holds givens
      → MatchNext (in_flight packets givens) 0 0 (arrives number sent_at chance marked) → number < length packets
      → ((given : GivenAck) → Holds (given ∷ givens) → Holds (with_givens (then_ given) givens))
      → Holds (with_givens (answers_after times link end packets givens (in_flight packets givens) (cond b (arrives number sent_at chance marked) all_lost) then_) givens)
  settled-if true givens number sent_at chance marked then_ is holds same below go_on =
      let at = chance_time times chance + link.delay_us in
      let before : at < end = ltb-true at end is in
      go_on (arrival_given times link packets givens (in_flight packets givens) number sent_at chance marked)
      (flow_settled-arrived times trace link past packets givens holds.0 number sent_at chance marked same below, omega (arith, before))
  settled-if false givens number sent_at chance marked then_ is holds same below go_on = settled-timeouts givens (in_flight packets givens) refl holds

  settled-after : (givens : List GivenAck) (next : Next) (then_ : GivenAck → List GivenAck) → Holds givens
      → MatchNext (in_flight packets givens) 0 0 next → IsNextBelow (length packets) next
      → ((given : GivenAck) → Holds (given ∷ givens) → Holds (with_givens (then_ given) givens))
      → Holds (with_givens (answers_after times link end packets givens (in_flight packets givens) (earlier times link.delay_us end next) then_) givens)
  settled-after givens (arrives number sent_at chance marked) then_ holds same below go_on =
      settled-if (ltb (chance_time times chance + link.delay_us) end) givens number sent_at chance marked then_ refl holds same below go_on
  settled-after givens all_lost then_ holds same below go_on = settled-timeouts givens (in_flight packets givens) refl holds

  pub settled-answers : (left : ℕ) (givens : List GivenAck) → Holds givens → Holds (with_givens (answers times link end packets left givens) givens)
  settled-answers zero givens holds = holds
  settled-answers (suc left) givens holds =
      let flight = in_flight packets givens in
      subst (λ (n : Next). Holds (with_givens (answers_after times link end packets givens flight n (λ given. given ∷ answers times link end packets left (given ∷ givens))) givens))
      (sym (next_before_of times trace link.delay_us end (time_of givens) flight holds.0.arriving))
      (settled-after givens (next_arrival flight) (λ given. given ∷ answers times link end packets left (given ∷ givens)) holds
      (matches times trace link past packets givens holds.0) (next_below (length packets) flight holds.0.below)
      (λ given after. settled-answers left (given ∷ givens) after))

-- ---- the link

past_grows : (b marked : Bool) (own past : ℕ) → past ≤ chance_past (cond b Lost (Served own marked)) past
past_grows true marked own past = omega arith
past_grows false marked own past = omega arith

module _ (case : SharedCase) (trace : IsTrace case.trace) (now : ℕ) (givens : ℕ → List GivenAck) where
  -- one more packet, as each flow sees it
  flow_sees : (e b marked : Bool) (own flow sender : ℕ) (sent : List Sent) → eqb sender flow ≡ e → chances_past (every_packet sent) ≤ own → now ≤ chance_time case.trace own → time_of (givens flow) ≤ now
      → FlowSettled case.trace (flow_link_at case flow).delay_us (chances_past (every_packet sent)) (own_packets flow sent) (givens flow)
      → FlowSettled case.trace (flow_link_at case flow).delay_us (chance_past (cond b Lost (Served own marked)) (chances_past (every_packet sent)))
      (cond e (record { sent_at = now; fate = cond b Lost (Served own marked) } ∷ own_packets flow sent) (own_packets flow sent)) (givens flow)
  flow_sees true b marked own flow sender sent same order late before settled =
      flow_settled-sent case.trace trace (flow_link_at case flow).delay_us (chances_past (every_packet sent)) (own_packets flow sent) (givens flow) settled b marked now own order late before
  flow_sees false b marked own flow sender sent same order late before settled =
      flow_settled-more case.trace (flow_link_at case flow).delay_us (chances_past (every_packet sent)) (chance_past (cond b Lost (Served own marked)) (chances_past (every_packet sent))) (own_packets flow sent) (givens flow)
      (past_grows b marked own (chances_past (every_packet sent))) settled

  pub settled-packet : (flow : ℕ) (sent : List Sent) → Settled case now sent givens → Settled case now (with_packet case now flow sent) givens
  settled-packet sender sent settled =
      let packets = every_packet sent in
      let past = chances_past packets in
      let queue = waiting case.trace now packets in
      let link = flow_link_at case sender in
      let b = is_listed (length (own_packets sender sent)) link.losses || leb case.queue queue in
      let marked = is_marked link.mark queue in
      let own = first_chance case.trace now past in
      let order = first_chance_from case.trace trace now past in
      let late = first_chance_at case.trace trace now past in
      record {
        queued = queued_by case.trace trace b marked now own now packets (first_chance_max case.trace trace now past) settled.queued;
        once = rise_below-sent b marked own now packets order settled.once;
        flows = λ flow. flow_sees (eqb sender flow) b marked own flow sender sent refl order late (settled.past flow) (settled.flows flow);
        past = settled.past;
      }

  settled-turn_if : (b : Bool) (flow : ℕ) (sent : List Sent) → Settled case now sent givens → Settled case now (cond b (with_packet case now flow sent) sent) givens
  settled-turn_if true flow sent settled = settled-packet flow sent settled
  settled-turn_if false flow sent settled = settled

  pub settled-turn : (may : ℕ → ℕ) (flows : ℕ) (sent : List Sent) → Settled case now sent givens → Settled case now (sending_turn case now may givens flows sent) givens
  settled-turn may zero sent settled = settled
  settled-turn may (suc flow) sent settled =
      settled-turn_if (lacks may givens flow (sending_turn case now may givens flow sent)) flow (sending_turn case now may givens flow sent) (settled-turn may flow sent settled)

  settled-turns_if : (b : Bool) (more sent : List Sent) → Settled case now more givens → Settled case now sent givens → Settled case now (cond b more sent) givens
  settled-turns_if true more sent after before = after
  settled-turns_if false more sent after before = before

  pub settled-turns : (may : ℕ → ℕ) (turns : ℕ) (sent : List Sent) → Settled case now sent givens → Settled case now (turns_of case now may givens turns sent) givens
  settled-turns may zero sent settled = settled
  settled-turns may (suc turns) sent settled =
      settled-turns_if (some_lacks may givens (length case.flows) sent) (turns_of case now may givens turns (sending_turn case now may givens (length case.flows) sent)) sent
      (settled-turns may turns (sending_turn case now may givens (length case.flows) sent) (settled-turn may (length case.flows) sent settled)) settled

module _ (case : SharedCase) (trace : IsTrace case.trace) where
  abbrev pub IsSettled : SharedLinkRun → Type 0
  IsSettled run = Settled case (round_time case run.rounds) run.sent run.givens

  pub settled-sent : (asks : List Ask) (run : SharedLinkRun) → IsSettled run → Settled case (round_time case run.rounds) (sent_by case asks run) run.givens
  settled-sent asks run settled = settled-turns case trace (round_time case run.rounds) run.givens (allowed case (round_time case run.rounds) asks) most_flight run.sent settled

  next_round : (rounds : ℕ) → round_time case rounds ≤ round_time case (rounds + 1)
  next_round rounds = omega arith

  pub settled-round : (asks : List Ask) (run : SharedLinkRun) → IsSettled run → IsSettled (with_round case asks run)
  settled-round asks run settled =
      let sent = sent_by case asks run in
      let after = settled-sent asks run settled in
      let answered : (flow : ℕ) → Holds case.trace trace (flow_link_at case flow) (round_time case (run.rounds + 1)) (chances_past (every_packet sent)) (own_packets flow sent) ((with_round case asks run).givens flow) =
      λ flow. settled-answers case.trace trace (flow_link_at case flow) (round_time case (run.rounds + 1)) (chances_past (every_packet sent)) (own_packets flow sent) (ask_at asks flow).left (run.givens flow)
      (after.flows flow, omega (arith, after.past flow, next_round run.rounds)) in
      record {
        queued = IsQueued-later case.trace (round_time case run.rounds) (round_time case (run.rounds + 1)) (every_packet sent) (next_round run.rounds) after.queued;
        once = after.once;
        flows = λ flow. (answered flow).0;
        past = λ flow. (answered flow).1;
      }

  settled-first : IsSettled first_run
  settled-first = record {
    queued = λ at after. omega arith;
    once = rise_below-none 0;
    flows = λ flow. flow_settled-first case.trace (flow_link_at case flow).delay_us 0;
    past = λ flow. omega arith;
  }

  settled-from : (rounds : List (List Ask)) (run : SharedLinkRun) → IsSettled run → IsSettled (shared_run_from case run rounds)
  settled-from [] run settled = settled
  settled-from (asks ∷ later) run settled = settled-from later (with_round case asks run) (settled-round asks run settled)

  pub settled-run : (rounds : List (List Ask)) → IsSettled (shared_run_of case rounds)
  settled-run rounds = settled-from rounds first_run settled-first
