-- What a flow's start changes.
use Rattle.std.proofs.Common.{◌≡◌, ℕ, zero, suc, ◌-◌, ◌≤◌, Bool, true, false, cond, eqb, ltb, ◌||◌, List, [], ◌∷◌, length, refl, ap, sym, ◌∙◌, subst, arith, inl, inr}
use Rattle.std.proofs.lemmas.Bool.{cases_lt, or_right, eqb-true, lt-ltb}
use Rattle.std.proofs.lemmas.Bool.Decides.{nat_tests}
use Rattle.ccp_base.specs.declared.ack.Ack.{Ack}
use Rattle.ccp_base.specs.Limits.{most_flight}
use Rattle.link_model.specs.Link.{GivenAck, allowance_of, byte_rate, arrival_ack_of, timeout_ack_of}
use Rattle.shared_link.specs.declared.shared_case.SharedCase.{SharedCase}
use Rattle.shared_link.specs.declared.round.Ask.{Ask}
use Rattle.shared_link.specs.SharedRounds.{Sent, SharedLinkRun, flow_link_at, ask_at, own_packets, packet_after, with_packet, allowed, lacks, some_lacks, sending_turn, turns_of, round_time, sent_by, with_round, shared_run_from, shared_run_of, first_run}
use Rattle.shared_link.specs.SharedLaws.{WaitsForStart, AreSentFrom, MaySendAtOnce, AreOverLinkTime}

-- ---- a flow that may have no packets in flight

below_none : (n most : ℕ) → most ≡ 0 → ltb n most ≡ false
below_none n most none = grind (arith, nat_tests)

module _ (case : SharedCase) (now : ℕ) (givens : ℕ → List GivenAck) (may : ℕ → ℕ) (flow : ℕ) (none : may flow ≡ 0) where
  never_lacks : (sent : List Sent) → lacks may givens flow sent ≡ false
  never_lacks sent = below_none _ (may flow) none

  -- a packet that is sent is of another flow
  of_another : (e : Bool) (sender : ℕ) (sent : List Sent) → eqb sender flow ≡ e → lacks may givens sender sent ≡ true
      → cond e (packet_after case now sender sent ∷ own_packets flow sent) (own_packets flow sent) ≡ own_packets flow sent
  of_another true sender sent is sends =
      absurd (let wrong : true ≡ false = sym sends ∙ ap (λ f. lacks may givens f sent) (eqb-true sender flow is) ∙ never_lacks sent in cc)
  of_another false sender sent is sends = refl

  own_if : (b : Bool) (sender : ℕ) (sent : List Sent) → lacks may givens sender sent ≡ b → own_packets flow (cond b (with_packet case now sender sent) sent) ≡ own_packets flow sent
  own_if true sender sent is = of_another (eqb sender flow) sender sent refl is
  own_if false sender sent is = refl

  own_turn : (flows : ℕ) (sent : List Sent) → own_packets flow (sending_turn case now may givens flows sent) ≡ own_packets flow sent
  own_turn zero sent = refl
  own_turn (suc sender) sent =
      let so_far = sending_turn case now may givens sender sent in
      own_if (lacks may givens sender so_far) sender so_far refl ∙ own_turn sender sent

  own_turns_if : (b : Bool) (more sent : List Sent) → own_packets flow more ≡ own_packets flow sent → own_packets flow (cond b more sent) ≡ own_packets flow sent
  own_turns_if true more sent same = same
  own_turns_if false more sent same = refl

  pub own_turns : (turns : ℕ) (sent : List Sent) → own_packets flow (turns_of case now may givens turns sent) ≡ own_packets flow sent
  own_turns zero sent = refl
  own_turns (suc turns) sent =
      let after = sending_turn case now may givens (length case.flows) sent in
      own_turns_if (some_lacks may givens (length case.flows) sent) (turns_of case now may givens turns after) sent
      (own_turns turns after ∙ own_turn (length case.flows) sent)

-- ---- before a flow's start

or_none : (a b : Bool) → b ≡ false → a || b ≡ a
or_none true b none = refl
or_none false b none = none

pub waits_for_start : (case : SharedCase) (asks : List Ask) (run : SharedLinkRun) (flow : ℕ) → WaitsForStart case asks run flow
waits_for_start case asks run flow before =
    let now = round_time case run.rounds in
    let start = (flow_link_at case flow).start_us in
    let ends = eqb (ask_at asks flow).left 0 in
    let allowance = allowance_of (flow_link_at case flow).mss (ask_at asks flow).window in
    let none : allowed case now asks flow ≡ 0 = ap (λ b. cond b 0 allowance) (or_right ends (ltb now start) (lt-ltb now start before)) in
    own_turns case now run.givens (allowed case now asks) flow none most_flight run.sent

-- ---- packets sent at a time or later

module _ (case : SharedCase) (now : ℕ) (givens : ℕ → List GivenAck) (may : ℕ → ℕ) (flow from : ℕ) (late : from ≤ now) where
  abbrev IsFrom : List Sent → Type 0
  IsFrom sent = AreSentFrom from (own_packets flow sent)

  from_one : (e : Bool) (sender : ℕ) (sent : List Sent) → IsFrom sent → AreSentFrom from (cond e (packet_after case now sender sent ∷ own_packets flow sent) (own_packets flow sent))
  from_one true sender sent before = (late, before)
  from_one false sender sent before = before

  from_if : (b : Bool) (sender : ℕ) (sent : List Sent) → IsFrom sent → IsFrom (cond b (with_packet case now sender sent) sent)
  from_if true sender sent before = from_one (eqb sender flow) sender sent before
  from_if false sender sent before = before

  from_turn : (flows : ℕ) (sent : List Sent) → IsFrom sent → IsFrom (sending_turn case now may givens flows sent)
  from_turn zero sent before = before
  from_turn (suc sender) sent before =
      let so_far = sending_turn case now may givens sender sent in
      from_if (lacks may givens sender so_far) sender so_far (from_turn sender sent before)

  from_turns_if : (b : Bool) (more sent : List Sent) → IsFrom more → IsFrom sent → IsFrom (cond b more sent)
  from_turns_if true more sent after before = after
  from_turns_if false more sent after before = before

  pub from_turns : (turns : ℕ) (sent : List Sent) → IsFrom sent → IsFrom (turns_of case now may givens turns sent)
  from_turns zero sent before = before
  from_turns (suc turns) sent before =
      let after = sending_turn case now may givens (length case.flows) sent in
      from_turns_if (some_lacks may givens (length case.flows) sent) (turns_of case now may givens turns after) sent
      (from_turns turns after (from_turn (length case.flows) sent before)) before

module _ (case : SharedCase) (flow : ℕ) where
  abbrev IsSentFromStart : List Sent → Type 0
  IsSentFromStart sent = AreSentFrom (flow_link_at case flow).start_us (own_packets flow sent)

  from_round : (asks : List Ask) (run : SharedLinkRun) → IsSentFromStart run.sent → IsSentFromStart (sent_by case asks run)
  from_round asks run sent =
      let now = round_time case run.rounds in
      let start = (flow_link_at case flow).start_us in
      elim (cases_lt now start) as (λ _. IsSentFromStart (sent_by case asks run)) [
        | inl before ↦ subst (AreSentFrom start) (sym (waits_for_start case asks run flow before)) sent
        | inr not_before ↦ from_turns case now run.givens (allowed case now asks) flow start (omega arith) most_flight run.sent sent
      ]

  from_rounds : (rounds : List (List Ask)) (run : SharedLinkRun) → IsSentFromStart run.sent → IsSentFromStart (shared_run_from case run rounds).sent
  from_rounds [] run sent = sent
  from_rounds (asks ∷ later) run sent = from_rounds later (with_round case asks run) (from_round asks run sent)

  pub sent_from_start : (rounds : List (List Ask)) → IsSentFromStart (shared_run_of case rounds).sent
  sent_from_start rounds = from_rounds rounds first_run tt

-- ---- a flow that starts at time 0

pub may_send_at_once : (case : SharedCase) (now : ℕ) (asks : List Ask) (flow : ℕ) → MaySendAtOnce case now asks flow
may_send_at_once case now asks flow at_once =
    let start = (flow_link_at case flow).start_us in
    let allowance = allowance_of (flow_link_at case flow).mss (ask_at asks flow).window in
    ap (λ b. cond b 0 allowance) (or_none (eqb (ask_at asks flow).left 0) (ltb now start) (below_none now start at_once))

since_zero : (n : ℕ) → n - 0 ≡ n
since_zero n = omega arith

pub over_link_time : (mss : ℕ) → AreOverLinkTime mss
over_link_time mss = record {
  arrivals = λ sent_at arrival marked past lost stay acked sent.
      (let ack = arrival_ack_of mss sent_at arrival marked past lost stay acked sent in
      let over : ℕ → Ack = λ time. record ack { rate_incoming = byte_rate mss acked time; rate_outgoing = byte_rate mss sent time } in
      ap over (since_zero arrival));
  timeouts = λ now past lost stay acked sent.
      (let ack = timeout_ack_of mss now past lost stay acked sent in
      let over : ℕ → Ack = λ time. record ack { rate_incoming = byte_rate mss acked time; rate_outgoing = byte_rate mss sent time } in
      ap over (since_zero now));
}
