-- A round's sending ends only when no flow has fewer packets in flight than it may have.
use Rattle.std.proofs.Common.{◌≡◌, ℕ, zero, suc, ◌+◌, ◌<◌, ◌≤◌, Bool, true, false, cond, eqb, ltb, ◌||◌, List, [], ◌∷◌, length, refl, ap, sym, ◌∙◌, subst, arith, inl, inr, length-append}
use Rattle.std.proofs.lemmas.Bool.{cases_lt, or_parts, or_from, eq-eqb, le-ltb, ltb-false}
use Rattle.ccp_base.specs.Limits.{most_flight}
use Rattle.link_model.specs.Traces.{IsTrace}
use Rattle.link_model.specs.Link.{Packet, GivenAck, Numbered, in_flight, allowance_of}
use Rattle.link_model.proofs.FlightLemmas.{in_flight-sent}
use Rattle.shared_link.specs.declared.shared_case.SharedCase.{SharedCase}
use Rattle.shared_link.specs.declared.round.Ask.{Ask}
use Rattle.shared_link.specs.Reached.{Settled}
use Rattle.shared_link.specs.SharedLaws.{NoneLacks}
use Rattle.shared_link.specs.SharedRounds.{Sent, flow_link_at, ask_at, own_packets, own_flight, packet_after, with_packet, allowed, lacks, some_lacks, sending_turn, turns_of, round_time, shared_run_of}
use Rattle.shared_link.proofs.RoundLemmas.{settled-turn, settled-run}

-- ---- how many packets a flow may have

allowed_if : (b : Bool) (allowance : ℕ) → allowance ≤ most_flight → cond b 0 allowance ≤ most_flight
allowed_if true allowance within = omega arith
allowed_if false allowance within = within

allowance_within : (mss window : ℕ) → allowance_of mss window ≤ most_flight
allowance_within mss window = omega arith

pub allowed_within : (case : SharedCase) (now : ℕ) (asks : List Ask) (flow : ℕ) → allowed case now asks flow ≤ most_flight
allowed_within case now asks flow =
    let allowance = allowance_of (flow_link_at case flow).mss (ask_at asks flow).window in
    allowed_if (eqb (ask_at asks flow).left 0 || ltb now (flow_link_at case flow).start_us) allowance (allowance_within (flow_link_at case flow).mss (ask_at asks flow).window)

-- ---- one packet, a turn, and all turns

module _ (case : SharedCase) (trace : IsTrace case.trace) (now : ℕ) (givens : ℕ → List GivenAck) (may : ℕ → ℕ) where
  -- how many packets of a flow are in flight
  abbrev count : ℕ → List Sent → ℕ
  count flow sent = length (own_flight flow sent (givens flow))

  own_one : (flow : ℕ) (sent : List Sent) (packet : Packet) → Settled case now sent givens
      → length (in_flight (packet ∷ own_packets flow sent) (givens flow)) ≡ count flow sent + 1
  own_one flow sent packet settled =
      let packets = own_packets flow sent in
      let flight = in_flight packets (givens flow) in
      let last : Numbered = record { number = length packets; packet = packet } in
      let pushed = ap length (in_flight-sent packets packet (givens flow) (settled.flows flow).takings) in
      omega (arith, pushed, length-append flight (last ∷ []))

  sees : (b : Bool) (flow : ℕ) (sent : List Sent) (packet : Packet) → Settled case now sent givens
      → count flow sent ≤ length (in_flight (cond b (packet ∷ own_packets flow sent) (own_packets flow sent)) (givens flow))
  sees true flow sent packet settled = omega (arith, own_one flow sent packet settled)
  sees false flow sent packet settled = omega arith

  -- a packet of a flow is one more of its own, and takes none of another flow away
  count_own : (flow : ℕ) (sent : List Sent) → Settled case now sent givens → count flow (with_packet case now flow sent) ≡ count flow sent + 1
  count_own flow sent settled =
      ap (λ b. length (in_flight (cond b (packet_after case now flow sent ∷ own_packets flow sent) (own_packets flow sent)) (givens flow))) (eq-eqb flow flow refl)
      ∙ own_one flow sent (packet_after case now flow sent) settled

  count_grows : (sender flow : ℕ) (sent : List Sent) → Settled case now sent givens → count flow sent ≤ count flow (with_packet case now sender sent)
  count_grows sender flow sent settled = sees (eqb sender flow) flow sent (packet_after case now sender sent) settled

  grows_if : (b : Bool) (sender flow : ℕ) (sent : List Sent) → Settled case now sent givens → count flow sent ≤ count flow (cond b (with_packet case now sender sent) sent)
  grows_if true sender flow sent settled = count_grows sender flow sent settled
  grows_if false sender flow sent settled = omega arith

  turn_grows : (flows flow : ℕ) (sent : List Sent) → Settled case now sent givens → count flow sent ≤ count flow (sending_turn case now may givens flows sent)
  turn_grows zero flow sent settled = omega arith
  turn_grows (suc sender) flow sent settled =
      let so_far = sending_turn case now may givens sender sent in
      let before = turn_grows sender flow sent settled in
      let after = grows_if (lacks may givens sender so_far) sender flow so_far (settled-turn case trace now givens may sender sent settled) in
      omega (arith, before, after)

  one_nearer : (b : Bool) (flow left : ℕ) (sent : List Sent) → Settled case now sent givens → lacks may givens flow sent ≡ b → may flow ≤ count flow sent + suc left
      → may flow ≤ count flow (cond b (with_packet case now flow sent) sent) + left
  one_nearer true flow left sent settled is near = omega (arith, near, count_own flow sent settled)
  one_nearer false flow left sent settled is near = omega (arith, ltb-false (count flow sent) (may flow) is)

  -- a turn leaves each flow that has fewer packets than it may have one nearer
  turn_nearer : (flows flow left : ℕ) (sent : List Sent) → Settled case now sent givens → flow < flows → may flow ≤ count flow sent + suc left
      → may flow ≤ count flow (sending_turn case now may givens flows sent) + left
  turn_nearer zero flow left sent settled within near = absurd (omega (arith, within))
  turn_nearer (suc sender) flow left sent settled within near =
      let so_far = sending_turn case now may givens sender sent in
      let settled_so_far = settled-turn case trace now givens may sender sent settled in
      let grown = turn_grows sender flow sent settled in
      elim (cases_lt flow sender) as (λ _. may flow ≤ count flow (sending_turn case now may givens (suc sender) sent) + left) [
        | inl before ↦
            (let nearer = turn_nearer sender flow left sent settled before near in
            let after = grows_if (lacks may givens sender so_far) sender flow so_far settled_so_far in
            omega (arith, nearer, after))
        | inr not_before ↦
            (let same : flow ≡ sender = omega (arith, within) in
            let near_now : may flow ≤ count flow so_far + suc left = omega (arith, near, grown) in
            subst (λ (f : ℕ). may f ≤ count f (sending_turn case now may givens (suc sender) sent) + left) (sym same)
            (one_nearer (lacks may givens sender so_far) sender left so_far settled_so_far refl
            (subst (λ (f : ℕ). may f ≤ count f so_far + suc left) same near_now)))
      ]

  none_lacks : (flows : ℕ) (sent : List Sent) → ((flow : ℕ) → flow < flows → may flow ≤ count flow sent) → some_lacks may givens flows sent ≡ false
  none_lacks zero sent enough = refl
  none_lacks (suc flow) sent enough =
      or_from (lacks may givens flow sent) (some_lacks may givens flow sent) (le-ltb (count flow sent) (may flow) (enough flow (omega arith)))
      (none_lacks flow sent (λ f under. enough f (omega (arith, under))))

  none_lacks_if : (b : Bool) (flows : ℕ) (more sent : List Sent) → some_lacks may givens flows sent ≡ b → some_lacks may givens flows more ≡ false
      → some_lacks may givens flows (cond b more sent) ≡ false
  none_lacks_if true flows more sent is none = none
  none_lacks_if false flows more sent is none = is

  pub none_lacks-turns : (turns : ℕ) (sent : List Sent) → Settled case now sent givens → ((flow : ℕ) → flow < length case.flows → may flow ≤ count flow sent + turns)
      → some_lacks may givens (length case.flows) (turns_of case now may givens turns sent) ≡ false
  none_lacks-turns zero sent settled near = none_lacks (length case.flows) sent (λ flow within. omega (arith, near flow within))
  none_lacks-turns (suc turns) sent settled near =
      let after = sending_turn case now may givens (length case.flows) sent in
      none_lacks_if (some_lacks may givens (length case.flows) sent) (length case.flows) (turns_of case now may givens turns after) sent refl
      (none_lacks-turns turns after (settled-turn case trace now givens may (length case.flows) sent settled)
      (λ flow within. turn_nearer (length case.flows) flow turns sent settled within (near flow within)))

-- ---- a turn in which no flow sends

module _ (case : SharedCase) (now : ℕ) (givens : ℕ → List GivenAck) (may : ℕ → ℕ) where
  none-turn : (flows : ℕ) (sent : List Sent) → some_lacks may givens flows sent ≡ false → sending_turn case now may givens flows sent ≡ sent
  none-turn zero sent none = refl
  none-turn (suc flow) sent none =
      let so_far = sending_turn case now may givens flow sent in
      let neither = or_parts (lacks may givens flow sent) (some_lacks may givens flow sent) none in
      let same = none-turn flow sent neither.1 in
      ap (λ b. cond b (with_packet case now flow so_far) so_far)
      (ap (lacks may givens flow) same ∙ neither.0) ∙ same

  pub turns-over : (turns : ℕ) (sent : List Sent) → some_lacks may givens (length case.flows) sent ≡ false → turns_of case now may givens turns sent ≡ sent
  turns-over zero sent none = refl
  turns-over (suc turns) sent none =
      ap (λ b. cond b (turns_of case now may givens turns (sending_turn case now may givens (length case.flows) sent)) sent) none

  first-if : (b : Bool) (turns : ℕ) (sent : List Sent) → some_lacks may givens (length case.flows) sent ≡ b
      → turns_of case now may givens turns (sending_turn case now may givens (length case.flows) sent)
      ≡ cond b (turns_of case now may givens turns (sending_turn case now may givens (length case.flows) sent)) sent
  first-if true turns sent is = refl
  first-if false turns sent is = ap (turns_of case now may givens turns) (none-turn (length case.flows) sent is) ∙ turns-over turns sent is

  -- a turn is the first of the turns, whether some flow sends or none
  pub turns-first : (turns : ℕ) (sent : List Sent)
      → turns_of case now may givens turns (sending_turn case now may givens (length case.flows) sent) ≡ turns_of case now may givens (suc turns) sent
  turns-first turns sent = first-if (some_lacks may givens (length case.flows) sent) turns sent refl

pub none_lacks-round : (case : SharedCase) (trace : IsTrace case.trace) (asks : List Ask) (rounds : List (List Ask)) → NoneLacks case asks (shared_run_of case rounds)
none_lacks-round case trace asks rounds =
    let run = shared_run_of case rounds in
    none_lacks-turns case trace (round_time case run.rounds) run.givens (allowed case (round_time case run.rounds) asks) most_flight run.sent (settled-run case trace rounds)
    (λ flow within. omega (arith, allowed_within case (round_time case run.rounds) asks flow))
