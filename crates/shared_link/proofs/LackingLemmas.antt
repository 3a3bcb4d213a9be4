-- The list of the flows that have fewer packets in flight than they may have, as it is made and as these flows send.
use Rattle.std.proofs.Common.{◌≡◌, ◌≢◌, ℕ, zero, suc, ◌+◌, ◌<◌, ◌≤◌, Bool, true, false, cond, ltb, List, [], ◌∷◌, ◌++◌, length, get_or, set, refl, ap, sym, ◌∙◌, subst, arith, inl, inr, get_or-set_other, get_or-set_same}
use Rattle.std.proofs.lemmas.Bool.{cases_lt, cases_eq, lt-ltb, le-ltb, or_from}
use Rattle.std.proofs.lemmas.List.{length-set, get_or_append_left, get_or_push}
use Rattle.link_model.specs.Link.{GivenAck}
use Rattle.link_model.specs.LinkMoves.{flight_count}
use Rattle.shared_link.specs.declared.flow_traffic.FlowTraffic.{FlowTraffic}
use Rattle.shared_link.specs.declared.sending.Sending.{Sending}
use Rattle.shared_link.specs.declared.shared_case.SharedCase.{SharedCase}
use Rattle.shared_link.specs.declared.round.Ask.{Ask}
use Rattle.shared_link.specs.SharedRounds.{Sent, flow_link_at, own_packets, own_flight, with_packet, allowed, lacks, some_lacks, sending_turn}
use Rattle.shared_link.specs.SharedStanding.{FlowStanding}
use Rattle.shared_link.specs.Kept.{IsSending, FlowsFollow, Follows, AreReady, ArePrepared}
use Rattle.shared_link.specs.KeptFlows.{MaySend, HasEnough, IsPlace, AreLacking, SendsOne}
use Rattle.shared_link.proofs.KeptLemmas.{kept-count}
use Rattle.shared_link.proofs.FlowsLemmas.{some_of}

at_first : (count place : ℕ) → place < count → IsPlace 0 0 count place
at_first count place under = (under, λ from. from)

pub lacking-none : (flows : List FlowTraffic) → AreLacking flows 0 [] 0 0 0
lacking-none flows = record {
  within = λ place is. absurd (omega (arith, is.0));
  rises = λ place later is is_later order. absurd (omega (arith, is.0));
  each = λ place other is. absurd (omega (arith, is.0));
  others = λ flow other inside apart. absurd (omega (arith, inside));
}

-- ---- one more flow is looked at

module _ (flows : List FlowTraffic) (first : ℕ) (lacking : List ℕ) where
  -- it isn't listed
  pub lacking-pass : (count : ℕ) → AreLacking flows first lacking 0 0 count → ((other : FlowTraffic) → HasEnough (get_or flows first other))
      → AreLacking flows (first + 1) lacking 0 0 count
  lacking-pass count are enough = record {
    within = λ place is. omega (arith, are.within place is);
    rises = are.rises;
    each = are.each;
    others = λ flow other inside apart.
        elim (cases_lt flow first) as (λ _. HasEnough (get_or flows flow other)) [
          | inl before ↦ are.others flow other before apart
          | inr not_before ↦ (let same : first ≡ flow = omega arith in subst (λ (k : ℕ). HasEnough (get_or flows k other)) same (enough other))
        ];
  }

  abbrev pushed : List ℕ
  pushed = lacking ++ first ∷ []

  before_same : (place : ℕ) → place < length lacking → get_or pushed place 0 ≡ get_or lacking place 0
  before_same place before = get_or_append_left lacking (first ∷ []) 0 place before

  last_is : (place : ℕ) → length lacking ≡ place → get_or pushed place 0 ≡ first
  last_is place last = get_or_push lacking first 0 place last

  -- it is listed
  pub lacking-push : AreLacking flows first lacking 0 0 (length lacking) → ((other : FlowTraffic) → MaySend (get_or flows first other))
      → AreLacking flows (first + 1) (lacking ++ first ∷ []) 0 0 (length lacking + 1)
  lacking-push are may = record {
    within = λ place is.
        elim (cases_lt place (length lacking)) as (λ _. get_or pushed place 0 < first + 1) [
          | inl before ↦ omega (arith, before_same place before, are.within place (at_first (length lacking) place before))
          | inr not_before ↦ (let last : length lacking ≡ place = omega (arith, is.0) in omega (arith, last_is place last))
        ];
    rises = λ place later is is_later order.
        (let before : place < length lacking = omega (arith, is_later.0) in
        elim (cases_lt later (length lacking)) as (λ _. get_or pushed place 0 < get_or pushed later 0) [
          | inl inside ↦
              omega (arith, before_same place before, before_same later inside, are.rises place later (at_first (length lacking) place before) (at_first (length lacking) later inside) order)
          | inr outside ↦
              (let last : length lacking ≡ later = omega (arith, is_later.0) in
              omega (arith, before_same place before, last_is later last, are.within place (at_first (length lacking) place before)))
        ]);
    each = λ place other is.
        elim (cases_lt place (length lacking)) as (λ _. MaySend (get_or flows (get_or pushed place 0) other)) [
          | inl before ↦
              subst (λ (k : ℕ). MaySend (get_or flows k other)) (sym (before_same place before)) (are.each place other (at_first (length lacking) place before))
          | inr not_before ↦
              (let last : length lacking ≡ place = omega (arith, is.0) in
              subst (λ (k : ℕ). MaySend (get_or flows k other)) (sym (last_is place last)) (may other))
        ];
    others = λ flow other inside apart.
        elim (cases_lt flow first) as (λ _. HasEnough (get_or flows flow other)) [
          | inl before ↦
              are.others flow other before
              (λ place is same. apart place (at_first (length lacking + 1) place (omega (arith, is.0))) (before_same place is.0 ∙ same))
          | inr not_before ↦
              (let same : first ≡ flow = omega (arith, inside) in
              absurd (apart (length lacking) (at_first (length lacking + 1) (length lacking) (omega arith)) (last_is (length lacking) refl ∙ same)))
        ];
  }

-- ---- the flow at a place sends, and moves to the end of those that were kept

module _ (flows after : List FlowTraffic) (first : ℕ) (lacking : List ℕ) (kept place count : ℕ) (are : AreLacking flows first lacking kept place count)
    (order : kept ≤ place) (inside : place < count) (places : count ≤ length lacking)
    (others : (at : ℕ) (other : FlowTraffic) → at ≢ get_or lacking place 0 → get_or after at other ≡ get_or flows at other) where
  abbrev own : ℕ
  own = get_or lacking place 0

  abbrev moved : List ℕ
  moved = set lacking kept (get_or lacking place 0)

  here : IsPlace kept place count place
  here = (inside, λ above. omega arith)

  -- a place that was looked at before, or comes later
  abbrev IsOther : ℕ → Type 0
  IsOther at = IsPlace kept (place + 1) count at

  was : (at : ℕ) → IsOther at → IsPlace kept place count at
  was at is = (is.0, λ above. (let later : place + 1 ≤ at = is.1 above in omega arith))

  is_other : (at : ℕ) → IsPlace kept place count at → at ≢ place → IsOther at
  is_other at is apart = (is.0, λ above. (let from : place ≤ at = is.1 above in omega (arith, apart)))

  not_kept : (at : ℕ) → IsOther at → at ≡ kept → ⊥
  not_kept at is same = (let above : kept ≤ at = omega (arith, same) in let later : place + 1 ≤ at = is.1 above in omega (arith, same))

  stays : (at : ℕ) → IsOther at → get_or moved at 0 ≡ get_or lacking at 0
  stays at is = get_or-set_other lacking kept at own 0 (not_kept at is)

  put_own : get_or moved kept 0 ≡ own
  put_own = get_or-set_same lacking kept own 0 (omega arith)

  -- its flow isn't the one that sends
  not_own : (at : ℕ) → IsOther at → get_or lacking at 0 ≡ own → ⊥
  not_own at is same =
      elim (cases_lt at place) as (λ _. ⊥) [
        | inl before ↦ omega (arith, are.rises at place (was at is) here before, same)
        | inr not_before ↦
            (let above : kept ≤ at = omega arith in
            let later : place + 1 ≤ at = is.1 above in
            omega (arith, are.rises place at here (was at is) (omega arith), same))
      ]

  may_still : (at : ℕ) (other : FlowTraffic) → IsOther at → MaySend (get_or after (get_or moved at 0) other)
  may_still at other is =
      subst (λ (k : ℕ). MaySend (get_or after k other)) (sym (stays at is))
      (subst (λ (t : FlowTraffic). MaySend t) (sym (others (get_or lacking at 0) other (not_own at is))) (are.each at other (was at is)))

  -- what holds of a flow that isn't listed now, and isn't the one that sends
  enough_still : (flow : ℕ) (other : FlowTraffic) → flow < first → flow ≢ own → ((at : ℕ) → IsOther at → get_or moved at 0 ≢ flow) → HasEnough (get_or after flow other)
  enough_still flow other below other_flow apart =
      subst (λ (t : FlowTraffic). HasEnough t) (sym (others flow other other_flow))
      (are.others flow other below
      (λ at is same.
      elim (cases_eq at place) as (λ _. ⊥) [
        | inl here_again ↦ other_flow (sym same ∙ ap (λ k. get_or lacking k 0) here_again)
        | inr elsewhere ↦ (let is_now = is_other at is elsewhere in apart at is_now (stays at is_now ∙ same))
      ]))

  -- it has enough, and leaves the list
  lacking-left : ((other : FlowTraffic) → HasEnough (get_or after own other)) → AreLacking after first moved kept (place + 1) count
  lacking-left enough = record {
    within = λ at is. omega (arith, stays at is, are.within at (was at is));
    rises = λ at later is is_later ord. omega (arith, stays at is, stays later is_later, are.rises at later (was at is) (was later is_later) ord);
    each = may_still;
    others = λ flow other below apart.
        elim (cases_eq flow own) as (λ _. HasEnough (get_or after flow other)) [
          | inl same ↦ subst (λ (k : ℕ). HasEnough (get_or after k other)) (sym same) (enough other)
          | inr other_flow ↦ enough_still flow other below other_flow apart
        ];
  }

  -- a place of the list that has one flow more
  abbrev IsMore : ℕ → Type 0
  IsMore at = IsPlace (kept + 1) (place + 1) count at

  is_old : (at : ℕ) → IsMore at → at ≢ kept → IsOther at
  is_old at is apart = (is.0, λ above. (let past : kept + 1 ≤ at = omega (arith, apart) in is.1 past))

  is_more : (at : ℕ) → IsOther at → IsMore at
  is_more at is = (is.0, λ past. is.1 (omega arith))

  own_there : (at : ℕ) → at ≡ kept → get_or moved at 0 ≡ own
  own_there at same = ap (λ k. get_or moved k 0) same ∙ put_own

  rises_more : (at later : ℕ) → IsMore at → IsMore later → at < later → get_or moved at 0 < get_or moved later 0
  rises_more at later is is_later ord =
      elim (cases_eq at kept) as (λ _. get_or moved at 0 < get_or moved later 0) [
        | inl same ↦
            (let old : IsOther later = is_old later is_later (λ e. omega (arith, same, e)) in
            let past : place + 1 ≤ later = old.1 (omega (arith, same)) in
            omega (arith, own_there at same, stays later old, are.rises place later here (was later old) (omega arith)))
        | inr apart ↦
            (let old = is_old at is apart in
            elim (cases_eq later kept) as (λ _. get_or moved at 0 < get_or moved later 0) [
              | inl same ↦ omega (arith, stays at old, own_there later same, are.rises at place (was at old) here (omega (arith, same)))
              | inr also ↦
                  (let old_later = is_old later is_later also in
                  omega (arith, stays at old, stays later old_later, are.rises at later (was at old) (was later old_later) ord))
            ])
      ]

  -- it may send more, and stays in the list
  lacking-kept : ((other : FlowTraffic) → MaySend (get_or after own other)) → AreLacking after first moved (kept + 1) (place + 1) count
  lacking-kept may = record {
    within = λ at is.
        elim (cases_eq at kept) as (λ _. get_or moved at 0 < first) [
          | inl same ↦ omega (arith, own_there at same, are.within place here)
          | inr apart ↦ (let old = is_old at is apart in omega (arith, stays at old, are.within at (was at old)))
        ];
    rises = rises_more;
    each = λ at other is.
        elim (cases_eq at kept) as (λ _. MaySend (get_or after (get_or moved at 0) other)) [
          | inl same ↦ subst (λ (k : ℕ). MaySend (get_or after k other)) (sym (own_there at same)) (may other)
          | inr apart ↦ may_still at other (is_old at is apart)
        ];
    others = λ flow other below apart.
        elim (cases_eq flow own) as (λ _. HasEnough (get_or after flow other)) [
          | inl same ↦ absurd (apart kept (omega arith, λ past. omega arith) (put_own ∙ sym same))
          | inr other_flow ↦ enough_still flow other below other_flow (λ at is. apart at (is_more at is))
        ];
  }

  pub lacking-turned : (still : Bool) → (still ≡ true → (other : FlowTraffic) → MaySend (get_or after (get_or lacking place 0) other))
      → (still ≡ false → (other : FlowTraffic) → HasEnough (get_or after (get_or lacking place 0) other))
      → AreLacking after first (set lacking kept (get_or lacking place 0)) (cond still (kept + 1) kept) (place + 1) count
  lacking-turned true may enough = lacking-kept (may refl)
  lacking-turned false may enough = lacking-left (enough refl)

-- the turn is over
pub lacking-over : (flows : List FlowTraffic) (first : ℕ) (lacking : List ℕ) (kept place count : ℕ) → kept ≤ place → place ≤ count → count ≤ place → AreLacking flows first lacking kept place count
    → AreLacking flows first lacking 0 0 kept
lacking-over flows first lacking kept place count order inside over are =
    let was : (at : ℕ) → IsPlace 0 0 kept at → IsPlace kept place count at = λ at is. (omega (arith, is.0), λ above. omega (arith, is.0)) in
    let now : (at : ℕ) → IsPlace kept place count at → IsPlace 0 0 kept at = λ at is. at_first kept at
    (elim (cases_lt at kept) as (λ _. at < kept) [ inl before ↦ before | inr not_before ↦ (let from : place ≤ at = is.1 not_before in omega (arith, is.0)) ]) in
    record {
      within = λ at is. are.within at (was at is);
      rises = λ at later is is_later ord. are.rises at later (was at is) (was later is_later) ord;
      each = λ at other is. are.each at other (was at is);
      others = λ flow other below apart. are.others flow other below (λ at is. apart at (now at is));
    }

-- ---- whether a flow lacks packets is what its traffic says

module _ (case : SharedCase) (rounds now : ℕ) (asks : List Ask) (flows : List FlowTraffic) (ready : AreReady case rounds flows) (prepared : ArePrepared case now asks (length flows) flows)
    (sent : List Sent) (givens : ℕ → List GivenAck) (follows : FlowsFollow case flows sent givens) where
  tells : (flow : ℕ) (other : FlowTraffic) → flow < length flows
      → ltb (get_or flows flow other).in_flight (get_or flows flow other).allowance ≡ lacks (allowed case now asks) givens flow sent
  tells flow other within =
      let t = get_or flows flow other in
      let count : t.in_flight ≡ length (own_flight flow sent (givens flow)) =
      (ready.each flow other within).kept.count
      ∙ ap (λ (s : FlowStanding). flight_count s.flight.arrivals s.flight.lost) (follows flow other within)
      ∙ kept-count case.trace (flow_link_at case flow) (own_packets flow sent) (givens flow) in
      ap (λ n. ltb n t.allowance) count ∙ ap (ltb (length (own_flight flow sent (givens flow)))) (prepared flow other within).allowance

  pub may_send-lacks : (flow : ℕ) → flow < length flows → ((other : FlowTraffic) → MaySend (get_or flows flow other)) → lacks (allowed case now asks) givens flow sent ≡ true
  may_send-lacks flow within may =
      let other = some_of flows flow within in
      let t = get_or flows flow other in
      sym (tells flow other within) ∙ lt-ltb t.in_flight t.allowance (may other)

  pub has_enough-lacks : (flow : ℕ) → flow < length flows → ((other : FlowTraffic) → HasEnough (get_or flows flow other)) → lacks (allowed case now asks) givens flow sent ≡ false
  has_enough-lacks flow within enough =
      let other = some_of flows flow within in
      let t = get_or flows flow other in
      sym (tells flow other within) ∙ le-ltb t.in_flight t.allowance (enough other)

  -- if none is listed, none lacks
  pub none_listed : (lacking : List ℕ) → AreLacking flows (length flows) lacking 0 0 0 → (first : ℕ) → first ≤ length flows → some_lacks (allowed case now asks) givens first sent ≡ false
  none_listed lacking are zero inside = refl
  none_listed lacking are (suc flow) inside =
      or_from (lacks (allowed case now asks) givens flow sent) (some_lacks (allowed case now asks) givens flow sent)
      (has_enough-lacks flow (omega arith) (λ other. are.others flow other (omega arith) (λ place is same. omega (arith, is.0))))
      (none_listed lacking are flow (omega arith))

-- ---- a turn

-- flows that don't lack packets don't send
turn-stretch : (case : SharedCase) (now : ℕ) (may : ℕ → ℕ) (givens : ℕ → List GivenAck) (sent : List Sent) (from bound : ℕ) → from ≤ bound
    → ((flow : ℕ) → from ≤ flow → flow < bound → lacks may givens flow (sending_turn case now may givens from sent) ≡ false)
    → sending_turn case now may givens bound sent ≡ sending_turn case now may givens from sent
turn-stretch case now may givens sent from zero order none =
    let same : zero ≡ from = omega arith in ap (λ k. sending_turn case now may givens k sent) same
turn-stretch case now may givens sent from (suc bound) order none =
    elim (cases_lt bound from) as (λ _. sending_turn case now may givens (suc bound) sent ≡ sending_turn case now may givens from sent) [
      | inl past ↦ (let same : suc bound ≡ from = omega arith in ap (λ k. sending_turn case now may givens k sent) same)
      | inr not_past ↦
          (let so_far = sending_turn case now may givens bound sent in
          let same = turn-stretch case now may givens sent from bound not_past (λ flow above under. none flow above (omega arith)) in
          ap (λ b. cond b (with_packet case now bound so_far) so_far) (ap (lacks may givens bound) same ∙ none bound not_past (omega arith)) ∙ same)
    ]

-- the flows below `bound` had their turn, if those at the first `place` places of the list had theirs
pub record IsReached (case : SharedCase) (listed : List ℕ) (place count bound : ℕ) : Type 0 where
  pub inside : bound ≤ length case.flows
  pub past : (at : ℕ) → at < place → get_or listed at 0 < bound
  pub ahead : (at : ℕ) → place ≤ at → at < count → bound ≤ get_or listed at 0

kept_order : (still : Bool) (kept place : ℕ) → kept ≤ place → cond still (kept + 1) kept ≤ place + 1
kept_order true kept place order = omega arith
kept_order false kept place order = omega arith

-- a turn in which the flows at the first `place` places of the list have sent
pub record TurnSoFar (case : SharedCase) (asks : List Ask) (old : List FlowTraffic) (from : Sending) (listed : List ℕ) (flows : List FlowTraffic) (now : Sending) (lacking : List ℕ)
    (kept place count : ℕ) : Type 0 where
  pub order : kept ≤ place
  pub inside : place ≤ count
  pub places : count ≤ length lacking
  pub ready : AreReady case now.rounds flows
  pub prepared : ArePrepared case now.now asks (length flows) flows
  pub sending : IsSending case.trace now
  pub same_rounds : now.rounds ≡ from.rounds
  pub same_time : now.now ≡ from.now
  pub list : AreLacking flows (length flows) lacking kept place count
  pub ahead : (at : ℕ) → place ≤ at → at < count → get_or lacking at 0 ≡ get_or listed at 0
  pub follows : (bound : ℕ) → IsReached case listed place count bound → (sent : List Sent) (givens : ℕ → List GivenAck) → Follows case old from sent givens
      → Follows case flows now (sending_turn case from.now (allowed case from.now asks) givens bound sent) givens

module _ (case : SharedCase) (asks : List Ask) (old : List FlowTraffic) (from : Sending) (listed : List ℕ) (count : ℕ) (are : AreLacking old (length old) listed 0 0 count) where
  pub turn-begins : count ≤ length listed → AreReady case from.rounds old → ArePrepared case from.now asks (length old) old → IsSending case.trace from
      → TurnSoFar case asks old from listed old from listed 0 0 count
  turn-begins places ready prepared sending = record {
    order = omega arith;
    inside = omega arith;
    places = places;
    ready = ready;
    prepared = prepared;
    sending = sending;
    same_rounds = refl;
    same_time = refl;
    list = are;
    ahead = λ at above under. refl;
    follows = λ bound reached sent givens follows.
        subst (λ s. Follows case old from s givens)
        (sym
        (turn-stretch case from.now (allowed case from.now asks) givens sent 0 bound (omega arith)
        (λ flow above under.
        (let within : flow < length old = omega (arith, reached.inside, ready.count) in
        has_enough-lacks case from.rounds from.now asks old ready prepared sent givens follows.traffic flow within
        (λ other. are.others flow other within (λ at is same. omega (arith, reached.ahead at (omega arith) is.0, same)))))))
        follows;
  }

  module _ (flows : List FlowTraffic) (now : Sending) (lacking : List ℕ) (kept place : ℕ) (turn : TurnSoFar case asks old from listed flows now lacking kept place count) where
    -- at the end
    pub turn-ends : count ≤ place → (old_count : length old ≡ length case.flows) → (sent : List Sent) (givens : ℕ → List GivenAck) → Follows case old from sent givens
        → Follows case flows now (sending_turn case from.now (allowed case from.now asks) givens (length case.flows) sent) givens
    turn-ends over old_count sent givens follows =
        turn.follows (length case.flows)
        (record {
          inside = omega arith;
          past = λ at below. omega (arith, are.within at (at_first count at (omega (arith, turn.inside))), old_count);
          ahead = λ at above under. absurd (omega arith);
        })
        sent givens follows

    -- the flow at the next place sends
    module _ (inside : place < count) (after : List FlowTraffic) (later : Sending)
        (others : (at : ℕ) (other : FlowTraffic) → at ≢ get_or lacking place 0 → get_or after at other ≡ get_or flows at other) where
      abbrev sender : ℕ
      sender = get_or lacking place 0

      listed_there : get_or lacking place 0 ≡ get_or listed place 0
      listed_there = turn.ahead place (omega arith) inside

      there : IsPlace kept place count place
      there = (inside, λ above. omega arith)

      reached_sender : IsReached case listed place count sender
      reached_sender = record {
        inside = omega (arith, turn.list.within place there, turn.ready.count);
        past = λ at below. omega (arith, listed_there, are.rises at place (at_first count at (omega (arith, inside))) (at_first count place inside) below);
        ahead = λ at above under.
            elim (cases_eq at place) as (λ _. sender ≤ get_or listed at 0) [
              | inl same ↦ omega (arith, listed_there, ap (λ k. get_or listed k 0) same)
              | inr apart ↦ omega (arith, listed_there, are.rises place at (at_first count place inside) (at_first count at under) (omega (arith, apart)))
            ];
      }

      -- the flows after it, up to the next one of the list, have enough
      stretch_enough : (bound : ℕ) → IsReached case listed (place + 1) count bound → (flow : ℕ) (other : FlowTraffic) → suc sender ≤ flow → flow < bound → HasEnough (get_or after flow other)
      stretch_enough bound reached flow other above under =
          let apart : flow ≢ sender = omega arith in
          subst (λ (t : FlowTraffic). HasEnough t) (sym (others flow other apart))
          (turn.list.others flow other (omega (arith, reached.inside, turn.ready.count))
          (λ at is same.
          elim (cases_lt at place) as (λ _. ⊥) [
            | inl before ↦ omega (arith, turn.list.rises at place is there before, same)
            | inr not_before ↦
                elim (cases_eq at place) as (λ _. ⊥) [
                  | inl here_again ↦ apart (sym same ∙ ap (λ k. get_or lacking k 0) here_again)
                  | inr elsewhere ↦ omega (arith, turn.ahead at not_before is.0, reached.ahead at (omega (arith, elsewhere)) is.0, same)
                ]
          ]))

      pub turn-goes_on : (still : Bool) → AreReady case later.rounds after → ArePrepared case later.now asks (length after) after → IsSending case.trace later
          → later.rounds ≡ now.rounds → later.now ≡ now.now → length after ≡ length flows → SendsOne case asks (get_or lacking place 0) flows now after later
          → (still ≡ true → (other : FlowTraffic) → MaySend (get_or after (get_or lacking place 0) other))
          → (still ≡ false → (other : FlowTraffic) → HasEnough (get_or after (get_or lacking place 0) other))
          → TurnSoFar case asks old from listed after later (set lacking kept (get_or lacking place 0)) (cond still (kept + 1) kept) (place + 1) count
      turn-goes_on still ready prepared sending same_rounds same_time same_count sends may enough = record {
        order = kept_order still kept place turn.order;
        inside = omega arith;
        places = omega (arith, turn.places, length-set lacking kept (get_or lacking place 0));
        ready = ready;
        prepared = prepared;
        sending = sending;
        same_rounds = same_rounds ∙ turn.same_rounds;
        same_time = same_time ∙ turn.same_time;
        list =
            subst (λ (n : ℕ). AreLacking after n (set lacking kept (get_or lacking place 0)) (cond still (kept + 1) kept) (place + 1) count) (sym same_count)
            (lacking-turned flows after (length flows) lacking kept place count turn.list turn.order inside turn.places others still may enough);
        ahead = λ at above under.
            (let apart : at ≢ kept = omega (arith, turn.order) in get_or-set_other lacking kept at (get_or lacking place 0) 0 apart ∙ turn.ahead at (omega arith) under);
        follows = λ bound reached sent givens follows.
            (let may_have = allowed case from.now asks in
            let so_far = sending_turn case from.now may_have givens sender sent in
            let more = sending_turn case from.now may_have givens (suc sender) sent in
            let sent_now = sends so_far givens (turn.follows sender reached_sender sent givens follows) in
            let followed : Follows case after later more givens =
            subst (λ (n : ℕ). Follows case after later (cond (lacks (allowed case n asks) givens sender so_far) (with_packet case n sender so_far) so_far) givens) turn.same_time sent_now in
            let time = same_time ∙ turn.same_time in
            subst (λ s. Follows case after later s givens)
            (sym
            (turn-stretch case from.now may_have givens sent (suc sender) bound (omega (arith, reached.past place (omega arith), listed_there))
            (λ flow above under.
            ap (λ n. lacks (allowed case n asks) givens flow more) (sym time)
            ∙ has_enough-lacks case later.rounds later.now asks after ready prepared more givens followed.traffic flow (omega (arith, reached.inside, ready.count))
            (λ other. stretch_enough bound reached flow other above under))))
            followed);
      }
