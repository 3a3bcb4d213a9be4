-- The flows of a shared link, of which one after the other is changed.
use Rattle.std.proofs.Common.{◌≡◌, ◌≢◌, ℕ, zero, suc, ◌+◌, ◌-◌, ◌<◌, ◌≤◌, cond, max, List, [], ◌∷◌, ◌++◌, length, get_or, set, ap, sym, ◌∙◌, subst, arith, inl, inr, get_or-set_other, get_or-set_same, refl}
use Rattle.std.proofs.lemmas.Bool.{cases_lt, eq-eqb, ne_eqb}
use Rattle.std.proofs.lemmas.List.{length-set, get_or_append_left}
use Rattle.std.proofs.Math.Seq.{get_or-append_seam}
use Rattle.ccp_base.specs.declared.ack.Ack.{Ack}
use Rattle.link_model.specs.Traces.{IsTrace}
use Rattle.link_model.specs.Chances.{chance_number, first_chance}
use Rattle.link_model.specs.Link.{Fate, GivenAck, chance_past, chances_past, waiting, fate_of}
use Rattle.link_model.proofs.ChanceLemmas.{first_chance_max}
use Rattle.shared_link.specs.declared.flow_traffic.FlowTraffic.{FlowTraffic}
use Rattle.shared_link.specs.declared.sending.Sending.{Sending}
use Rattle.shared_link.specs.declared.shared_case.SharedCase.{SharedCase}
use Rattle.shared_link.specs.declared.round.Ask.{Ask}
use Rattle.shared_link.specs.declared.round.Counts.{Counts}
use Rattle.shared_link.specs.SharedRounds.{Sent, flow_link_at, ask_at, every_packet, own_packets, packet_after, with_packet, with_givens, acks_of_givens, each_flow, sum_over_flows}
use Rattle.shared_link.specs.SharedStanding.{flow_standing}
use Rattle.shared_link.specs.Reached.{Settled}
use Rattle.shared_link.specs.Kept.{flow_under_way, AnsweredFlow, answered_all, with_one, fate_now, IsSending, Follows, IsFlowReady, AreReady, IsPrepared, ArePrepared, acks_before, AnsweredTo}
use Rattle.shared_link.proofs.KeptLemmas.{kept-sent, kept-answers}
use Rattle.shared_link.proofs.RoundLemmas.{settled-packet}

-- what holds of one flow that is changed, and of all others as before
pub each_set : (P : ℕ → FlowTraffic → Type 0) (flows : List FlowTraffic) (at : ℕ) (traffic : FlowTraffic) → at < length flows
    → ((flow : ℕ) (other : FlowTraffic) → flow < length flows → flow ≢ at → P flow (get_or flows flow other)) → P at traffic
    → (flow : ℕ) (other : FlowTraffic) → flow < length flows → P flow (get_or (set flows at traffic) flow other)
each_set P flows at traffic within all here flow other inside =
    elim (cases_lt flow at) as (λ _. P flow (get_or (set flows at traffic) flow other)) [
      | inl below ↦
          (let apart : flow ≢ at = omega arith in
          subst (λ (t : FlowTraffic). P flow t) (sym (get_or-set_other flows at flow traffic other apart)) (all flow other inside apart))
      | inr not_below ↦
          elim (cases_lt at flow) as (λ _. P flow (get_or (set flows at traffic) flow other)) [
            | inl above ↦
                (let apart : flow ≢ at = omega arith in
                subst (λ (t : FlowTraffic). P flow t) (sym (get_or-set_other flows at flow traffic other apart)) (all flow other inside apart))
            | inr not_above ↦
                (let same : at ≡ flow = omega arith in
                subst (λ (k : ℕ). P k (get_or (set flows at traffic) k other)) same
                (subst (λ (t : FlowTraffic). P at t) (sym (get_or-set_same flows at traffic other within)) here))
          ]
    ]

-- what holds of each flow, if one is put after all others
pub each_push : (P : ℕ → FlowTraffic → Type 0) (flows : List FlowTraffic) (last : FlowTraffic) → ((flow : ℕ) (other : FlowTraffic) → flow < length flows → P flow (get_or flows flow other)) → P (length flows) last
    → (flow : ℕ) (other : FlowTraffic) → flow < length flows + 1 → P flow (get_or (flows ++ last ∷ []) flow other)
each_push P flows last all here flow other inside =
    elim (cases_lt flow (length flows)) as (λ _. P flow (get_or (flows ++ last ∷ []) flow other)) [
      | inl below ↦ subst (λ (t : FlowTraffic). P flow t) (sym (get_or_append_left flows (last ∷ []) other flow below)) (all flow other below)
      | inr not_below ↦
          (let same : length flows ≡ flow = omega (arith, inside) in
          subst (λ (k : ℕ). P k (get_or (flows ++ last ∷ []) k other)) same
          (subst (λ (t : FlowTraffic). P (length flows) t) (sym (get_or-append_seam flows last [] other)) here))
    ]

pub ready-set : (case : SharedCase) (rounds : ℕ) (flows : List FlowTraffic) (at : ℕ) (traffic : FlowTraffic) → at < length flows → AreReady case rounds flows → IsFlowReady (flow_link_at case at) rounds traffic
    → AreReady case rounds (set flows at traffic)
ready-set case rounds flows at traffic within ready here = record {
  count = length-set flows at traffic ∙ ready.count;
  each = λ flow other inside.
      each_set (λ f t. IsFlowReady (flow_link_at case f) rounds t) flows at traffic within (λ f o i apart. ready.each f o i) here flow other (omega (arith, inside, length-set flows at traffic));
}

pub prepared-set : (case : SharedCase) (now : ℕ) (asks : List Ask) (bound more : ℕ) (flows : List FlowTraffic) (at : ℕ) (traffic : FlowTraffic) → at < length flows → more ≤ length flows → ArePrepared case now asks bound flows
    → ((flow : ℕ) → flow < more → flow ≢ at → flow < bound) → IsPrepared case now asks at traffic
    → ArePrepared case now asks more (set flows at traffic)
prepared-set case now asks bound more flows at traffic within most prepared before here flow other below =
    each_set (λ f t. f < more → IsPrepared case now asks f t) flows at traffic within
    (λ f o i apart under. prepared f o (before f under apart)) (λ under. here) flow other (omega arith) below

-- ---- one more packet

module _ (case : SharedCase) (trace : IsTrace case.trace) (flows : List FlowTraffic) (sending : Sending) (sent : List Sent) (givens : ℕ → List GivenAck) (follows : Follows case flows sending sent givens)
    (is : IsSending case.trace sending) (at : ℕ) (within : at < length flows) (old : FlowTraffic) (old_is : old ≡ get_or flows at old) where
  stands : flow_under_way old ≡ flow_standing case.trace (flow_link_at case at) (own_packets at sent) (givens at)
  stands = ap flow_under_way old_is ∙ follows.traffic at old within

  fate : Fate
  fate = (packet_after case sending.now at sent).fate

  fate_same : fate_now case.trace (flow_link_at case at) case.queue old.sent sending ≡ (packet_after case sending.now at sent).fate
  fate_same =
      let link = flow_link_at case at in
      let packets = every_packet sent in
      let past = chances_past packets in
      let sent_is : old.sent ≡ length (own_packets at sent) = ap (λ s. s.sent) stands in
      let waits : sending.queue.waiting ≡ waiting case.trace sending.now packets =
      is.waiting ∙ ap (λ n. n - first_chance case.trace (sending.now + 1) 0) follows.chance ∙ sym (follows.settled.queued sending.now (omega arith)) in
      let own : chance_number case.trace sending.queue.next ≡ first_chance case.trace sending.now past =
      is.next ∙ ap (λ n. max n (first_chance case.trace sending.now 0)) follows.chance ∙ sym (first_chance_max case.trace trace sending.now past) in
      ap (λ n. fate_of link.losses case.queue link.mark n sending.queue.waiting (chance_number case.trace sending.queue.next)) sent_is
      ∙ ap (λ q. fate_of link.losses case.queue link.mark (length (own_packets at sent)) q (chance_number case.trace sending.queue.next)) waits
      ∙ ap (fate_of link.losses case.queue link.mark (length (own_packets at sent)) (waiting case.trace sending.now packets)) own

  -- what each flow keeps
  others_follow : (flow : ℕ) (other : FlowTraffic) → flow < length flows → flow ≢ at
      → flow_under_way (get_or flows flow other) ≡ flow_standing case.trace (flow_link_at case flow) (own_packets flow (with_packet case sending.now at sent)) (givens flow)
  others_follow flow other inside apart =
      follows.traffic flow other inside
      ∙ ap (λ b. flow_standing case.trace (flow_link_at case flow) (cond b (packet_after case sending.now at sent ∷ own_packets flow sent) (own_packets flow sent)) (givens flow)) (sym (ne_eqb at flow (λ same. apart (sym same))))

  own_follows : (new : FlowTraffic) → flow_under_way new ≡ with_one case.trace (flow_link_at case at).delay_us sending.now (fate_now case.trace (flow_link_at case at) case.queue old.sent sending) (flow_under_way old)
      → flow_under_way new ≡ flow_standing case.trace (flow_link_at case at) (own_packets at (with_packet case sending.now at sent)) (givens at)
  own_follows new standing =
      let link = flow_link_at case at in
      standing
      ∙ ap (λ f. with_one case.trace link.delay_us sending.now f (flow_under_way old)) fate_same
      ∙ ap (with_one case.trace link.delay_us sending.now (packet_after case sending.now at sent).fate) stands
      ∙ sym (kept-sent case.trace trace link (chances_past (every_packet sent)) (own_packets at sent) (givens at) (follows.settled.flows at) (packet_after case sending.now at sent))
      ∙ ap (λ b. flow_standing case.trace link (cond b (packet_after case sending.now at sent ∷ own_packets at sent) (own_packets at sent)) (givens at)) (sym (eq-eqb at at refl))

  pub follows-sent : (new : FlowTraffic) (after : Sending) → after.now ≡ sending.now
      → flow_under_way new ≡ with_one case.trace (flow_link_at case at).delay_us sending.now (fate_now case.trace (flow_link_at case at) case.queue old.sent sending) (flow_under_way old)
      → chance_number case.trace after.next ≡ chance_past (fate_now case.trace (flow_link_at case at) case.queue old.sent sending) (chance_number case.trace sending.next)
      → Follows case (set flows at new) after (with_packet case sending.now at sent) givens
  follows-sent new after now_same standing chance = record {
    settled = subst (λ n. Settled case n (with_packet case sending.now at sent) givens) (sym now_same) (settled-packet case trace sending.now givens at sent follows.settled);
    chance = chance ∙ ap (λ f. chance_past f (chance_number case.trace sending.next)) fate_same ∙ ap (chance_past (packet_after case sending.now at sent).fate) follows.chance;
    traffic = λ flow other inside.
        each_set (λ f t. flow_under_way t ≡ flow_standing case.trace (flow_link_at case f) (own_packets f (with_packet case sending.now at sent)) (givens f)) flows at new within
        others_follow (own_follows new standing) flow other (omega (arith, inside, length-set flows at new));
  }

-- ---- acknowledgements

-- there is a flow's traffic if there are flows
pub some_of : (flows : List FlowTraffic) (at : ℕ) → at < length flows → FlowTraffic
some_of [] at within = absurd (omega (arith, within))
some_of (flow ∷ rest) at within = flow

-- one more flow was answered
module _ (case : SharedCase) (trace : IsTrace case.trace) (asks : List Ask) (end now : ℕ) (flows after : List FlowTraffic) (at : ℕ) (within : at < length flows) (answers : List (List Ack)) (acks : List Ack)
    (count : length after ≡ length flows)
    (others : (flow : ℕ) (other : FlowTraffic) → flow ≢ at → get_or after flow other ≡ get_or flows flow other)
    (answered : (other : FlowTraffic) → ◌≡◌ {A = AnsweredFlow} (record { acks = acks; standing = flow_under_way (get_or after at other) }) (answered_all (flow_link_at case at) end (ask_at asks at).left (record { acks = []; standing = flow_under_way (get_or flows at other) })))
    (sent : List Sent) (givens : ℕ → List GivenAck) (settled : Settled case now sent givens) (so_far : AnsweredTo case asks end flows answers at sent givens) where
  own_answers : (other : FlowTraffic)
      → ◌≡◌ {A = AnsweredFlow} (record { acks = acks; standing = flow_under_way (get_or after at other) })
      (record { acks = acks_of_givens (acks_before case asks end sent givens at); standing = flow_standing case.trace (flow_link_at case at) (own_packets at sent) (with_givens (acks_before case asks end sent givens at) (givens at)) })
  own_answers other =
      answered other
      ∙ ap (λ s. answered_all (flow_link_at case at) end (ask_at asks at).left (record { acks = []; standing = s })) (so_far.ahead at other (omega arith) within)
      ∙ kept-answers case.trace trace (flow_link_at case at) end (chances_past (every_packet sent)) (own_packets at sent) (ask_at asks at).left [] (givens at) (settled.flows at)

  one : suc at ≡ at + 1
  one = omega arith

  abbrev IsDone : ℕ → FlowTraffic → Type 0
  IsDone flow traffic = flow_under_way traffic ≡ flow_standing case.trace (flow_link_at case flow) (own_packets flow sent) (with_givens (acks_before case asks end sent givens flow) (givens flow))

  pub answered-more : AnsweredTo case asks end after (answers ++ acks ∷ []) (at + 1) sent givens
  answered-more = record {
    acks =
        ap (λ xs. xs ++ acks ∷ []) so_far.acks
        ∙ ap (λ x. each_flow at (λ flow. acks_of_givens (acks_before case asks end sent givens flow)) ++ x ∷ []) (ap (λ (a : AnsweredFlow). a.acks) (own_answers (some_of flows at within)))
        ∙ ap (λ k. each_flow k (λ flow. acks_of_givens (acks_before case asks end sent givens flow))) one;
    done = λ flow other below.
        elim (cases_lt flow at) as (λ _. IsDone flow (get_or after flow other)) [
          | inl before ↦ (let apart : flow ≢ at = omega arith in ap flow_under_way (others flow other apart) ∙ so_far.done flow other before)
          | inr not_before ↦
              (let same : at ≡ flow = omega arith in
              subst (λ (k : ℕ). IsDone k (get_or after k other)) same (ap (λ (a : AnsweredFlow). a.standing) (own_answers other)))
        ];
    ahead = λ flow other above inside.
        (let apart : flow ≢ at = omega arith in
        ap flow_under_way (others flow other apart) ∙ so_far.ahead flow other (omega arith) (omega (arith, inside, count)));
  }

-- ---- sums

pub sum_more : (flow total more : ℕ) (number : ℕ → ℕ) → total ≡ sum_over_flows flow number → more ≡ number flow → total + more ≡ sum_over_flows (flow + 1) number
sum_more flow total more number total_is more_is =
    let one : suc flow ≡ flow + 1 = omega arith in
    ap (λ n. n + more) total_is ∙ ap (λ n. sum_over_flows flow number + n) more_is ∙ ap (λ k. sum_over_flows k number) one

pub same_there : (flows : List FlowTraffic) (at : ℕ) (traffic other : FlowTraffic) → at < length flows → traffic ≡ get_or flows at traffic → get_or flows at other ≡ traffic
same_there [] at traffic other within is = absurd (omega (arith, within))
same_there (flow ∷ rest) zero traffic other within is = sym is
same_there (flow ∷ rest) (suc at) traffic other within is = same_there rest at traffic other (omega (arith, within)) is

pub counts_same : (r s a l n r' s' a' l' n' : ℕ) → r ≡ r' → s ≡ s' → a ≡ a' → l ≡ l' → n ≡ n'
    → ◌≡◌ {A = Counts} (record { rounds = r; sent = s; acked = a; lost = l; inflight = n }) (record { rounds = r'; sent = s'; acked = a'; lost = l'; inflight = n' })
counts_same r s a l n r' s' a' l' n' er es ea el en = λ i. record { rounds = er i; sent = es i; acked = ea i; lost = el i; inflight = en i }
