-- The sending of a call, packet by packet, against the steps of what a link keeps.
use Rattle.std.proofs.Common.{◌≡◌, ℕ, zero, suc, ◌+◌, ◌-◌, ◌<◌, ◌≤◌, Bool, true, false, cond, leb, ◌||◌, Option, Some, None, List, [], ◌∷◌, ◌++◌, max, refl, ap, sym, ◌∙◌, arith, inl, inr}
use Rattle.std.proofs.lemmas.Bool.{cases_lt, or_from, or_right, le-leb, lt-leb}
use Rattle.link_model.specs.declared.link_case.LinkCase.{LinkCase}
use Rattle.link_model.specs.declared.arrival.Arrival.{Arrival}
use Rattle.link_model.specs.declared.chance.Coming.{Coming}
use Rattle.link_model.specs.Traces.{IsTrace}
use Rattle.link_model.specs.Chances.{chance_number, chance_time, first_chance}
use Rattle.link_model.specs.Link.{Lost, Served, is_listed, is_marked, arrival_of}
use Rattle.link_model.specs.Standing.{Standing}
use Rattle.link_model.specs.LinkMoves.{with_lost, with_served, with_fate, with_packet, waiting_now, chance_now, sending}
use Rattle.link_model.specs.Lines.{least_noticed}
use Rattle.link_model.proofs.ChanceLemmas.{first_chance_le, le_first_chance}

-- ---- the queue at one time, by when a chance comes

module _ (times : List ℕ) (trace : IsTrace times) (now chance : ℕ) where
  later_from : first_chance times now 0 ≤ first_chance times (now + 1) 0
  later_from =
      first_chance_le times trace now (first_chance times (now + 1) 0)
      (let late : now + 1 ≤ chance_time times (first_chance times (now + 1) 0) = le_first_chance times trace (now + 1) (first_chance times (now + 1) 0) (omega arith) in omega arith)

  -- a chance that isn't before now is no earlier than the first such one
  pub not_before : now ≤ chance_time times chance → max chance (first_chance times now 0) ≡ chance
  not_before late = omega (arith, first_chance_le times trace now chance late)

  is_before : chance_time times chance < now → chance < first_chance times now 0
  is_before early =
      elim (cases_lt chance (first_chance times now 0)) as (λ _. chance < first_chance times now 0)
      [ inl below ↦ below | inr not_below ↦ absurd (omega (arith, le_first_chance times trace now chance not_below)) ]

  pub before_due : chance_time times chance < now → max chance (first_chance times now 0) ≡ first_chance times now 0
  before_due early = omega (arith, is_before early)

  -- a chance up to now is before the first one after now
  pub up_to_now : chance_time times chance ≤ now → chance < first_chance times (now + 1) 0
  up_to_now early =
      elim (cases_lt chance (first_chance times (now + 1) 0)) as (λ _. chance < first_chance times (now + 1) 0)
      [ inl below ↦ below | inr not_below ↦ absurd (omega (arith, le_first_chance times trace (now + 1) chance not_below)) ]

  pub none_waits : chance_time times chance ≤ now → chance - first_chance times (now + 1) 0 ≡ 0
  none_waits early = omega (arith, up_to_now early)

  -- one more waits if its chance is later than now
  pub one_more : now < chance_time times (max chance (first_chance times now 0))
      → chance - first_chance times (now + 1) 0 + 1 ≡ max (max chance (first_chance times now 0) + 1) (first_chance times now 0) - first_chance times (now + 1) 0
  one_more late =
      omega (arith, later_from, first_chance_le times trace (now + 1) (max chance (first_chance times now 0)) (omega arith))

-- and no more if it isn't
pub no_more : (times : List ℕ) → IsTrace times → (now chance : ℕ) → chance_time times (max chance (first_chance times now 0)) ≤ now
    → chance - first_chance times (now + 1) 0 ≡ max (max chance (first_chance times now 0) + 1) (first_chance times now 0) - first_chance times (now + 1) 0
no_more times trace now chance early = omega (arith, up_to_now times trace now (max chance (first_chance times now 0)) early)

-- ---- packets that are lost

abbrev with_counts : Standing → ℕ → ℕ → Standing
with_counts standing lost sent = record {
  time = standing.time;
  past = standing.past;
  arrivals = standing.arrivals;
  lost = lost;
  chance = standing.chance;
  sent = sent;
  acked = standing.acked;
  calls = standing.calls;
}

same_counts : (standing : Standing) (lost sent lost' sent' : ℕ) → lost ≡ lost' → sent ≡ sent' → with_counts standing lost sent ≡ with_counts standing lost' sent'
same_counts standing lost sent lost' sent' lost_is sent_is = ap (λ n. with_counts standing n sent) lost_is ∙ ap (with_counts standing lost') sent_is

module _ (case : LinkCase) where
  packet-full : (standing : Standing) → case.queue ≤ waiting_now case standing → with_packet case standing ≡ with_lost 1 standing
  packet-full standing is =
      ap (λ b. with_fate case (cond b Lost (Served (chance_now case standing) (is_marked case.mark (waiting_now case standing)))) standing)
      (or_right (is_listed standing.sent case.losses) (leb case.queue (waiting_now case standing)) (le-leb case.queue (waiting_now case standing) is))

  -- if the queue is full, all are lost
  pub sending-full : (more : ℕ) (standing : Standing) → case.queue ≤ waiting_now case standing → sending case more standing ≡ with_lost more standing
  sending-full zero standing is = same_counts standing standing.lost standing.sent (standing.lost + 0) (standing.sent + 0) (omega arith) (omega arith)
  sending-full (suc more) standing is =
      ap (sending case more) (packet-full standing is)
      ∙ sending-full more (with_lost 1 standing) is
      ∙ same_counts standing (standing.lost + 1 + more) (standing.sent + 1 + more) (standing.lost + suc more) (standing.sent + suc more) (omega arith) (omega arith)

  packet-served : (standing : Standing) → is_listed standing.sent case.losses ≡ false → waiting_now case standing < case.queue
      → with_packet case standing ≡ with_served case (chance_now case standing) (is_marked case.mark (waiting_now case standing)) standing
  packet-served standing other is =
      ap (λ b. with_fate case (cond b Lost (Served (chance_now case standing) (is_marked case.mark (waiting_now case standing)))) standing)
      (or_from (is_listed standing.sent case.losses) (leb case.queue (waiting_now case standing)) other (lt-leb case.queue (waiting_now case standing) is))

  -- one is lost, since it is listed
  pub sending-lost : (left : ℕ) (standing : Standing) → 0 < left → is_listed standing.sent case.losses ≡ true → sending case (left - 1) (with_lost 1 standing) ≡ sending case left standing
  sending-lost left standing some listed =
      let one : left ≡ suc (left - 1) = omega arith in
      let packet : with_packet case standing ≡ with_lost 1 standing =
      ap (λ b. with_fate case (cond (b || leb case.queue (waiting_now case standing)) Lost (Served (chance_now case standing) (is_marked case.mark (waiting_now case standing)))) standing) listed in
      sym (ap (sending case (left - 1)) packet) ∙ sym (ap (λ n. sending case n standing) one)

  -- one is served
  pub sending-served : (left : ℕ) (standing : Standing) → 0 < left → is_listed standing.sent case.losses ≡ false → waiting_now case standing < case.queue
      → sending case (left - 1) (with_served case (chance_now case standing) (is_marked case.mark (waiting_now case standing)) standing) ≡ sending case left standing
  sending-served left standing some other is =
      let one : left ≡ suc (left - 1) = omega arith in
      sym (ap (sending case (left - 1)) (packet-served standing other is)) ∙ sym (ap (λ n. sending case n standing) one)

-- ---- a packet that is served

abbrev pub served_as : Standing → List Arrival → ℕ → ℕ → Standing
served_as standing arrivals chance acked = record {
  time = standing.time;
  past = standing.past;
  arrivals = arrivals;
  lost = 0;
  chance = chance;
  sent = standing.sent + 1;
  acked = acked;
  calls = standing.calls;
}

pub served_standing : (case : LinkCase) (standing : Standing) (own : Coming) (marked : Bool) (arrivals : List Arrival) (chance acked : ℕ)
    → own.at ≡ chance_time case.trace (chance_number case.trace own.chance) → chance_number case.trace own.chance ≡ chance_now case standing
    → marked ≡ is_marked case.mark (waiting_now case standing) → arrivals ≡ standing.arrivals ++ record { lost = standing.lost; sent_at = standing.time; at = own.at + case.delay_us; marked = marked } ∷ []
    → chance ≡ chance_number case.trace own.chance + 1 → acked ≡ standing.acked
    → served_as standing arrivals chance acked ≡ with_served case (chance_now case standing) (is_marked case.mark (waiting_now case standing)) standing
served_standing case standing own marked arrivals next acked own_is chance_is marked_is arrivals_are next_is acked_is =
    let chance = chance_now case standing in
    let last : ℕ → Bool → List Arrival = λ at m. standing.arrivals ++ record { lost = standing.lost; sent_at = standing.time; at = at; marked = m } ∷ [] in
    let at_is : own.at + case.delay_us ≡ arrival_of case chance = ap (λ t. t + case.delay_us) own_is ∙ ap (arrival_of case) chance_is in
    let number : next ≡ chance + 1 = next_is ∙ ap (λ k. k + 1) chance_is in
    ap (λ xs. served_as standing xs next acked) (arrivals_are ∙ ap (λ t. last t marked) at_is ∙ ap (last (arrival_of case chance)) marked_is)
    ∙ ap (λ k. served_as standing (last (arrival_of case chance) (is_marked case.mark (waiting_now case standing))) k acked) number
    ∙ ap (served_as standing (last (arrival_of case chance) (is_marked case.mark (waiting_now case standing))) (chance + 1)) acked_is

-- ---- whether a packet is noticed

pub least_noticed-queue : (queue : ℕ) (mark : Option ℕ) → least_noticed queue mark ≤ queue
least_noticed-queue queue None = omega arith
least_noticed-queue queue (Some mark) = omega arith

-- if fewer packets wait, the next one isn't marked
pub least_noticed-mark : (queue waiting : ℕ) (mark : Option ℕ) → waiting < least_noticed queue mark → false ≡ is_marked mark waiting
least_noticed-mark queue waiting None few = refl
least_noticed-mark queue waiting (Some mark) few = sym (lt-leb mark waiting (omega arith))
