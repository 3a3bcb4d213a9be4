-- The times of a shared link: the chances that are given come soon enough, since the queue is bounded.
use Rattle.std.proofs.Common.{◌≡◌, ℕ, zero, suc, ◌+◌, ◌-◌, ◌*◌, ◌<◌, ◌≤◌, Some, None, List, [], ◌∷◌, length, max, cond, Bool, true, false, slice_get, refl, ap, subst, ◌^◌, arith, inl, inr}
use Rattle.std.proofs.lemmas.Bool.{cases_lt}
use Rattle.ccp_base.specs.Limits.{most_queue}
use Rattle.link_model.specs.declared.arrival.Arrival.{Arrival}
use Rattle.link_model.specs.declared.chance.Chance.{Chance}
use Rattle.link_model.specs.Traces.{longest_period, period, IsTrace}
use Rattle.link_model.specs.Chances.{chance_number, chance_time, first_chance}
use Rattle.link_model.specs.LinkMoves.{flight_count}
use Rattle.link_model.proofs.ChanceLemmas.{chance_time_rises, chance_time-suc, first_chance_at, first_chance_le, le_first_chance, turn_below}
use Rattle.link_model.proofs.LineLemmas.{due_soon}
use Rattle.link_model.proofs.SendingLemmas.{one_more, no_more}
use Rattle.shared_link.specs.declared.sending.Sending.{Sending}
use Rattle.shared_link.specs.Kept.{IsSending, span}

module _ (times : List ℕ) (trace : IsTrace times) where
  pub hour : 1000 * period times ≤ longest_period
  hour = omega (arith, trace.within (length times - 1))

  -- n chances later at most n of the longest periods passed
  pub chance_time-more : (n k : ℕ) → chance_time times (k + n) ≤ chance_time times k + n * longest_period
  chance_time-more zero k = omega (arith, chance_time_rises times trace (k + 0) k (omega arith))
  chance_time-more (suc n) k =
      let step = chance_time-suc times trace (k + n) in
      let same : k + n + 1 ≡ k + suc n = omega arith in
      let again : chance_time times (k + n + 1) ≡ chance_time times (k + suc n) = ap (chance_time times) same in
      omega (arith, chance_time-more n k, hour, step, again)

  -- the chance after those of the packets that wait
  pub next_late : (now next : ℕ) → next ≤ first_chance times (now + 1) 0 + most_queue → chance_time times next ≤ now + span
  next_late now next near =
      let later = first_chance times (now + 1) 0 in
      let rises = chance_time_rises times trace next (later + most_queue) near in
      omega (arith, rises, chance_time-more most_queue later, due_soon times trace (now + 1))

  -- at a later time no more packets wait
  pub few_later : (now then_ next : ℕ) → now ≤ then_ → next ≤ first_chance times (now + 1) 0 + most_queue → next ≤ first_chance times (then_ + 1) 0 + most_queue
  few_later now then_ next order near =
      let later = first_chance times (then_ + 1) 0 in
      let late : now + 1 ≤ chance_time times later = omega (arith, first_chance_at times trace (then_ + 1) 0) in
      omega (arith, near, first_chance_le times trace (now + 1) later late)

  module _ (sending : Sending) (is : IsSending times sending) (waits : sending.queue.waiting < most_queue) where
    -- the chance that is given next
    pub own_soon : chance_time times (chance_number times sending.queue.next) ≤ sending.now + most_queue * longest_period + 1
    own_soon =
        let next = chance_number times sending.next in
        let own = chance_number times sending.queue.next in
        let due = first_chance times sending.now 0 in
        let later = first_chance times (sending.now + 1) 0 in
        elim (cases_lt next due) as (λ _. chance_time times own ≤ sending.now + most_queue * longest_period + 1) [
          | inl before ↦
              (let same : own ≡ due = omega (arith, is.next) in
              let again : chance_time times own ≡ chance_time times due = ap (chance_time times) same in
              omega (arith, again, due_soon times trace sending.now))
          | inr not_before ↦
              (let same : own ≤ later + (most_queue - 1) = omega (arith, is.next, is.waiting) in
              let rises = chance_time_rises times trace own (later + (most_queue - 1)) same in
              omega (arith, rises, chance_time-more (most_queue - 1) later, due_soon times trace (sending.now + 1)))
        ]

    pub own_not_before : sending.now ≤ chance_time times (chance_number times sending.queue.next)
    own_not_before = le_first_chance times trace sending.now (chance_number times sending.queue.next) (omega (arith, is.next))

    pub turn_fits : sending.queue.next.turn + 1 < 2 ^ 64
    turn_fits =
        let next = sending.queue.next in
        omega (arith, turn_below times trace next.turn next.place is.place, own_soon, is.now)

    -- after the chance is given
    pub after_next : (next : Chance) → chance_number times next ≡ chance_number times sending.queue.next + 1 → chance_number times next ≡ max (chance_number times next) (first_chance times sending.now 0)
    after_next next same = omega (arith, same, is.next)

    pub one_waits : (next : Chance) → chance_number times next ≡ chance_number times sending.queue.next + 1 → sending.now < chance_time times (chance_number times sending.queue.next)
        → sending.queue.waiting + 1 ≡ chance_number times next - first_chance times (sending.now + 1) 0
    one_waits next same late =
        let past = chance_number times sending.next in
        let late_now = subst (λ k. sending.now < chance_time times k) is.next late in
        omega (arith, one_more times trace sending.now past late_now, is.waiting, is.next, same)

    pub none_waits : (next : Chance) → chance_number times next ≡ chance_number times sending.queue.next + 1 → chance_time times (chance_number times sending.queue.next) ≤ sending.now
        → sending.queue.waiting ≡ chance_number times next - first_chance times (sending.now + 1) 0
    none_waits next same early =
        let past = chance_number times sending.next in
        let early_now = subst (λ k. chance_time times k ≤ sending.now) is.next early in
        omega (arith, no_more times trace sending.now past early_now, is.waiting, is.next, same)

-- ---- packets in flight

pub no_first : (arrivals : List Arrival) → slice_get arrivals 0 ≡ None → arrivals ≡ []
no_first [] none = refl
no_first (arrival ∷ rest) none = absurd (let some : Some arrival ≡ None = none in cc)

pub some_in_flight : (arrivals : List Arrival) (first : Arrival) (lost : ℕ) → slice_get arrivals 0 ≡ Some first → 0 < flight_count arrivals lost
some_in_flight [] first lost is = absurd (let none : None ≡ Some first = is in cc)
some_in_flight (arrival ∷ rest) first lost is = omega arith

pub since_within : (b : Bool) (now since limit : ℕ) → now ≤ limit → since ≤ limit → cond b now since ≤ limit
since_within true now since limit first second = first
since_within false now since limit first second = second
