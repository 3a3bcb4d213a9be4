-- The times of a link stay within its horizon.
use Rattle.std.proofs.Common.{◌≡◌, ℕ, ◌+◌, ◌-◌, ◌*◌, ◌≤◌, Bool, List, [], ◌∷◌, ◌++◌, length, ap, arith, inl, inr, max}
use Rattle.std.proofs.lemmas.Bool.{cases_lt}
use Rattle.link_model.specs.declared.link_case.LinkCase.{LinkCase}
use Rattle.link_model.specs.declared.arrival.Arrival.{Arrival}
use Rattle.link_model.specs.Traces.{longest_period, period, IsTrace}
use Rattle.link_model.specs.Chances.{chance_time, first_chance}
use Rattle.link_model.specs.Standing.{Standing, arrival_by}
use Rattle.link_model.specs.LinkMoves.{flight_count, with_lost, with_served, chance_now}
use Rattle.link_model.specs.Horizon.{horizon, ArriveWithin, ArriveInOrder, IsTimely}
use Rattle.link_model.proofs.ChanceLemmas.{chance_time_rises, chance_time-suc, first_chance_soon, le_first_chance}

pub ArriveWithin-more : (limit more : ℕ) (arrivals : List Arrival) → limit ≤ more → ArriveWithin limit arrivals → ArriveWithin more arrivals
ArriveWithin-more limit more [] order within = tt
ArriveWithin-more limit more (arrival ∷ rest) order within = (within.0, omega (arith, within.1), ArriveWithin-more limit more rest order within.2)

pub ArriveWithin-push : (limit : ℕ) (arrivals : List Arrival) (last : Arrival) → ArriveWithin limit arrivals → last.sent_at ≤ last.at → last.at ≤ limit → ArriveWithin limit (arrivals ++ last ∷ [])
ArriveWithin-push limit [] last within order bound = (order, bound, tt)
ArriveWithin-push limit (arrival ∷ rest) last within order bound = (within.0, within.1, ArriveWithin-push limit rest last within.2 order bound)

-- one more packet that arrives after all others
pub ArriveInOrder-push : (from limit more : ℕ) (arrivals : List Arrival) (last : Arrival) → ArriveInOrder from limit arrivals → from ≤ last.at → limit ≤ last.at → last.at ≤ more → ArriveInOrder from more (arrivals ++ last ∷ [])
ArriveInOrder-push from limit more [] last order early after bound = (early, bound, tt)
ArriveInOrder-push from limit more (arrival ∷ rest) last order early after bound =
    (order.0, omega (arith, order.1, after, bound), ArriveInOrder-push arrival.at limit more rest last order.2 (omega (arith, order.1, after)) after bound)

-- each packet that isn't lost is in flight
pub length_le_count : (arrivals : List Arrival) (lost : ℕ) → length arrivals + lost ≤ flight_count arrivals lost
length_le_count [] lost = omega arith
length_le_count (arrival ∷ rest) lost = omega (arith, length_le_count rest lost)

pub count-push : (arrivals : List Arrival) (last : Arrival) (lost : ℕ) → last.lost ≡ lost → flight_count (arrivals ++ last ∷ []) 0 ≡ flight_count arrivals lost + 1
count-push [] last lost same = omega (arith, same)
count-push (arrival ∷ rest) last lost same = omega (arith, count-push rest last lost same)

pub count-lost : (arrivals : List Arrival) (lost more : ℕ) → flight_count arrivals (lost + more) ≡ flight_count arrivals lost + more
count-lost [] lost more = omega arith
count-lost (arrival ∷ rest) lost more = omega (arith, count-lost rest lost more)

module _ (case : LinkCase) (trace : IsTrace case.trace) (standing : Standing) (timely : IsTimely case standing) where
  period_within : 1000 * period case.trace ≤ longest_period
  period_within = omega (arith, trace.within (length case.trace - 1))

  -- the chance that follows those that were given comes within a period
  pub next_soon : chance_time case.trace standing.chance ≤ horizon standing.sent standing.calls + longest_period
  next_soon =
      elim (cases_lt 0 standing.chance) as (λ _. chance_time case.trace standing.chance ≤ horizon standing.sent standing.calls + longest_period) [
        | inl some ↦
            (let last = timely.chances (standing.chance - 1) (omega arith) in
            let step = chance_time-suc case.trace trace (standing.chance - 1) in
            let same : standing.chance - 1 + 1 ≡ standing.chance = omega arith in
            let again : chance_time case.trace (standing.chance - 1 + 1) ≡ chance_time case.trace standing.chance = ap (chance_time case.trace) same in
            omega (arith, period_within))
        | inr none ↦
            (let rises = chance_time_rises case.trace trace standing.chance (first_chance case.trace 0 0) (omega arith) in
            let soon = first_chance_soon case.trace trace 0 in
            omega (arith, period_within))
      ]

  due_soon : chance_time case.trace (first_chance case.trace standing.time 0) ≤ horizon standing.sent standing.calls + longest_period
  due_soon =
      let soon = first_chance_soon case.trace trace standing.time in
      omega (arith, period_within, timely.time)

  pub now_soon : chance_time case.trace (chance_now case standing) ≤ horizon standing.sent standing.calls + longest_period
  now_soon =
      let due = first_chance case.trace standing.time 0 in
      elim (cases_lt standing.chance due) as (λ _. chance_time case.trace (max standing.chance due) ≤ horizon standing.sent standing.calls + longest_period) [
        | inl before ↦
            (let same : max standing.chance due ≡ due = omega arith in
            let again : chance_time case.trace (max standing.chance due) ≡ chance_time case.trace due = ap (chance_time case.trace) same in
            omega (arith, due_soon))
        | inr not_before ↦
            (let same : max standing.chance due ≡ standing.chance = omega arith in
            let again : chance_time case.trace (max standing.chance due) ≡ chance_time case.trace standing.chance = ap (chance_time case.trace) same in
            omega (arith, next_soon))
      ]

  pub now_not_before : standing.time ≤ chance_time case.trace (chance_now case standing)
  now_not_before = le_first_chance case.trace trace standing.time (chance_now case standing) (omega arith)

  pub is_timely-served : (marked : Bool) → IsTimely case (with_served case (chance_now case standing) marked standing)
  is_timely-served marked =
      let own = chance_now case standing in
      let last = arrival_by case standing.lost standing.time own marked in
      let limit = horizon (standing.sent + 1) standing.calls + case.delay_us in
      record {
        time = omega (arith, timely.time);
        chances = λ k under.
            (let rises = chance_time_rises case.trace trace k own (omega arith) in
            omega (arith, now_soon));
        arrivals =
            ArriveWithin-push limit standing.arrivals last
            (ArriveWithin-more (horizon standing.sent standing.calls + case.delay_us) limit standing.arrivals (omega arith) timely.arrivals)
            (omega (arith, now_not_before)) (omega (arith, now_soon));
      }

pub is_timely-lost : (case : LinkCase) (more : ℕ) (standing : Standing) → IsTimely case standing → IsTimely case (with_lost more standing)
is_timely-lost case more standing timely = record {
  time = omega (arith, timely.time);
  chances = λ k under. omega (arith, timely.chances k under);
  arrivals =
      ArriveWithin-more (horizon standing.sent standing.calls + case.delay_us) (horizon (standing.sent + more) standing.calls + case.delay_us) standing.arrivals (omega arith) timely.arrivals;
}
