-- The line of the packets that wait: how many do, and which chances are gone by as it is moved on.
use Rattle.std.proofs.Common.{◌≡◌, ℕ, suc, ◌+◌, ◌-◌, ◌*◌, ◌<◌, ◌≤◌, List, [], ◌∷◌, ◌++◌, length, get_or, max, ap, ◌∙◌, arith, inl, inr}
use Rattle.std.proofs.lemmas.Nat.{mul-le}
use Rattle.std.proofs.lemmas.Bool.{cases_lt}
use Rattle.std.proofs.lemmas.List.{get_or_append_left, get_or_push}
use Rattle.link_model.specs.declared.link_case.LinkCase.{LinkCase}
use Rattle.link_model.specs.declared.arrival.Arrival.{Arrival}
use Rattle.link_model.specs.declared.chance.Coming.{Coming}
use Rattle.link_model.specs.Traces.{longest_period, period, IsTrace}
use Rattle.link_model.specs.Chances.{chance_number, IsFirstChance, chance_time, first_chance}
use Rattle.link_model.specs.Link.{arrival_of}
use Rattle.link_model.specs.Rings.{no_arrival, arrival_at}
use Rattle.link_model.specs.Lines.{IsComing, AreQueued, waiting_before}
use Rattle.link_model.proofs.ChanceLemmas.{chance_time_rises, chance_time-suc, first_chance_at, first_chance_is, first_chance_soon, time_at}

module _ (times : List ℕ) (trace : IsTrace times) where
  -- a chance's turn is far below its time
  pub turn_far_below : (turn place : ℕ) → place < length times → 1000 * turn ≤ chance_time times (turn * length times + place)
  turn_far_below turn place inside =
      let turns : 1 * turn ≤ period times * turn = mul-le 1 turn (period times) turn trace.period (omega arith) in
      omega (arith, time_at times trace turn place inside)

  period_within : 1000 * period times ≤ longest_period
  period_within = omega (arith, trace.within (length times - 1))

  pub due_soon : (time : ℕ) → chance_time times (first_chance times time 0) ≤ time + longest_period
  due_soon time = omega (arith, period_within, first_chance_soon times trace time)

  pub after_soon : (k : ℕ) → chance_time times (k + 1) ≤ chance_time times k + longest_period
  after_soon k = omega (arith, period_within, chance_time-suc times trace k)

  -- a chance of a later number doesn't come earlier
  pub coming_rises : (this other : Coming) → IsComing times this → IsComing times other → chance_number times this.chance ≤ chance_number times other.chance → this.at ≤ other.at
  coming_rises this other is_this is_other order = omega (arith, is_this.at, is_other.at, chance_time_rises times trace (chance_number times this.chance) (chance_number times other.chance) order)

  pub first_is : (time k : ℕ) → IsFirstChance times time 0 k → first_chance times time 0 ≡ k
  first_is time k first = first_chance_is times trace time 0 k (omega arith) first.late first.before

-- the packets that wait, as one more packet gets a chance and the first one leaves
module _ (case : LinkCase) (trace : IsTrace case.trace) (time chance from taken put : ℕ) (arrivals : List Arrival) (queued : AreQueued case time chance from taken put arrivals) where
  -- chances up to that of a packet that waits
  up_to : (n j : ℕ) → from ≤ n → n < put → j ≤ chance + n - put → chance_time case.trace j + case.delay_us ≤ (arrival_at arrivals (n - taken)).at
  up_to n j after under order = omega (arith, queued.arrive n after under, chance_time_rises case.trace trace j (chance + n - put) order)

  pub queued-push : (last : Arrival) → taken ≤ from → from ≤ put → length arrivals ≡ put - taken → last.at ≡ arrival_of case chance
      → AreQueued case time (chance + 1) from taken (put + 1) (arrivals ++ last ∷ [])
  queued-push last left order long at_is = record {
    given = omega (arith, queued.given);
    arrive = λ n after under.
        elim (cases_lt n put) as (λ _. (arrival_at (arrivals ++ last ∷ []) (n - taken)).at ≡ arrival_of case (chance + 1 + n - (put + 1))) [
          | inl before ↦
              (let within : n - taken < length arrivals = omega arith in
              let same : chance + n - put ≡ chance + 1 + n - (put + 1) = omega arith in
              ap (λ (a : Arrival). a.at) (get_or_append_left arrivals (last ∷ []) no_arrival (n - taken) within) ∙ queued.arrive n after before ∙ ap (arrival_of case) same)
          | inr not_before ↦
              (let here : length arrivals ≡ n - taken = omega arith in
              let same : chance ≡ chance + 1 + n - (put + 1) = omega arith in
              ap (λ (a : Arrival). a.at) (get_or_push arrivals last no_arrival (n - taken) here) ∙ at_is ∙ ap (arrival_of case) same)
        ];
    past = λ j under. queued.past j (omega arith);
  }

  -- chances before those of the packets that may wait are gone by
  pub fewer_wait : waiting_before case.trace chance time ≤ put - from
  fewer_wait =
      let first = first_chance case.trace (time + 1) 0 in
      elim (cases_lt (first + (put - from)) chance) as (λ _. waiting_before case.trace chance time ≤ put - from) [
        | inl below ↦ absurd (omega (arith, queued.past first below, first_chance_at case.trace trace (time + 1) 0))
        | inr not_below ↦ omega arith
      ]

  -- and if the first of those packets waits, all of them do
  pub all_wait : from ≤ put → (from < put → time + case.delay_us < (arrival_at arrivals (from - taken)).at) → put - from ≡ waiting_before case.trace chance time
  all_wait order late =
      elim (cases_lt from put) as (λ _. put - from ≡ waiting_before case.trace chance time) [
        | inl some ↦
            (let k : ℕ = chance + from - put in
            let comes : time + 1 ≤ chance_time case.trace k = omega (arith, late some, queued.arrive from (omega arith) some) in
            let first : first_chance case.trace (time + 1) 0 ≡ k =
            first_chance_is case.trace trace (time + 1) 0 k (omega arith) comes (λ j above under. omega (arith, queued.past j (omega (arith, queued.given)))) in
            omega (arith, queued.given))
        | inr none ↦ omega (arith, fewer_wait)
      ]

-- the first packet leaves when it arrives
pub queued-first : (case : LinkCase) → IsTrace case.trace → (time chance gone taken put : ℕ) (first : Arrival) (rest : List Arrival) → AreQueued case time chance (max gone taken) taken put (first ∷ rest)
    → taken < put → time ≤ first.at → AreQueued case first.at chance (max gone (taken + 1)) (taken + 1) put rest
queued-first case trace time chance gone taken put first rest queued some order = record {
  given = omega (arith, queued.given);
  arrive = λ n after under.
      (let place : suc (n - (taken + 1)) ≡ n - taken = omega arith in
      ap (λ k. (arrival_at (first ∷ rest) k).at) place ∙ queued.arrive n (omega arith) under);
  past = λ j under.
      elim (cases_lt taken gone) as (λ _. chance_time case.trace j ≤ first.at) [
        | inl known ↦ omega (arith, queued.past j (omega arith))
        | inr not_known ↦
            (let none : taken - taken ≡ 0 = omega arith in
            let same : (arrival_at (first ∷ rest) (taken - taken)).at ≡ first.at = ap (λ k. (arrival_at (first ∷ rest) k).at) none in
            omega (arith, up_to case trace time chance (max gone taken) taken put (first ∷ rest) queued taken j (omega arith) some (omega (arith, queued.given))))
      ];
}

-- the chances of all packets are gone by
pub queued-none : (case : LinkCase) (time chance taken put : ℕ) (arrivals : List Arrival) → ((j : ℕ) → j < chance → chance_time case.trace j ≤ time) → AreQueued case time chance put taken put arrivals
queued-none case time chance taken put arrivals past = record {
  given = omega arith;
  arrive = λ n after under. absurd (omega arith);
  past = λ j under. past j (omega arith);
}

-- the same by equal numbers and packets
pub queued-same : (case : LinkCase) (time chance from taken put chance' from' taken' put' : ℕ) (arrivals arrivals' : List Arrival) → chance' ≡ chance → from' ≡ from → taken' ≡ taken → put' ≡ put → arrivals' ≡ arrivals
    → AreQueued case time chance from taken put arrivals → AreQueued case time chance' from' taken' put' arrivals'
queued-same case time chance from taken put chance' from' taken' put' arrivals arrivals' chance_is from_is taken_is put_is arrivals_are queued = record {
  given = omega (arith, queued.given);
  arrive = λ n after under.
      (let place : n - taken' ≡ n - taken = omega arith in
      let number : chance + n - put ≡ chance' + n - put' = omega arith in
      ap (λ xs. (arrival_at xs (n - taken')).at) arrivals_are ∙ ap (λ k. (arrival_at arrivals k).at) place ∙ queued.arrive n (omega arith) (omega arith) ∙ ap (arrival_of case) number);
  past = λ j under. queued.past j (omega arith);
}

-- the chance after one whose time is known
module _ (times : List ℕ) (trace : IsTrace times) (coming : Coming) (is : IsComing times coming) where
  -- in the same turn
  pub inside_rises : coming.chance.place + 1 < length times → get_or times coming.chance.place 0 ≤ get_or times (coming.chance.place + 1) 0
  inside_rises inside = trace.rising coming.chance.place (coming.chance.place + 1) 0 (omega arith) inside

  pub inside_number : coming.chance.turn * length times + (coming.chance.place + 1) ≡ chance_number times coming.chance + 1
  inside_number = omega arith

  pub inside_time : coming.chance.place + 1 < length times
      → chance_time times (chance_number times coming.chance + 1) ≡ coming.at + 1000 * (get_or times (coming.chance.place + 1) 0 - get_or times coming.chance.place 0)
  inside_time inside =
      let turn = coming.chance.turn in
      let place = coming.chance.place in
      omega (arith, ap (chance_time times) inside_number, is.at, time_at times trace turn place is.place, time_at times trace turn (place + 1) inside, inside_rises inside)

  -- and in the next one
  pub wrapped_number : length times ≤ coming.chance.place + 1 → (coming.chance.turn + 1) * length times + 0 ≡ chance_number times coming.chance + 1
  wrapped_number wraps = omega (arith, wraps, is.place)

  pub wrapped_time : length times ≤ coming.chance.place + 1 → chance_time times (chance_number times coming.chance + 1) ≡ coming.at + 1000 * get_or times 0 0
  wrapped_time wraps =
      let turn = coming.chance.turn in
      let place = coming.chance.place in
      let last : place ≡ length times - 1 = omega (arith, wraps, is.place) in
      let is_period : get_or times place 0 ≡ period times = ap (λ i. get_or times i 0) last in
      omega (arith, ap (chance_time times) (wrapped_number wraps), is.at, is_period, time_at times trace turn place is.place, time_at times trace (turn + 1) 0 trace.some)
