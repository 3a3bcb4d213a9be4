-- The first chance at or after a time: what the definition's search finds is it, and how chances and turns are ordered.
use Rattle.std.proofs.Common.{◌≡◌, ℕ, zero, suc, ◌+◌, ◌-◌, ◌*◌, ◌/◌, ◌%◌, ◌<◌, ◌≤◌, Bool, true, false, leb, List, length, get_or, refl, ap, sym, ◌∙◌, arith, inl, inr, max}
use Rattle.std.proofs.Math.Nat.{mul-le-mul_left, div-add-mod, mod-lt, div-mul-le_self, div-le_of_le-mul, mul-div-le, lt-div-mul-add}
use Rattle.std.proofs.lemmas.Nat.{le-div, div-mul-add, mod-mul-add, mul-le}
use Rattle.std.proofs.lemmas.Bool.{cases_lt, leb-true, le-leb, leb-false}
use Rattle.link_model.specs.Traces.{period, IsTrace}
use Rattle.link_model.specs.Chances.{IsFirstChance, chance_time, first_passing, first_chance}

-- ---- the first number that passes

-- a number that passes and before which none does
pub record IsFirst (passes : ℕ → Bool) (here k : ℕ) : Type 0 where
  pub from : here ≤ k
  pub passing : passes k ≡ true
  pub before : (j : ℕ) → here ≤ j → j < k → passes j ≡ false

first_step : (passes : ℕ → Bool) (later here : ℕ) (b : Bool) → passes here ≡ b → (b ≡ false → IsFirst passes (suc here) later) → IsFirst passes here (elim b as (λ _. ℕ) [ true ↦ here | false ↦ later ])
first_step passes later here true is rest = record { from = omega arith; passing = is; before = λ j above under. absurd (omega arith) }
first_step passes later here false is rest =
    let next = rest refl in
    record {
      from = omega (arith, next.from);
      passing = next.passing;
      before = λ j above under. elim (cases_lt here j) as (λ _. passes j ≡ false) [
        | inl past ↦ next.before j (omega arith) under
        | inr not_past ↦ (let same : here ≡ j = omega arith in let e : passes here ≡ passes j = ap passes same in cc)
      ];
    }

-- if the last step would pass, the search finds the first number that does
pub first_passing_first : (passes : ℕ → Bool) (steps here : ℕ) → passes (here + steps) ≡ true → IsFirst passes here (first_passing passes steps here)
first_passing_first passes zero here last =
    let same : here + 0 ≡ here = omega arith in
    record { from = omega arith; passing = sym (ap passes same) ∙ last; before = λ j above under. absurd (omega arith) }
first_passing_first passes (suc steps) here last =
    first_step passes (first_passing passes steps (suc here)) here (passes here) refl
    (λ _. first_passing_first passes steps (suc here) (let same : suc here + steps ≡ here + suc steps = omega arith in ap passes same ∙ last))

-- ---- the times of chances

module _ (times : List ℕ) (trace : IsTrace times) where
  -- a time of the trace is at most its period
  pub at_most_period : (i : ℕ) → i < length times → get_or times i 0 ≤ period times
  at_most_period i within = trace.rising i (length times - 1) 0 (omega arith) (omega (arith, trace.some))

  div_rises : (i j : ℕ) → i ≤ j → i / length times ≤ j / length times
  div_rises i j order = le-div (i / length times) j (length times) trace.some (omega (arith, div-mul-le_self i (length times)))

  place_within : (i : ℕ) → i % length times < length times
  place_within i = mod-lt i trace.some

  pub chance_time_rises : (i j : ℕ) → i ≤ j → chance_time times i ≤ chance_time times j
  chance_time_rises i j order =
      let n = length times in
      let p = period times in
      elim (cases_lt (i / n) (j / n)) as (λ _. chance_time times i ≤ chance_time times j) [
        | inl earlier ↦
            (let turns : p * (i / n + 1) ≤ p * (j / n) = mul-le-mul_left p (omega arith) in
            let within = at_most_period (i % n) (place_within i) in
            omega arith)
        | inr not_earlier ↦
            (let same : i / n ≡ j / n = omega (arith, div_rises i j order) in
            let products : n * (i / n) ≡ n * (j / n) = ap (λ m. n * m) same in
            let turns : p * (i / n) ≡ p * (j / n) = ap (λ m. p * m) same in
            let places : i % n ≤ j % n = omega (arith, div-add-mod i n, div-add-mod j n) in
            let rises = trace.rising (i % n) (j % n) 0 places (place_within j) in
            omega arith)
      ]

  -- the next chance comes within a period
  pub chance_time-suc : (k : ℕ) → chance_time times (k + 1) ≤ chance_time times k + 1000 * period times
  chance_time-suc k =
      let n = length times in
      let p = period times in
      let k_is = div-add-mod k n in
      let within = place_within k in
      elim (cases_lt (k % n + 1) n) as (λ _. chance_time times (k + 1) ≤ chance_time times k + 1000 * p) [
        | inl inside ↦
            (let here : k + 1 ≡ k / n * n + (k % n + 1) = omega arith in
            let turn : (k + 1) / n ≡ k / n = ap (λ m. m / n) here ∙ div-mul-add (k / n) n (k % n + 1) inside in
            let turns : p * ((k + 1) / n) ≡ p * (k / n) = ap (λ m. p * m) turn in
            let bound = at_most_period ((k + 1) % n) (place_within (k + 1)) in
            omega arith)
        | inr outside ↦
            (let here : k + 1 ≡ (k / n + 1) * n + 0 = omega arith in
            let turn : (k + 1) / n ≡ k / n + 1 = ap (λ m. m / n) here ∙ div-mul-add (k / n + 1) n 0 trace.some in
            let place : (k + 1) % n ≡ 0 = ap (λ m. m % n) here ∙ mod-mul-add (k / n + 1) n 0 trace.some in
            let last : k % n ≡ n - 1 = omega arith in
            let is_period : get_or times (k % n) 0 ≡ p = ap (λ i. get_or times i 0) last in
            let turns : p * ((k + 1) / n) ≡ p * (k / n + 1) = ap (λ m. p * m) turn in
            let bound = at_most_period ((k + 1) % n) (place_within (k + 1)) in
            omega arith)
      ]

  -- a number of turns takes at least as many milliseconds
  pub late_chance : (at from : ℕ) → at ≤ chance_time times (from + length times * at)
  late_chance at from =
      let n = length times in
      let k = from + n * at in
      let turn : at ≤ k / n = le-div at k n trace.some (omega arith) in
      let turns : 1 * at ≤ period times * (k / n) = mul-le 1 at (period times) (k / n) trace.period turn in
      omega arith

  -- the first chance from a number on that comes at or after a time
  pub first_chance_first : (at from : ℕ) → IsFirst (λ k. leb at (chance_time times k)) from (first_chance times at from)
  first_chance_first at from = first_passing_first (λ k. leb at (chance_time times k)) (length times * at) from (le-leb _ _ (late_chance at from))

  pub first_chance_from : (at from : ℕ) → from ≤ first_chance times at from
  first_chance_from at from = (first_chance_first at from).from

  pub first_chance_at : (at from : ℕ) → at ≤ chance_time times (first_chance times at from)
  first_chance_at at from = leb-true _ _ (first_chance_first at from).passing

  pub first_chance_before : (at from j : ℕ) → from ≤ j → j < first_chance times at from → chance_time times j < at
  first_chance_before at from j above under = leb-false at (chance_time times j) ((first_chance_first at from).before j above under)

  -- a chance comes at or after a time exactly from the first such chance on
  pub first_chance_le : (at j : ℕ) → at ≤ chance_time times j → first_chance times at 0 ≤ j
  first_chance_le at j late =
      elim (cases_lt j (first_chance times at 0)) as (λ _. first_chance times at 0 ≤ j)
      [ inl below ↦ absurd (omega (arith, first_chance_before at 0 j (omega arith) below)) | inr not_below ↦ not_below ]

  pub le_first_chance : (at j : ℕ) → first_chance times at 0 ≤ j → at ≤ chance_time times j
  le_first_chance at j later =
      let rises = chance_time_rises (first_chance times at 0) j later in omega (arith, first_chance_at at 0)

  -- no such chance comes before this number
  pub first_chance_is : (at from k : ℕ) → from ≤ k → at ≤ chance_time times k → ((j : ℕ) → from ≤ j → j < k → chance_time times j < at) → first_chance times at from ≡ k
  first_chance_is at from k above late before =
      let first = first_chance_first at from in
      let not_later : first_chance times at from ≤ k =
      elim (cases_lt k (first_chance times at from)) as (λ _. first_chance times at from ≤ k)
      [ inl below ↦ absurd (omega (arith, first_chance_before at from k above below)) | inr not_below ↦ not_below ] in
      elim (cases_lt (first_chance times at from) k) as (λ _. first_chance times at from ≡ k)
      [ inl below ↦ absurd (omega (arith, before (first_chance times at from) first.from below, first_chance_at at from)) | inr not_below ↦ omega arith ]

  pub first_chance_max : (at from : ℕ) → first_chance times at from ≡ max from (first_chance times at 0)
  first_chance_max at from =
      elim (cases_lt from (first_chance times at 0)) as (λ _. first_chance times at from ≡ max from (first_chance times at 0)) [
        | inl below ↦
            (let same = first_chance_is at from (first_chance times at 0) (omega arith) (first_chance_at at 0) (λ j above under. first_chance_before at 0 j (omega arith) under) in
            omega arith)
        | inr not_below ↦
            (let same = first_chance_is at from from (omega arith) (le_first_chance at from not_below) (λ j above under. absurd (omega arith)) in
            omega arith)
      ]

  -- it comes within a period after the time
  pub first_chance_soon : (at : ℕ) → chance_time times (first_chance times at 0) ≤ at + 1000 * period times
  first_chance_soon at =
      elim (cases_lt 0 (first_chance times at 0)) as (λ _. chance_time times (first_chance times at 0) ≤ at + 1000 * period times) [
        | inl some ↦
            (let k = first_chance times at 0 in
            let before = first_chance_before at 0 (k - 1) (omega arith) (omega arith) in
            let step = chance_time-suc (k - 1) in
            let same : k - 1 + 1 ≡ k = omega arith in
            let again : chance_time times (k - 1 + 1) ≡ chance_time times k = ap (chance_time times) same in
            omega arith)
        | inr none ↦
            (let first : first_chance times at 0 ≡ 0 = omega arith in
            let same : chance_time times (first_chance times at 0) ≡ chance_time times 0 = ap (chance_time times) first in
            let bound = at_most_period (0 % length times) (place_within 0) in
            let turn : 0 / length times ≤ 0 = div-le_of_le-mul (length times) (omega arith) in
            let turns : period times * (0 / length times) ≤ period times * 0 = mul-le-mul_left (period times) turn in
            omega arith)
      ]

  -- a chance in an earlier turn, or in this one at an earlier place
  earlier_chance : (at turn place j : ℕ) → period times * turn ≤ (at + 999) / 1000 - 1 → place ≤ length times
      → ((i : ℕ) → i < place → get_or times i 0 < (at + 999) / 1000 - period times * turn) → j < turn * length times + place → chance_time times j < at
  earlier_chance at turn place j turn_before within before under =
      let n = length times in
      let p = period times in
      let j_is = div-add-mod j n in
      elim (cases_lt (j / n) turn) as (λ _. chance_time times j < at) [
        | inl earlier ↦
            (let turns : p * (j / n + 1) ≤ p * turn = mul-le-mul_left p (omega arith) in
            let bound = at_most_period (j % n) (place_within j) in
            omega (arith, trace.period))
        | inr not_earlier ↦
            (let same_turn : j / n ≤ turn =
            elim (cases_lt turn (j / n)) as (λ _. j / n ≤ turn)
            [ inl later ↦ absurd (let more : n * (turn + 1) ≤ n * (j / n) = mul-le-mul_left n (omega arith) in omega arith) | inr not_later ↦ not_later ] in
            let same : j / n ≡ turn = omega arith in
            let turns : p * (j / n) ≡ p * turn = ap (λ m. p * m) same in
            let counts : n * (j / n) ≡ n * turn = ap (λ m. n * m) same in
            let earlier = before (j % n) (omega arith) in
            omega arith)
      ]

  -- the turn of the trace in which the first chance at or after a time comes, and its place there
  pub turn_chance : (at p less turn place : ℕ) → p ≡ period times → less ≡ (at + 999) / 1000 - 1 → turn ≡ less / p
      → place ≤ length times → ((i : ℕ) → i < place → get_or times i 0 < (at + 999) / 1000 - p * turn)
      → (place < length times → (at + 999) / 1000 - p * turn ≤ get_or times place 0)
      → first_chance times at 0 ≡ turn * length times + place
  turn_chance at p less turn place p_is less_is turn_is within before from =
      let n = length times in
      let millis = (at + 999) / 1000 in
      let same_turns : p * turn ≡ period times * turn = ap (λ q. q * turn) p_is in
      let turns : turn ≡ (millis - 1) / period times = turn_is ∙ ap (λ m. m / p) less_is ∙ ap (λ q. (millis - 1) / q) p_is in
      let turn_before : period times * turn ≤ millis - 1 = omega (arith, mul-div-le (millis - 1) (period times), ap (λ m. period times * m) turns) in
      let next_turn : millis - 1 < turn * period times + period times =
      omega (arith, lt-div-mul-add {a = millis - 1} trace.period, ap (λ m. m * period times) turns) in
      let place_inside : place < n =
      elim (cases_lt place n) as (λ _. place < n)
      [ inl inside ↦ inside | inr outside ↦ absurd (omega (arith, before (n - 1) (omega (arith, trace.some)))) ] in
      let k = turn * n + place in
      let k_turn : k / n ≡ turn = div-mul-add turn n place place_inside in
      let k_place : k % n ≡ place = mod-mul-add turn n place place_inside in
      let k_turns : period times * (k / n) ≡ period times * turn = ap (λ m. period times * m) k_turn in
      let k_time : get_or times (k % n) 0 ≡ get_or times place 0 = ap (λ i. get_or times i 0) k_place in
      first_chance_is at 0 k (omega arith) (omega (arith, from place_inside))
      (λ j above under. earlier_chance at turn place j turn_before within (λ i below. omega (arith, before i below)) under)

  -- ---- a chance as a turn and a place in it

  pub time_at : (turn place : ℕ) → place < length times → chance_time times (turn * length times + place) ≡ 1000 * (period times * turn + get_or times place 0)
  time_at turn place inside =
      let n = length times in
      let k_turn : (turn * n + place) / n ≡ turn = div-mul-add turn n place inside in
      let k_place : (turn * n + place) % n ≡ place = mod-mul-add turn n place inside in
      ap (λ t. 1000 * (period times * t + get_or times ((turn * n + place) % n) 0)) k_turn
      ∙ ap (λ i. 1000 * (period times * turn + get_or times i 0)) k_place

  pub turn_below : (turn place : ℕ) → place < length times → turn ≤ chance_time times (turn * length times + place)
  turn_below turn place inside =
      let turns : 1 * turn ≤ period times * turn = mul-le 1 turn (period times) turn trace.period (omega arith) in
      omega (arith, time_at turn place inside)

  -- the place of the first chance at or after a time is one of the trace
  pub place_inside : (at p less turn place : ℕ) → p ≡ period times → less ≡ (at + 999) / 1000 - 1 → turn ≡ less / p
      → place ≤ length times → ((i : ℕ) → i < place → get_or times i 0 < (at + 999) / 1000 - p * turn) → place < length times
  place_inside at p less turn place p_is less_is turn_is within before =
      let n = length times in
      let millis = (at + 999) / 1000 in
      let same_turns : p * turn ≡ period times * turn = ap (λ q. q * turn) p_is in
      let turns : turn ≡ (millis - 1) / period times = turn_is ∙ ap (λ m. m / p) less_is ∙ ap (λ q. (millis - 1) / q) p_is in
      let next_turn : millis - 1 < turn * period times + period times =
      omega (arith, lt-div-mul-add {a = millis - 1} trace.period, ap (λ m. m * period times) turns) in
      elim (cases_lt place n) as (λ _. place < n)
      [ inl inside ↦ inside | inr outside ↦ absurd (omega (arith, before (n - 1) (omega (arith, trace.some)))) ]

-- a chance that isn't later isn't in a later turn
pub turns_rise : (n from_turn from_place to_turn to_place : ℕ) → from_place < n → to_place < n → from_turn * n + from_place ≤ to_turn * n + to_place → from_turn ≤ to_turn
turns_rise n from_turn from_place to_turn to_place from_inside to_inside order =
    elim (cases_lt to_turn from_turn) as (λ _. from_turn ≤ to_turn)
    [ inl before ↦ absurd (let more : n * (to_turn + 1) ≤ n * from_turn = mul-le-mul_left n (omega arith) in omega arith) | inr not_before ↦ not_before ]

pub turns_between : (n from_turn to_turn : ℕ) → from_turn ≤ to_turn → (to_turn - from_turn) * n + from_turn * n ≡ to_turn * n
turns_between n from_turn to_turn order =
    let more = to_turn - from_turn in
    let whole : to_turn ≡ more + from_turn = omega arith in
    let product : to_turn * n ≡ (more + from_turn) * n = ap (λ t. t * n) whole in
    omega (arith, product)

-- the definition's number is the first chance
pub is_first_chance : (times : List ℕ) → IsTrace times → (at start : ℕ) → IsFirstChance times at start (first_chance times at start)
is_first_chance times trace at start = record {
  from = first_chance_from times trace at start;
  late = first_chance_at times trace at start;
  before = first_chance_before times trace at start;
}
