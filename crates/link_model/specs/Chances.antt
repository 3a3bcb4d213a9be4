-- The chances of a trace: their numbers, when each comes, and the first one that isn't before a time.
use Rattle.std.specs.Prelude.{ℕ, zero, suc, ◌+◌, ◌*◌, ◌/◌, ◌%◌, ◌<◌, ◌≤◌, Bool, true, false, nat_le, List, length, slice_index}
use Rattle.link_model.specs.declared.chance.Chance.{Chance}
use Rattle.link_model.specs.Traces.{period}

-- the number of a chance: after the last time of a turn the next turn begins
abbrev pub chance_number : List ℕ → Chance → ℕ
chance_number times chance = chance.turn * length times + chance.place

-- when chance k of a trace comes, in microseconds: after its last time the trace begins again
abbrev pub chance_time : List ℕ → ℕ → ℕ
chance_time times k = 1000 * (period times * (k / length times) + slice_index times (k % length times))

-- chance k is the first one from a number on that comes at or after a time
pub record IsFirstChance (times : List ℕ) (at start k : ℕ) : Type 0 where
  pub from : start ≤ k
  pub late : at ≤ chance_time times k
  pub before : (j : ℕ) → start ≤ j → j < k → chance_time times j < at

-- the first number from `here` on that passes a test, if at most `steps` numbers before it fail
abbrev pub first_passing : (ℕ → Bool) → ℕ → ℕ → ℕ
first_passing passes zero here = here
first_passing passes (suc steps) here =
    elim (passes here) as (λ _. ℕ) [ true ↦ here | false ↦ first_passing passes steps (suc here) ]

-- the first chance from this number on that comes at or after a time: `Trace::first_chance_law` says of every trace
-- that it is
abbrev pub first_chance : List ℕ → ℕ → ℕ → ℕ
first_chance times at from = first_passing (λ k. nat_le at (chance_time times k)) (length times * at) from
