-- What a trace is: the times of its chances, in milliseconds, and its period.
use Rattle.std.specs.Prelude.{ℕ, ◌+◌, ◌-◌, ◌*◌, ◌<◌, ◌≤◌, List, length, slice_index}
use Rattle.ccp_base.specs.Limits.{most_trace_ms}
use Rattle.std.specs.List.Sorted.{IsNonDecreasing}

-- the last time of a trace, after which it begins again
abbrev pub period : List ℕ → ℕ
period times = slice_index times (length times - 1)

-- the longest period, in microseconds
abbrev pub longest_period : ℕ
longest_period = 1000 * most_trace_ms

-- how far after a time a chance is looked for, in microseconds: a period, and what rounds the time up to a millisecond
abbrev pub search_reach : ℕ
search_reach = longest_period + 1000

-- the times of a trace, in milliseconds: some, not falling, the last one above 0, and each up to an hour
pub record IsTrace (times : List ℕ) : Type 0 where
  pub some : 0 < length times
  pub rising : IsNonDecreasing times
  pub period : 0 < period times
  pub within : (i : ℕ) → slice_index times i ≤ most_trace_ms
