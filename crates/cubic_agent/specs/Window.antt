-- Windows in thousandths of a segment. The RFC's beta is 0.7.
use Rattle.std.specs.Prelude.{ℕ, ◌*◌, ◌/◌, nat_lt, max, if◌then◌else◌}
use Rattle.ccp_base.specs.Limits.{most_flight}
use Rattle.ccp_base.specs.Saturating.{◌*ˢ◌, clamped}

-- a window in bytes
abbrev pub bytes_of : ℕ → ℕ → ℕ
bytes_of mss window = (window *ˢ mss) / 1000

-- the greatest window
abbrev pub most_window : ℕ
most_window = 1000 * most_flight

-- a window held from one segment to 4,096 segments
abbrev pub clamped_window : ℕ → ℕ
clamped_window window = clamped 1000 most_window window

-- the window after a loss event: beta of the one before, at least 2 segments (RFC 9438, section 4.6)
abbrev pub decreased : ℕ → ℕ
decreased window = max 2000 ((window *ˢ 7) / 10)

-- W_max after a loss event: the window, but (1 + beta) / 2 of it if it didn't reach the last W_max, so that
-- the flow gives way to newer ones (fast convergence: RFC 9438, section 4.7)
abbrev pub converged : ℕ → ℕ → ℕ
converged w_max window = if nat_lt window w_max then (window *ˢ 17) / 20 else window
