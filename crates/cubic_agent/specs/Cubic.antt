-- CUBIC, by RFC 9438, once per report, in whole numbers. Windows are in thousandths of a segment if nothing else
-- is said, caps and thresholds in bytes, the curve's times in milliseconds, all others in microseconds.
--
-- What is taken from the RFC, with C 0.4, beta 0.7 and alpha 9/17:
-- - W_cubic and K (section 4.2), and the target from the window to half as much again;
-- - W_est, whose alpha is 1 once it has reached cwnd_prior (4.3); the window is W_est if the curve is below it;
-- - growth by the target's distance times what was acknowledged over the window (4.4, 4.5);
-- - a decrease to beta of the window, and the threshold with it, at least 2 segments (4.6); fast convergence (4.7);
-- - one segment and slow start after a timeout, and K = 0 with W_max and W_est the window when avoidance begins
--   after it (4.8); the initial window of 2, 3 or 4 segments.
--
-- What is this project's own:
-- - one step per report with the bytes of the whole report, and not per acknowledgement; quotients are cut;
-- - sums and products stop at 2^64-1, windows and W_est at 4,096 segments, the distance from K at 1,000 seconds;
-- - the threshold is beta of the window, and not of the flight;
-- - a mark is answered as a loss without lost packets, so it too leaves at least 2 segments;
-- - loss events are distinguished by time: what is lost or marked within one round-trip time of the last event belongs
--   to it; a timeout ends that time;
-- - each timeout works the threshold out again, and none is taken back as spurious;
-- - the datapath's program moves the window in slow start, up to the cap that a change names, without HyStart;
-- - slow start that ends without a loss begins the curve as after a timeout, and cwnd_prior stays as it was;
-- - a fault of that program is answered by starting it again with the agent's window, and a report or notice of
--   another epoch is ignored.
use Rattle.std.specs.Prelude.{ℕ, ◌-◌, ◌/◌, ◌^◌, ◌≤◌, ◌==◌, ◌||◌, nat_lt, nat_le, min, max, if◌then◌else◌}
use Rattle.ccp_base.specs.Limits.{most_segment_bytes}
use Rattle.ccp_base.specs.Saturating.{◌+ˢ◌, ◌*ˢ◌, muldiv, clamped}
use Rattle.ccp_base.specs.Measurement.{measurement_of}
use Rattle.ccp_base.specs.Course.{told_epoch, first_course, role_of, course_after, change_to, initial_segments}
use Rattle.ccp_base.specs.declared.look.Role.{Role}
use Rattle.ccp_base.specs.declared.measurement.Measurement.{Measurement}
use Rattle.ccp_base.specs.declared.course.Course.{Course}
use Rattle.ccp_base.specs.declared.course.Phase.{Phase}
use Rattle.ccp_base.specs.declared.course.Phase.TheVariants.{SlowStart, Avoidance}
use Rattle.ccp_base.specs.declared.exchange.Reply.{Reply}
use Rattle.ccp_base.specs.declared.exchange.Reply.TheVariants.{Nothing, Update}
use Rattle.ccp_base.specs.declared.exchange.Told.{Told}
use Rattle.ccp_base.specs.declared.exchange.Told.TheVariants.{Report, Fault}
use Rattle.cubic_agent.specs.declared.cubic.Growth.{Growth}
use Rattle.cubic_agent.specs.Window.{most_window, bytes_of, clamped_window, decreased, converged}
use Rattle.cubic_agent.specs.Curve.{w_cubic, k_of}

pub record CubicState : Type 0 where
  -- the segment's size, in bytes
  pub mss : ℕ
  pub course : Course
  -- cwnd
  pub window : ℕ
  -- W_max, where the curve is flat: the window before the last loss event, or 0.85 of it if it had shrunk since the one
  -- before that; or the window at which congestion avoidance began after slow start, if that came later
  pub w_max : ℕ
  -- cwnd_prior: the window before the last loss event or timeout
  pub w_prior : ℕ
  -- W_est: the window that Reno would have
  pub w_est : ℕ
  -- K: the time from the epoch's start to W_max, in milliseconds
  pub k : ℕ
  -- epoch_start: when congestion avoidance began, in microseconds
  pub start : ℕ
  -- the slow start threshold, in bytes; 2^64-1 before the first loss
  pub ssthresh : ℕ
  -- a loss or a mark before this time, in microseconds, belongs to the loss event that was answered last
  pub calm : ℕ

-- the window, and what determines its growth
abbrev pub growth_of : CubicState → Growth
growth_of s =
    record { window = s.window; w_max = s.w_max; w_prior = s.w_prior; w_est = s.w_est; k = s.k; start = s.start }

-- the state of these parts: the segment's size, the course, the growth, the threshold and until when it is calm
abbrev pub cubic_state : ℕ → Course → Growth → ℕ → ℕ → CubicState
cubic_state mss course growth ssthresh calm = record {
  mss = mss;
  course = course;
  window = growth.window;
  w_max = growth.w_max;
  w_prior = growth.w_prior;
  w_est = growth.w_est;
  k = growth.k;
  start = growth.start;
  ssthresh = ssthresh;
  calm = calm;
}

-- the ranges of a segment's size and of the windows
pub record IsInRange (mss : ℕ) (growth : Growth) : Type 0 where
  pub segment : 1 ≤ mss
  pub segment_most : mss ≤ most_segment_bytes
  pub window_least : 1000 ≤ growth.window
  pub window_most : growth.window ≤ most_window
  pub w_max_most : growth.w_max ≤ most_window
  pub w_prior_most : growth.w_prior ≤ most_window
  pub w_est_most : growth.w_est ≤ most_window

-- what a state becomes, and the reply
abbrev pub Replied : Type 0
Replied = CubicState × Reply

-- an agent in its initial state
abbrev pub first_cubic : ℕ → Role → Role → CubicState
first_cubic mss ss ca = record {
  mss = mss;
  course = first_course ss ca;
  window = initial_segments mss *ˢ 1000;
  w_max = 0;
  w_prior = 0;
  w_est = 0;
  k = 0;
  start = 0;
  ssthresh = 2 ^ 64 - 1;
  calm = 0;
}

-- the retransmission timer ran out: the window is one segment (RFC 9438, section 4.8)
abbrev pub after_timeout : CubicState → Replied
after_timeout s =
    let ssthresh = bytes_of s.mss (decreased s.window) in (
      record s {
        course = course_after SlowStart s.course;
        w_prior = s.window;
        ssthresh = ssthresh;
        window = 1000;
        calm = 0;
      },
      change_to SlowStart s.course (bytes_of s.mss 1000) ssthresh,
    )

-- packets were lost or marked: the window decreases, once in a round-trip time, and a new epoch of congestion
-- avoidance starts (RFC 9438, sections 4.6 and 4.7)
abbrev pub after_loss : Measurement → CubicState → Replied
after_loss r s =
    let w_max = converged s.w_max s.window in
    let window = decreased s.window in
    let ssthresh = bytes_of s.mss window in
    if nat_lt r.now s.calm then (s, Nothing) else (
      record s {
        course = course_after Avoidance s.course;
        w_prior = s.window;
        w_max = w_max;
        window = window;
        w_est = window;
        start = r.now;
        k = k_of w_max window;
        ssthresh = ssthresh;
        calm = r.now +ˢ r.rtt;
      },
      change_to Avoidance s.course ssthresh ssthresh,
    )

-- slow start ends if the window has reached the threshold; the curve then starts at its middle
-- (RFC 9438, section 4.8)
abbrev pub in_slow_start : Measurement → CubicState → Replied
in_slow_start r s =
    if nat_le s.ssthresh r.cwnd then (
      record s { course = course_after Avoidance s.course; w_max = s.window; w_est = s.window; k = 0; start = r.now },
      change_to Avoidance s.course (bytes_of s.mss s.window) s.ssthresh,
    )
    else (s, Nothing)

-- what was acknowledged, in thousandths of a segment, at most the greatest window
abbrev pub acked_thousandths : ℕ → Measurement → ℕ
acked_thousandths mss r = min most_window (muldiv r.acked 1000 mss)

-- W_est after these acknowledgements: it grows by alpha segments in a round-trip time until it has reached
-- cwnd_prior, and by one segment from then on (RFC 9438, section 4.3)
abbrev pub estimate_of : ℕ → CubicState → ℕ
estimate_of acked s =
    let slow = (9000 *ˢ acked) / (17 *ˢ s.window) in
    let fast = (1000 *ˢ acked) / s.window in
    min (s.w_est +ˢ (if nat_lt s.w_est s.w_prior then slow else fast)) most_window

-- the window of the curve, t milliseconds into the epoch, from the window to half as much again; the RFC's target is
-- that of one round-trip time from now, and `grown` adds that time (RFC 9438, section 4.2)
abbrev pub target_of : ℕ → CubicState → ℕ
target_of t s = clamped s.window (s.window +ˢ s.window / 2) (w_cubic s.w_max s.k t)

-- the window after these acknowledgements, t milliseconds into the epoch, with a round-trip time in milliseconds
abbrev pub grown : ℕ → ℕ → ℕ → CubicState → ℕ
grown acked t rtt s =
    let gap = target_of (t +ˢ rtt) s - s.window in
    -- the Reno-friendly region (RFC 9438, section 4.3)
    if nat_lt (w_cubic s.w_max s.k t) s.w_est then max s.window s.w_est
    -- the concave and the convex region (RFC 9438, sections 4.4 and 4.5)
    else clamped_window (s.window +ˢ min gap ((gap *ˢ acked) / s.window))

-- congestion avoidance: W_est first, then the window
abbrev pub in_avoidance : Measurement → CubicState → Replied
in_avoidance r s =
    let acked = acked_thousandths s.mss r in
    let estimated = record s { w_est = estimate_of acked s } in
    let window = grown acked ((r.now - s.start) / 1000) (r.rtt / 1000) estimated in
    if r.acked == 0 then (s, Nothing) else (record estimated { window = window }, Update (bytes_of s.mss window))

-- a report without a timeout, a loss or a mark
abbrev pub in_phase : Phase → Measurement → CubicState → Replied
in_phase SlowStart r s = in_slow_start r s
in_phase Avoidance r s = in_avoidance r s

-- a report is treated by the first case that holds
abbrev pub after_measurement : Measurement → CubicState → Replied
after_measurement r s =
    if nat_lt 0 r.timeout then after_timeout s
    else if nat_lt 0 r.loss || nat_lt 0 r.ecn then after_loss r s
    else in_phase s.course.mode r s

-- in slow start the datapath moves the window, and the agent takes it from the report
abbrev pub window_told : Phase → Measurement → CubicState → CubicState
window_told SlowStart r s = record s { window = clamped_window (muldiv r.cwnd 1000 s.mss) }
window_told Avoidance r s = s

-- the program stopped by a fault is started again with the phase and the window of the agent
abbrev pub after_fault : CubicState → Replied
after_fault s =
    let mode = s.course.mode in
    (record s { course = course_after mode s.course }, change_to mode s.course (bytes_of s.mss s.window) s.ssthresh)

-- a report or fault of the agent's epoch
abbrev pub after_told : Told → CubicState → Replied
after_told (Report report) s =
    let r = measurement_of (role_of s.course.mode s.course).look report in
    after_measurement r (window_told s.course.mode r s)
after_told (Fault notice) s = after_fault s

-- CUBIC: a report or notice of another epoch is ignored
abbrev pub cubic : CubicState → Told → Replied
cubic s told = if told_epoch told == s.course.epoch then after_told told s else (s, Nothing)
