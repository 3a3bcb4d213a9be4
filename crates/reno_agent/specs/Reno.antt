-- Reno, by RFC 5681, once per report, in whole numbers. Windows, caps and thresholds are in bytes, times in
-- microseconds.
--
-- What is taken from the RFC:
-- - the initial window of 2, 3 or 4 segments, and a threshold that is first as high as can be (section 3.1);
-- - slow start below the threshold, congestion avoidance from it on (3.1);
-- - growth by segment times acknowledged bytes over the window, by at least one byte (equation 3);
-- - the threshold at a loss: half of the flight, at least 2 segments (equation 4);
-- - a window of one segment and slow start after a timeout (3.1), the window at the threshold after a loss that
--   duplicate acknowledgements show (3.2).
--
-- What is this project's own:
-- - one step per report with the bytes of the whole report, and not per acknowledgement; quotients are cut;
-- - sums and products stop at 2^64-1, windows and thresholds at 4,096 segments;
-- - the flight is what is in flight at the report and what was lost since the one before;
-- - a mark is answered as a loss without lost packets;
-- - loss events are distinguished by time: what is lost or marked within one round-trip time of the last event belongs
--   to it; a timeout ends that time;
-- - the window isn't inflated while packets are retransmitted, nor deflated afterwards (steps 3 to 6 of 3.2);
-- - each timeout works the threshold out again, also if the timer had retransmitted the same segment before;
-- - the datapath's program moves the window in slow start, up to the cap that a change names;
-- - a fault of that program is answered by starting it again with the agent's window, and a report or notice of
--   another epoch is ignored.
use Rattle.std.specs.Prelude.{ℕ, ◌-◌, ◌*◌, ◌/◌, ◌^◌, ◌≤◌, ◌==◌, ◌||◌, nat_lt, nat_le, min, max, if◌then◌else◌}
use Rattle.ccp_base.specs.Limits.{most_segment_bytes, most_flight}
use Rattle.ccp_base.specs.Saturating.{◌+ˢ◌, ◌*ˢ◌, muldiv, clamped}
use Rattle.ccp_base.specs.Measurement.{measurement_of}
use Rattle.ccp_base.specs.Course.{told_epoch, first_course, role_of, course_after, change_to, initial_segments}
use Rattle.ccp_base.specs.declared.look.Role.{Role}
use Rattle.ccp_base.specs.declared.measurement.Measurement.{Measurement}
use Rattle.ccp_base.specs.declared.course.Course.{Course}
use Rattle.ccp_base.specs.declared.course.Phase.{Phase}
use Rattle.ccp_base.specs.declared.course.Phase.TheVariants.{SlowStart, Avoidance}
use Rattle.ccp_base.specs.declared.exchange.Reply.{Reply}
use Rattle.ccp_base.specs.declared.exchange.Reply.TheVariants.{Nothing, Update}
use Rattle.ccp_base.specs.declared.exchange.Told.{Told}
use Rattle.ccp_base.specs.declared.exchange.Told.TheVariants.{Report, Fault}

pub record RenoState : Type 0 where
  -- the segment's size, in bytes
  pub mss : ℕ
  pub course : Course
  -- the congestion window, in bytes
  pub window : ℕ
  -- the slow start threshold, in bytes; 2^64-1 before the first loss
  pub ssthresh : ℕ
  -- a loss or a mark before this time, in microseconds, belongs to the loss event that was answered last
  pub calm : ℕ

-- the ranges of a state
pub record IsInRange (mss window : ℕ) : Type 0 where
  pub segment : 1 ≤ mss
  pub segment_most : mss ≤ most_segment_bytes
  pub window_least : mss ≤ window
  pub window_most : window ≤ most_flight * mss

-- what a state becomes, and the reply
abbrev pub Replied : Type 0
Replied = RenoState × Reply

-- an agent in its initial state
abbrev pub first_reno : ℕ → Role → Role → RenoState
first_reno mss ss ca = record {
  mss = mss;
  course = first_course ss ca;
  window = initial_segments mss *ˢ mss;
  ssthresh = 2 ^ 64 - 1;
  calm = 0;
}

-- a window held from one segment to 4,096 segments
abbrev pub clamped_window : ℕ → ℕ → ℕ
clamped_window mss window = clamped mss (most_flight *ˢ mss) window

-- half of the flight before the losses were noticed, at least 2 segments (RFC 5681, equation 4) and at most 4,096
abbrev pub halved_flight : ℕ → Measurement → ℕ
halved_flight mss r = min (max ((r.inflight +ˢ r.loss *ˢ mss) / 2) (2 *ˢ mss)) (most_flight *ˢ mss)

-- the retransmission timer ran out: the window is one segment (RFC 5681, section 3.1)
abbrev pub after_timeout : Measurement → RenoState → Replied
after_timeout r s =
    let cut = halved_flight s.mss r in (
      record s { course = course_after SlowStart s.course; window = s.mss; ssthresh = cut; calm = 0 },
      change_to SlowStart s.course s.mss cut,
    )

-- packets were lost or marked: the window is the threshold, once in a round-trip time (RFC 5681, section 3.2)
abbrev pub after_loss : Measurement → RenoState → Replied
after_loss r s =
    let cut = halved_flight s.mss r in
    if nat_lt r.now s.calm then (s, Nothing) else (
      record s { course = course_after Avoidance s.course; window = cut; ssthresh = cut; calm = r.now +ˢ r.rtt },
      change_to Avoidance s.course cut cut,
    )

-- slow start ends if the window has reached the threshold (RFC 5681, section 3.1)
abbrev pub in_slow_start : Measurement → RenoState → Replied
in_slow_start r s =
    if nat_le s.ssthresh r.cwnd
    then (record s { course = course_after Avoidance s.course }, change_to Avoidance s.course s.window s.ssthresh)
    else (s, Nothing)

-- congestion avoidance: the window grows by about one segment in a round-trip time, and by at least one byte
-- (RFC 5681, equation 3, with the bytes of the whole report)
abbrev pub in_avoidance : Measurement → RenoState → Replied
in_avoidance r s =
    let window = clamped_window s.mss (s.window +ˢ max 1 (muldiv s.mss r.acked s.window)) in
    if r.acked == 0 then (s, Nothing) else (record s { window = window }, Update window)

-- a report without a timeout, a loss or a mark
abbrev pub in_phase : Phase → Measurement → RenoState → Replied
in_phase SlowStart r s = in_slow_start r s
in_phase Avoidance r s = in_avoidance r s

-- a report is treated by the first case that holds
abbrev pub after_measurement : Measurement → RenoState → Replied
after_measurement r s =
    if nat_lt 0 r.timeout then after_timeout r s
    else if nat_lt 0 r.loss || nat_lt 0 r.ecn then after_loss r s
    else in_phase s.course.mode r s

-- in slow start the datapath moves the window, and the agent takes it from the report
abbrev pub window_told : Phase → Measurement → RenoState → RenoState
window_told SlowStart r s = record s { window = clamped_window s.mss r.cwnd }
window_told Avoidance r s = s

-- the program stopped by a fault is started again with the phase and the window of the agent
abbrev pub after_fault : RenoState → Replied
after_fault s =
    let mode = s.course.mode in
    (record s { course = course_after mode s.course }, change_to mode s.course s.window s.ssthresh)

-- a report or fault of the agent's epoch
abbrev pub after_told : Told → RenoState → Replied
after_told (Report report) s =
    let r = measurement_of (role_of s.course.mode s.course).look report in
    after_measurement r (window_told s.course.mode r s)
after_told (Fault notice) s = after_fault s

-- Reno: a report or notice of another epoch is ignored
abbrev pub reno : RenoState → Told → Replied
reno s told = if told_epoch told == s.course.epoch then after_told told s else (s, Nothing)
