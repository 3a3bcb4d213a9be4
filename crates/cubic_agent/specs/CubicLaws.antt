-- What RFC 9438 asks of a sender, stated for CUBIC after any reports and notices.
use Rattle.std.specs.Prelude.{◌≡◌, ℕ, ◌+◌, ◌*◌, ◌/◌, ◌<◌, ◌≤◌, max, List, [], ◌∷◌}
use Rattle.ccp_base.specs.Limits.{most_segment_bytes, most_flight}
use Rattle.ccp_base.specs.Saturating.{◌+ˢ◌}
use Rattle.ccp_base.specs.Measurement.{measurement_of}
use Rattle.ccp_base.specs.Course.{role_of}
use Rattle.ccp_base.specs.declared.look.Role.{Role}
use Rattle.ccp_base.specs.declared.measurement.Measurement.{Measurement}
use Rattle.ccp_base.specs.declared.exchange.Report.{Report}
use Rattle.ccp_base.specs.declared.exchange.Reply.{Reply}
use Rattle.ccp_base.specs.declared.exchange.Reply.TheVariants.{Nothing, Update, Change}
use Rattle.ccp_base.specs.declared.exchange.Told.{Told}
use Rattle.ccp_base.specs.declared.exchange.Told.TheVariants as told
use Rattle.cubic_agent.specs.Window.{most_window, bytes_of}
use Rattle.cubic_agent.specs.Cubic.{CubicState, cubic, first_cubic, window_told, estimate_of, acked_thousandths}

-- the size of a segment that a flow may have
abbrev pub IsSegment : ℕ → Type 0
IsSegment mss = (1 ≤ mss) × (mss ≤ most_segment_bytes)

-- an agent after these reports and notices, in order
abbrev pub after_all : CubicState → List Told → CubicState
after_all s [] = s
after_all s (first ∷ later) = after_all (cubic s first).0 later

-- the agent of a flow after these reports and notices, from the flow's beginning
abbrev pub cubic_told : ℕ → Role → Role → List Told → CubicState
cubic_told mss ss ca tolds = after_all (first_cubic mss ss ca) tolds

-- what the agent reads of a report
abbrev pub read_by : CubicState → Report → Measurement
read_by s report = measurement_of (role_of s.course.mode s.course).look report

abbrev pub reply_to : CubicState → Report → Reply
reply_to s report = (cubic s (told.Report report)).1

-- holds for every flow, all earlier reports and notices, the fields read from the next report, and its reply
abbrev pub Always : (CubicState → Measurement → Reply → Type 0) → Type 0
Always P = (mss : ℕ) (ss ca : Role) (tolds : List Told) (report : Report) → IsSegment mss
    → P (cubic_told mss ss ca tolds) (read_by (cubic_told mss ss ca tolds) report) (reply_to (cubic_told mss ss ca tolds) report)

-- the same of a report of the agent's epoch
abbrev pub AlwaysHeard : (CubicState → Measurement → Reply → Type 0) → Type 0
AlwaysHeard P = (mss : ℕ) (ss ca : Role) (tolds : List Told) (report : Report) → IsSegment mss
    → report.epoch ≡ (cubic_told mss ss ca tolds).course.epoch
    → P (cubic_told mss ss ca tolds) (read_by (cubic_told mss ss ca tolds) report) (reply_to (cubic_told mss ss ca tolds) report)

-- ---- replies

-- the reply isn't nothing
abbrev pub IsSomething : Reply → Type 0
IsSomething Nothing = ⊥
IsSomething (Update window) = Unit {0}
IsSomething (Change program window cap) = Unit {0}

-- if the reply is an update, its window has this property
abbrev pub IfUpdate : (ℕ → Type 0) → Reply → Type 0
IfUpdate P Nothing = Unit {0}
IfUpdate P (Update window) = P window
IfUpdate P (Change program window cap) = Unit {0}

-- if the reply is a change, its program, window and cap have this property
abbrev pub IfChange : (ℕ → ℕ → ℕ → Type 0) → Reply → Type 0
IfChange P Nothing = Unit {0}
IfChange P (Update window) = Unit {0}
IfChange P (Change program window cap) = P program window cap

-- the reply is nothing, or a change with this property
abbrev pub OnlyChange : (ℕ → ℕ → ℕ → Type 0) → Reply → Type 0
OnlyChange P Nothing = Unit {0}
OnlyChange P (Update window) = ⊥
OnlyChange P (Change program window cap) = P program window cap

-- ---- windows

-- a window in bytes from one segment to 4,096 segments
abbrev pub IsWindow : ℕ → ℕ → Type 0
IsWindow mss window = (mss ≤ window) × (window ≤ most_flight * mss)

-- the agent's windows, in thousandths of a segment, end at 4,096 segments, the window begins at one, and the
-- threshold has at least 2
pub record IsBounded (mss : ℕ) (s : CubicState) : Type 0 where
  pub segment : s.mss ≡ mss
  pub window_least : 1000 ≤ s.window
  pub window_most : s.window ≤ most_window
  pub estimate_most : s.w_est ≤ most_window
  pub threshold : 2 * mss ≤ s.ssthresh

-- the window that a reply sets is one, and a cap has at least 2 segments
abbrev pub SetsWindow : ℕ → Reply → Type 0
SetsWindow mss Nothing = Unit {0}
SetsWindow mss (Update window) = IsWindow mss window
SetsWindow mss (Change program window cap) = IsWindow mss window × (2 * mss ≤ cap)

-- ---- growth

-- W_est after a report
abbrev pub estimated : CubicState → Measurement → ℕ
estimated s r = estimate_of (acked_thousandths s.mss r) s

-- a window in bytes that grew in congestion avoidance (RFC 9438, sections 4.2 to 4.5)
pub record IsGrowth (s : CubicState) (r : Measurement) (window : ℕ) : Type 0 where
  -- it is never lowered
  pub kept : bytes_of s.mss s.window ≤ window
  -- it grows to at most half as much again, or to W_est
  pub most : window ≤ bytes_of s.mss (max (s.window + s.window / 2) (estimated s r))
  -- W_est grows by at most one segment if at most a window was acknowledged
  pub estimate : acked_thousandths s.mss r ≤ s.window → estimated s r ≤ s.w_est + 1000

-- an update grows the window
abbrev pub Grows : CubicState → Measurement → Reply → Type 0
Grows s r reply = IfUpdate (λ window. IsGrowth s r window) reply

-- ---- losses and timeouts

-- the window when a report comes: in slow start it is the report's
abbrev pub window_at : CubicState → Measurement → ℕ
window_at s r = (window_told s.course.mode r s).window

-- a threshold in bytes after a loss: beta, 0.7, of the window, at least 2 segments (RFC 9438, section 4.6)
pub record IsDecrease (mss window threshold : ℕ) : Type 0 where
  pub least : 2 * mss ≤ threshold
  pub exact : threshold ≡ max 2000 (window * 7 / 10) * mss / 1000

-- a report shows a loss or a mark, and no timeout
abbrev pub ShowsLoss : Measurement → Type 0
ShowsLoss r = (r.timeout ≡ 0) × (0 < r.loss + r.ecn)

-- the reply to a loss: congestion avoidance, with window and cap at 0.7 of the window
abbrev pub Decreases : CubicState → Measurement → Reply → Type 0
Decreases s r reply =
    OnlyChange (λ program window cap. (program ≡ s.course.ca.number) × (cap ≡ window) × IsDecrease s.mss (window_at s r) window)
    reply

-- the reply to a timeout: slow start from one segment up to 0.7 of the window
abbrev pub Restarts : CubicState → Measurement → Reply → Type 0
Restarts s r reply =
    OnlyChange (λ program window cap. (program ≡ s.course.ss.number) × (window ≡ s.mss) × IsDecrease s.mss (window_at s r) cap)
    reply

-- a change comes at the end of the loss event that was answered last, or later
abbrev pub IsCalm : CubicState → Measurement → Reply → Type 0
IsCalm s r reply = IfChange (λ program window cap. s.calm ≤ r.now) reply

-- this report shows no timeout; a notice has none
abbrev pub IsTimely : CubicState → Told → Type 0
IsTimely s (told.Report report) = (read_by s report).timeout ≡ 0
IsTimely s (told.Fault notice) = Unit {0}

abbrev pub AreTimely : CubicState → List Told → Type 0
AreTimely s [] = Unit {0}
AreTimely s (first ∷ later) = IsTimely s first × AreTimely (cubic s first).0 later

-- within one round-trip time of a loss that was answered, and without a timeout meanwhile, no report is answered by a
-- change
abbrev pub IsOnce : CubicState → Type 0
IsOnce s = (loss next : Report) (between : List Told)
    → let answered = (cubic s (told.Report loss)).0 in
    let later = after_all answered between in
    ShowsLoss (read_by s loss) → IsSomething (reply_to s loss)
    → AreTimely answered between → (read_by later next).timeout ≡ 0
    → (read_by later next).now < ((read_by s loss).now +ˢ (read_by s loss).rtt)
    → IfChange (λ program window cap. ⊥) (reply_to later next)
