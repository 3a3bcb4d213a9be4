-- What RFC 5681 asks of a sender, stated for Reno after any reports and notices.
use Rattle.std.specs.Prelude.{◌≡◌, ℕ, ◌+◌, ◌*◌, ◌/◌, ◌<◌, ◌≤◌, min, max, List, [], ◌∷◌}
use Rattle.ccp_base.specs.Limits.{most_segment_bytes, most_flight}
use Rattle.ccp_base.specs.Saturating.{◌+ˢ◌}
use Rattle.ccp_base.specs.Measurement.{measurement_of}
use Rattle.ccp_base.specs.Course.{role_of}
use Rattle.ccp_base.specs.declared.look.Role.{Role}
use Rattle.ccp_base.specs.declared.measurement.Measurement.{Measurement}
use Rattle.ccp_base.specs.declared.exchange.Report.{Report}
use Rattle.ccp_base.specs.declared.exchange.Reply.{Reply}
use Rattle.ccp_base.specs.declared.exchange.Reply.TheVariants.{Nothing, Update, Change}
use Rattle.ccp_base.specs.declared.exchange.Told.{Told}
use Rattle.ccp_base.specs.declared.exchange.Told.TheVariants as told
use Rattle.reno_agent.specs.Reno.{RenoState, reno, first_reno}

-- the size of a segment that a flow may have
abbrev pub IsSegment : ℕ → Type 0
IsSegment mss = (1 ≤ mss) × (mss ≤ most_segment_bytes)

-- an agent after these reports and notices, in order
abbrev pub after_all : RenoState → List Told → RenoState
after_all s [] = s
after_all s (first ∷ later) = after_all (reno s first).0 later

-- the agent of a flow after these reports and notices, from the flow's beginning
abbrev pub reno_told : ℕ → Role → Role → List Told → RenoState
reno_told mss ss ca tolds = after_all (first_reno mss ss ca) tolds

-- what the agent reads of a report
abbrev pub read_by : RenoState → Report → Measurement
read_by s report = measurement_of (role_of s.course.mode s.course).look report

abbrev pub reply_to : RenoState → Report → Reply
reply_to s report = (reno s (told.Report report)).1

-- holds for every flow, all earlier reports and notices, the fields read from the next report, and its reply
abbrev pub Always : (RenoState → Measurement → Reply → Type 0) → Type 0
Always P = (mss : ℕ) (ss ca : Role) (tolds : List Told) (report : Report) → IsSegment mss
    → P (reno_told mss ss ca tolds) (read_by (reno_told mss ss ca tolds) report) (reply_to (reno_told mss ss ca tolds) report)

-- the same of a report of the agent's epoch
abbrev pub AlwaysHeard : (RenoState → Measurement → Reply → Type 0) → Type 0
AlwaysHeard P = (mss : ℕ) (ss ca : Role) (tolds : List Told) (report : Report) → IsSegment mss
    → report.epoch ≡ (reno_told mss ss ca tolds).course.epoch
    → P (reno_told mss ss ca tolds) (read_by (reno_told mss ss ca tolds) report) (reply_to (reno_told mss ss ca tolds) report)

-- ---- replies

-- the reply isn't nothing
abbrev pub IsSomething : Reply → Type 0
IsSomething Nothing = ⊥
IsSomething (Update window) = Unit {0}
IsSomething (Change program window cap) = Unit {0}

-- if the reply is an update, its window has this property
abbrev pub IfUpdate : (ℕ → Type 0) → Reply → Type 0
IfUpdate P Nothing = Unit {0}
IfUpdate P (Update window) = P window
IfUpdate P (Change program window cap) = Unit {0}

-- if the reply is a change, its program, window and cap have this property
abbrev pub IfChange : (ℕ → ℕ → ℕ → Type 0) → Reply → Type 0
IfChange P Nothing = Unit {0}
IfChange P (Update window) = Unit {0}
IfChange P (Change program window cap) = P program window cap

-- the reply is nothing, or a change with this property
abbrev pub OnlyChange : (ℕ → ℕ → ℕ → Type 0) → Reply → Type 0
OnlyChange P Nothing = Unit {0}
OnlyChange P (Update window) = ⊥
OnlyChange P (Change program window cap) = P program window cap

-- ---- windows

-- a window from one segment to 4,096 segments
abbrev pub IsWindow : ℕ → ℕ → Type 0
IsWindow mss window = (mss ≤ window) × (window ≤ most_flight * mss)

-- the window is one, and the threshold has at least 2 segments
pub record IsBounded (mss : ℕ) (s : RenoState) : Type 0 where
  pub segment : s.mss ≡ mss
  pub window : IsWindow mss s.window
  pub threshold : 2 * mss ≤ s.ssthresh

-- the window that a reply sets is one, and a cap has at least 2 segments
abbrev pub SetsWindow : ℕ → Reply → Type 0
SetsWindow mss Nothing = Unit {0}
SetsWindow mss (Update window) = IsWindow mss window
SetsWindow mss (Change program window cap) = IsWindow mss window × (2 * mss ≤ cap)

-- ---- growth

-- a window that grew in congestion avoidance (RFC 5681, section 3.1)
pub record IsGrowth (mss acked old new : ℕ) : Type 0 where
  -- it is never lowered
  pub kept : old ≤ new
  -- it grows by at least one byte, as long as it is below 4,096 segments
  pub some : old < most_flight * mss → old < new
  -- it grows by at most one segment if at most a window was acknowledged
  pub segment : acked ≤ old → new ≤ old + mss

-- an update grows the window
abbrev pub Grows : RenoState → Measurement → Reply → Type 0
Grows s r reply = IfUpdate (λ window. IsGrowth s.mss r.acked s.window window) reply

-- ---- losses and timeouts

-- the data in flight before the losses were noticed
abbrev pub flight_of : ℕ → Measurement → ℕ
flight_of mss r = r.inflight + r.loss * mss

-- a threshold after a loss: equation 4 of RFC 5681, section 3.1, up to 4,096 segments
pub record IsCut (mss : ℕ) (r : Measurement) (threshold : ℕ) : Type 0 where
  pub least : 2 * mss ≤ threshold
  pub most : threshold ≤ max (flight_of mss r / 2) (2 * mss)
  pub exact : threshold ≡ min (max (flight_of mss r / 2) (2 * mss)) (most_flight * mss)

-- a report shows a loss or a mark, and no timeout
abbrev pub ShowsLoss : Measurement → Type 0
ShowsLoss r = (r.timeout ≡ 0) × (0 < r.loss + r.ecn)

-- the reply to a loss: congestion avoidance, with window and cap at the threshold of equation 4
abbrev pub Halves : RenoState → Measurement → Reply → Type 0
Halves s r reply =
    OnlyChange (λ program window cap. (program ≡ s.course.ca.number) × (cap ≡ window) × IsCut s.mss r window) reply

-- the reply to a timeout: slow start from one segment up to the threshold of equation 4
abbrev pub Restarts : RenoState → Measurement → Reply → Type 0
Restarts s r reply =
    OnlyChange (λ program window cap. (program ≡ s.course.ss.number) × (window ≡ s.mss) × IsCut s.mss r cap) reply

-- a change comes at the end of the loss event that was answered last, or later
abbrev pub IsCalm : RenoState → Measurement → Reply → Type 0
IsCalm s r reply = IfChange (λ program window cap. s.calm ≤ r.now) reply

-- this report shows no timeout; a notice has none
abbrev pub IsTimely : RenoState → Told → Type 0
IsTimely s (told.Report report) = (read_by s report).timeout ≡ 0
IsTimely s (told.Fault notice) = Unit {0}

abbrev pub AreTimely : RenoState → List Told → Type 0
AreTimely s [] = Unit {0}
AreTimely s (first ∷ later) = IsTimely s first × AreTimely (reno s first).0 later

-- within one round-trip time of a loss that was answered, and without a timeout meanwhile, no report is answered by a
-- change
abbrev pub IsOnce : RenoState → Type 0
IsOnce s = (loss next : Report) (between : List Told)
    → let answered = (reno s (told.Report loss)).0 in
    let later = after_all answered between in
    ShowsLoss (read_by s loss) → IsSomething (reply_to s loss)
    → AreTimely answered between → (read_by later next).timeout ≡ 0
    → (read_by later next).now < ((read_by s loss).now +ˢ (read_by s loss).rtt)
    → IfChange (λ program window cap. ⊥) (reply_to later next)
