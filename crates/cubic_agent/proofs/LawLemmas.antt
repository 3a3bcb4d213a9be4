-- CUBIC keeps to RFC 9438, case by case of its definition.
use Rattle.std.proofs.Common.{◌≡◌, ℕ, ◌+◌, ◌*◌, ◌/◌, ◌^◌, ◌<◌, ◌≤◌, ◌==◌, ◌||◌, Bool, true, false, List, [], ◌∷◌, refl, ap, sym, ◌∙◌, subst, arith}
use Rattle.std.specs.Prelude.{◌-◌, nat_lt, nat_le, min, max, if◌then◌else◌}
use Rattle.std.proofs.Math.Nat.{div-le_of_le-mul, mul-le-mul_right, min-le_right}
use Rattle.std.proofs.lemmas.Bool.{eq-eqb, lt-ltb, le-ltb, ltb-false}
use Rattle.std.proofs.lemmas.Bool.Decides.{nat_tests}
use Rattle.ccp_base.specs.Saturating.{◌+ˢ◌, ◌*ˢ◌, muldiv, clamped}
use Rattle.ccp_base.specs.Measurement.{measurement_of}
use Rattle.ccp_base.specs.Course.{told_epoch, role_of}
use Rattle.ccp_base.specs.declared.look.Role.{Role}
use Rattle.ccp_base.specs.declared.measurement.Measurement.{Measurement}
use Rattle.ccp_base.specs.declared.course.Phase.{Phase}
use Rattle.ccp_base.specs.declared.course.Phase.TheVariants.{SlowStart, Avoidance}
use Rattle.ccp_base.specs.declared.exchange.Report.{Report}
use Rattle.ccp_base.specs.declared.exchange.Reply.{Reply}
use Rattle.ccp_base.specs.declared.exchange.Reply.TheVariants.{Nothing, Update, Change}
use Rattle.ccp_base.specs.declared.exchange.Told.{Told}
use Rattle.ccp_base.specs.declared.exchange.Told.TheVariants as told
use Rattle.cubic_agent.specs.Window.{most_window, bytes_of, clamped_window, decreased}
use Rattle.cubic_agent.specs.Curve.{w_cubic}
use Rattle.cubic_agent.specs.Cubic.{CubicState, Replied, cubic, first_cubic, after_timeout, after_loss, in_slow_start, acked_thousandths, estimate_of, target_of, grown, in_avoidance, in_phase, after_measurement, window_told, after_fault, after_told}
use Rattle.cubic_agent.specs.CubicLaws.{IsSegment, after_all, cubic_told, read_by, reply_to, IsSomething, IfChange, OnlyChange, IsWindow, IsBounded, SetsWindow, IsGrowth, Grows, IsDecrease, ShowsLoss, Decreases, Restarts, IsCalm, IsTimely, AreTimely, IsOnce}

-- ---- tests

-- a property of one of two turns, of the second if the test fails
reply_if : (P : Reply → Type 0) (test : Bool) (a b : Replied) → P a.1 → P b.1 → P (if test then a else b).1
reply_if P true a b fits none = fits
reply_if P false a b fits none = none

reply_unless : (P : Reply → Type 0) (test : Bool) (a b : Replied) → test ≡ false → P b.1 → P (if test then a else b).1
reply_unless P test a b fails none = subst (λ (t : Bool). P (if t then a else b).1) (sym fails) none

reply_when : (P : Reply → Type 0) (test : Bool) (a b : Replied) → test ≡ true → P a.1 → P (if test then a else b).1
reply_when P test a b holds fits = subst (λ (t : Bool). P (if t then a else b).1) (sym holds) fits

none_below : (n : ℕ) → n ≡ 0 → nat_lt 0 n ≡ false
none_below n none = grind (arith, nat_tests)

one_shown : (a b : ℕ) → 0 < a + b → (nat_lt 0 a || nat_lt 0 b) ≡ true
one_shown a b some = grind (arith, nat_tests)

-- ---- numbers

bytes_within : (mss window : ℕ) → IsSegment mss → 1000 ≤ window → window ≤ most_window → IsWindow mss (bytes_of mss window)
bytes_within mss window segment least most =
    let low : 1000 * mss ≤ window * mss = mul-le-mul_right mss least in
    let high : window * mss ≤ 4096000 * mss = mul-le-mul_right mss most in
    (omega (arith, segment, low, high), omega (arith, segment, low, high))

bytes_two : (mss window : ℕ) → IsSegment mss → 2000 ≤ window → 2 * mss ≤ bytes_of mss window
bytes_two mss window segment least =
    let low : 2000 * mss ≤ window * mss = mul-le-mul_right mss least in
    omega (arith, segment, low)

bytes_exact : (mss window : ℕ) → IsSegment mss → window ≤ most_window → bytes_of mss window ≡ window * mss / 1000
bytes_exact mss window segment most =
    let high : window * mss ≤ 4096000 * mss = mul-le-mul_right mss most in
    omega (arith, segment, high)

bytes_more : (mss a b : ℕ) → a ≤ b → bytes_of mss a ≤ bytes_of mss b
bytes_more mss a b more =
    let product : a * mss ≤ b * mss = mul-le-mul_right mss more in
    omega (arith, product)

bytes_one : (mss : ℕ) → IsSegment mss → bytes_of mss 1000 ≡ mss
bytes_one mss segment = omega (arith, segment)

two_most : (n : ℕ) → 2000 ≤ max 2000 n
two_most n = omega arith

decreased_within : (window : ℕ) → window ≤ most_window → decreased window ≤ most_window
decreased_within window most = omega arith

decreased_exact : (window : ℕ) → window ≤ most_window → decreased window ≡ max 2000 (window * 7 / 10)
decreased_exact window most = omega arith

decreased_two : (mss window : ℕ) → IsSegment mss → 2 * mss ≤ bytes_of mss (decreased window)
decreased_two mss window segment = bytes_two mss (decreased window) segment (two_most ((window *ˢ 7) / 10))

is_decrease : (mss window : ℕ) → IsSegment mss → window ≤ most_window → IsDecrease mss window (bytes_of mss (decreased window))
is_decrease mss window segment most =
    let same : decreased window ≡ max 2000 (window * 7 / 10) = decreased_exact window most in
    record {
      least = decreased_two mss window segment;
      exact =
          bytes_exact mss (decreased window) segment (decreased_within window most)
          ∙ ap (λ (n : ℕ). n * mss / 1000) same;
    }

one_most : (n : ℕ) → 1000 ≤ clamped_window n
one_most n = omega arith

clamped_most : (n : ℕ) → clamped_window n ≤ most_window
clamped_most n = omega arith

-- ---- windows

-- what holds of an agent after all that it may be told
record IsReached (mss : ℕ) (s : CubicState) : Type 0 where
  bounded : IsBounded mss s
  calm : s.course.mode ≡ SlowStart → s.calm ≡ 0

-- and of the agent and its reply after one more report or notice
record IsTurn (mss : ℕ) (turn : Replied) : Type 0 where
  state : IsReached mss turn.0
  reply : SetsWindow mss turn.1

turn_if : (mss : ℕ) (test : Bool) (a b : Replied) → IsTurn mss a → IsTurn mss b → IsTurn mss (if test then a else b)
turn_if mss true a b fits none = fits
turn_if mss false a b fits none = none

grown_within : (friendly : Bool) (window estimate more : ℕ) → 1000 ≤ window → window ≤ most_window → estimate ≤ most_window
    → (1000 ≤ (if friendly then max window estimate else clamped_window more))
    × ((if friendly then max window estimate else clamped_window more) ≤ most_window)
grown_within true window estimate more least most within = (omega arith, omega arith)
grown_within false window estimate more least most within = (one_most more, clamped_most more)

estimate_within : (acked : ℕ) (s : CubicState) → estimate_of acked s ≤ most_window
estimate_within acked s = min-le_right _ most_window

module _ (mss : ℕ) (segment : IsSegment mss) where
  its_size : (s : CubicState) → IsReached mss s → IsSegment s.mss
  its_size s h = subst IsSegment (sym h.bounded.segment) segment

  in_bytes : (s : CubicState) (window : ℕ) → IsReached mss s → 1000 ≤ window → window ≤ most_window → IsWindow mss (bytes_of s.mss window)
  in_bytes s window h least most =
      subst (λ (size : ℕ). IsWindow size (bytes_of s.mss window)) h.bounded.segment (bytes_within s.mss window (its_size s h) least most)

  has_two : (s : CubicState) → IsReached mss s → 2 * mss ≤ bytes_of s.mss (decreased s.window)
  has_two s h =
      subst (λ (size : ℕ). 2 * size ≤ bytes_of s.mss (decreased s.window)) h.bounded.segment (decreased_two s.mss s.window (its_size s h))

  still : (s : CubicState) → IsReached mss s → IsTurn mss (s, Nothing)
  still s h = record { state = h; reply = tt }

  turn_timeout : (s : CubicState) → IsReached mss s → IsTurn mss (after_timeout s)
  turn_timeout s h = record {
    state = record {
      bounded = record {
        segment = h.bounded.segment;
        window_least = omega arith;
        window_most = omega arith;
        estimate_most = h.bounded.estimate_most;
        threshold = has_two s h;
      };
      calm = λ _. refl;
    };
    reply = (in_bytes s 1000 h (omega arith) (omega arith), has_two s h);
  }

  turn_loss : (r : Measurement) (s : CubicState) → IsReached mss s → IsTurn mss (after_loss r s)
  turn_loss r s h =
      let two : 2000 ≤ decreased s.window = two_most ((s.window *ˢ 7) / 10) in
      let most : decreased s.window ≤ most_window = decreased_within s.window h.bounded.window_most in
      let least : 1000 ≤ decreased s.window = omega (arith, two) in
      turn_if mss (nat_lt r.now s.calm) _ _ (still s h) (record {
        state = record {
          bounded = record {
            segment = h.bounded.segment;
            window_least = least;
            window_most = most;
            estimate_most = most;
            threshold = has_two s h;
          };
          calm = λ e. absurd (cc);
        };
        reply = (in_bytes s (decreased s.window) h least most, has_two s h);
      })

  turn_start : (r : Measurement) (s : CubicState) → IsReached mss s → IsTurn mss (in_slow_start r s)
  turn_start r s h = turn_if mss (nat_le s.ssthresh r.cwnd) _ _ (record {
    state = record {
      bounded = record {
        segment = h.bounded.segment;
        window_least = h.bounded.window_least;
        window_most = h.bounded.window_most;
        estimate_most = h.bounded.window_most;
        threshold = h.bounded.threshold;
      };
      calm = λ e. absurd (cc);
    };
    reply = (in_bytes s s.window h h.bounded.window_least h.bounded.window_most, h.bounded.threshold);
  }) (still s h)

  turn_avoidance : (r : Measurement) (s : CubicState) → IsReached mss s → IsTurn mss (in_avoidance r s)
  turn_avoidance r s h =
      let acked = acked_thousandths s.mss r in
      let estimated = record s { w_est = estimate_of acked s } in
      let t = (r.now - s.start) / 1000 in
      let gap = target_of (t +ˢ r.rtt / 1000) estimated - s.window in
      let within = grown_within (nat_lt (w_cubic s.w_max s.k t) (estimate_of acked s)) s.window (estimate_of acked s)
      (s.window +ˢ min gap ((gap *ˢ acked) / s.window)) h.bounded.window_least h.bounded.window_most (estimate_within acked s) in
      turn_if mss (r.acked == 0) _ _ (still s h) (record {
        state = record {
          bounded = record {
            segment = h.bounded.segment;
            window_least = within.0;
            window_most = within.1;
            estimate_most = estimate_within acked s;
            threshold = h.bounded.threshold;
          };
          calm = h.calm;
        };
        reply = in_bytes s (grown acked t (r.rtt / 1000) estimated) h within.0 within.1;
      })

  turn_phase : (mode : Phase) (r : Measurement) (s : CubicState) → IsReached mss s → IsTurn mss (in_phase mode r s)
  turn_phase SlowStart r s h = turn_start r s h
  turn_phase Avoidance r s h = turn_avoidance r s h

  turn_measured : (r : Measurement) (s : CubicState) → IsReached mss s → IsTurn mss (after_measurement r s)
  turn_measured r s h =
      turn_if mss (nat_lt 0 r.timeout) _ _ (turn_timeout s h)
      (turn_if mss (nat_lt 0 r.loss || nat_lt 0 r.ecn) _ _ (turn_loss r s h) (turn_phase s.course.mode r s h))

  told_window : (mode : Phase) (r : Measurement) (s : CubicState) → IsReached mss s → IsReached mss (window_told mode r s)
  told_window SlowStart r s h =
      let window = muldiv r.cwnd 1000 s.mss in
      record {
        bounded = record {
          segment = h.bounded.segment;
          window_least = one_most window;
          window_most = clamped_most window;
          estimate_most = h.bounded.estimate_most;
          threshold = h.bounded.threshold;
        };
        calm = h.calm;
      }
  told_window Avoidance r s h = h

  turn_fault : (s : CubicState) → IsReached mss s → IsTurn mss (after_fault s)
  turn_fault s h = record {
    state = record {
      bounded = record {
        segment = h.bounded.segment;
        window_least = h.bounded.window_least;
        window_most = h.bounded.window_most;
        estimate_most = h.bounded.estimate_most;
        threshold = h.bounded.threshold;
      };
      calm = h.calm;
    };
    reply = (in_bytes s s.window h h.bounded.window_least h.bounded.window_most, h.bounded.threshold);
  }

  turn_told : (heard : Told) (s : CubicState) → IsReached mss s → IsTurn mss (after_told heard s)
  turn_told (told.Report report) s h =
      let r = measurement_of (role_of s.course.mode s.course).look report in
      turn_measured r (window_told s.course.mode r s) (told_window s.course.mode r s h)
  turn_told (told.Fault notice) s h = turn_fault s h

  turn : (heard : Told) (s : CubicState) → IsReached mss s → IsTurn mss (cubic s heard)
  turn heard s h = turn_if mss (told_epoch heard == s.course.epoch) _ _ (turn_told heard s h) (still s h)

  reached_all : (tolds : List Told) (s : CubicState) → IsReached mss s → IsReached mss (after_all s tolds)
  reached_all [] s h = h
  reached_all (first ∷ later) s h = reached_all later (cubic s first).0 (turn first s h).state

  reached_first : (ss ca : Role) → IsReached mss (first_cubic mss ss ca)
  reached_first ss ca = record {
    bounded = record {
      segment = refl;
      window_least = grind (arith, nat_tests, segment);
      window_most = grind (arith, nat_tests, segment);
      estimate_most = omega arith;
      threshold = omega (arith, segment);
    };
    calm = λ _. refl;
  }

  reached : (ss ca : Role) (tolds : List Told) → IsReached mss (cubic_told mss ss ca tolds)
  reached ss ca tolds = reached_all tolds (first_cubic mss ss ca) (reached_first ss ca)

  pub bounded : (ss ca : Role) (tolds : List Told) → IsBounded mss (cubic_told mss ss ca tolds)
  bounded ss ca tolds = (reached ss ca tolds).bounded

  pub sets_window : (ss ca : Role) (tolds : List Told) (next : Told) → SetsWindow mss (cubic (cubic_told mss ss ca tolds) next).1
  sets_window ss ca tolds next = (turn next (cubic_told mss ss ca tolds) (reached ss ca tolds)).reply

-- ---- replies to reports

-- what holds of the reply in each case holds of the reply
measured_if : (P : Reply → Type 0) (r : Measurement) (s : CubicState)
    → P (after_timeout s).1 → P (after_loss r s).1 → P (in_phase s.course.mode r s).1 → P (after_measurement r s).1
measured_if P r s timeout loss phase =
    reply_if P (nat_lt 0 r.timeout) (after_timeout s) _ timeout
    (reply_if P (nat_lt 0 r.loss || nat_lt 0 r.ecn) (after_loss r s) (in_phase s.course.mode r s) loss phase)

heard_if : (P : Reply → Type 0) (s : CubicState) (report : Report)
    → P (after_told (told.Report report) s).1 → P Nothing → P (reply_to s report)
heard_if P s report heard none = reply_if P (report.epoch == s.course.epoch) (after_told (told.Report report) s) (s, Nothing) heard none

-- a state in this phase
abbrev in_mode : Phase → CubicState → CubicState
in_mode mode s = record s { course = record s.course { mode = mode } }

-- ---- growth

grown_kept : (friendly : Bool) (window estimate growth : ℕ) → window ≤ most_window
    → window ≤ (if friendly then max window estimate else clamped_window (window +ˢ growth))
grown_kept true window estimate growth most = omega arith
grown_kept false window estimate growth most = omega arith

grown_most : (friendly : Bool) (window estimate curve share : ℕ) → 1000 ≤ window
    → (if friendly then max window estimate
    else clamped_window (window +ˢ min (clamped window (window +ˢ window / 2) curve - window) share))
    ≤ max (window + window / 2) estimate
grown_most true window estimate curve share least = omega arith
grown_most false window estimate curve share least = omega arith

fast_most : (acked window : ℕ) → acked ≤ window → (1000 *ˢ acked) / window ≤ 1000
fast_most acked window few = div-le_of_le-mul window (omega (arith, few))

slow_most : (acked window : ℕ) → window ≤ most_window → acked ≤ window → (9000 *ˢ acked) / (17 *ˢ window) ≤ 1000
slow_most acked window most few = div-le_of_le-mul (17 *ˢ window) (omega (arith, few, most))

estimate_most : (slow : Bool) (estimate a b : ℕ) → a ≤ 1000 → b ≤ 1000
    → min (estimate +ˢ (if slow then a else b)) most_window ≤ estimate + 1000
estimate_most true estimate a b few fewer = omega arith
estimate_most false estimate a b few fewer = omega arith

is_growth : (r : Measurement) (s : CubicState) → 1000 ≤ s.window → s.window ≤ most_window
    → IsGrowth s r
    (bytes_of s.mss
    (grown (acked_thousandths s.mss r) ((r.now - s.start) / 1000) (r.rtt / 1000)
    (record s { w_est = estimate_of (acked_thousandths s.mss r) s })))
is_growth r s least most =
    let acked = acked_thousandths s.mss r in
    let estimate = estimate_of acked s in
    let estimated = record s { w_est = estimate } in
    let t = (r.now - s.start) / 1000 in
    let curve = w_cubic s.w_max s.k (t +ˢ r.rtt / 1000) in
    let gap = target_of (t +ˢ r.rtt / 1000) estimated - s.window in
    let share = (gap *ˢ acked) / s.window in
    let friendly = nat_lt (w_cubic s.w_max s.k t) estimate in
    record {
      kept = bytes_more s.mss s.window _ (grown_kept friendly s.window estimate (min gap share) most);
      most = bytes_more s.mss _ (max (s.window + s.window / 2) estimate) (grown_most friendly s.window estimate curve share least);
      estimate = λ few.
          estimate_most (nat_lt s.w_est s.w_prior) s.w_est ((9000 *ˢ acked) / (17 *ˢ s.window)) ((1000 *ˢ acked) / s.window)
          (slow_most acked s.window most few) (fast_most acked s.window few);
    }

grows_measured : (mode : Phase) (r : Measurement) (s : CubicState) → 1000 ≤ s.window → s.window ≤ most_window
    → Grows s r (after_measurement r (window_told mode r (in_mode mode s))).1
grows_measured SlowStart r s least most =
    let turned = window_told SlowStart r (in_mode SlowStart s) in
    measured_if (Grows s r) r turned tt
    (reply_if (Grows s r) (nat_lt r.now s.calm) _ _ tt tt)
    (reply_if (Grows s r) (nat_le s.ssthresh r.cwnd) _ _ tt tt)
grows_measured Avoidance r s least most =
    measured_if (Grows s r) r (in_mode Avoidance s) tt
    (reply_if (Grows s r) (nat_lt r.now s.calm) _ _ tt tt)
    (reply_if (Grows s r) (r.acked == 0) _ _ tt (is_growth r s least most))

grows_heard : (s : CubicState) (report : Report) → 1000 ≤ s.window → s.window ≤ most_window
    → Grows s (read_by s report) (reply_to s report)
grows_heard s report least most =
    heard_if (Grows s (read_by s report)) s report (grows_measured s.course.mode (read_by s report) s least most) tt

-- ---- losses and timeouts

-- a change to congestion avoidance at 0.7 of the window
abbrev Falls : CubicState → Reply → Type 0
Falls s reply =
    OnlyChange (λ program window cap. (program ≡ s.course.ca.number) × (cap ≡ window) × IsDecrease s.mss s.window window) reply

-- a change to slow start from one segment
abbrev Begins : CubicState → Reply → Type 0
Begins s reply =
    OnlyChange (λ program window cap. (program ≡ s.course.ss.number) × (window ≡ s.mss) × IsDecrease s.mss s.window cap) reply

falls : (r : Measurement) (s : CubicState) → IsSegment s.mss → s.window ≤ most_window → ShowsLoss r → Falls s (after_measurement r s).1
falls r s segment most shown =
    reply_unless (Falls s) (nat_lt 0 r.timeout) (after_timeout s) _ (none_below r.timeout shown.0)
    (reply_when (Falls s) (nat_lt 0 r.loss || nat_lt 0 r.ecn) (after_loss r s) (in_phase s.course.mode r s) (one_shown r.loss r.ecn shown.1)
    (reply_if (Falls s) (nat_lt r.now s.calm) _ _ tt (refl, refl, is_decrease s.mss s.window segment most)))

begins : (r : Measurement) (s : CubicState) → IsSegment s.mss → s.window ≤ most_window → 0 < r.timeout → Begins s (after_measurement r s).1
begins r s segment most out =
    reply_when (Begins s) (nat_lt 0 r.timeout) (after_timeout s) _ (lt-ltb 0 r.timeout out)
    (refl, bytes_one s.mss segment, is_decrease s.mss s.window segment most)

decreases_measured : (mode : Phase) (r : Measurement) (s : CubicState) → IsSegment s.mss → s.window ≤ most_window → ShowsLoss r
    → Decreases (in_mode mode s) r (after_measurement r (window_told mode r (in_mode mode s))).1
decreases_measured SlowStart r s segment most shown =
    falls r (window_told SlowStart r (in_mode SlowStart s)) segment (clamped_most (muldiv r.cwnd 1000 s.mss)) shown
decreases_measured Avoidance r s segment most shown = falls r (in_mode Avoidance s) segment most shown

decreases_heard : (s : CubicState) (report : Report) → IsSegment s.mss → s.window ≤ most_window → ShowsLoss (read_by s report)
    → Decreases s (read_by s report) (reply_to s report)
decreases_heard s report segment most shown =
    heard_if (Decreases s (read_by s report)) s report (decreases_measured s.course.mode (read_by s report) s segment most shown) tt

restarts_measured : (mode : Phase) (r : Measurement) (s : CubicState) → IsSegment s.mss → s.window ≤ most_window → 0 < r.timeout
    → Restarts (in_mode mode s) r (after_measurement r (window_told mode r (in_mode mode s))).1
restarts_measured SlowStart r s segment most out =
    begins r (window_told SlowStart r (in_mode SlowStart s)) segment (clamped_most (muldiv r.cwnd 1000 s.mss)) out
restarts_measured Avoidance r s segment most out = begins r (in_mode Avoidance s) segment most out

restarts_heard : (s : CubicState) (report : Report) → IsSegment s.mss → s.window ≤ most_window → 0 < (read_by s report).timeout
    → Restarts s (read_by s report) (reply_to s report)
restarts_heard s report segment most out =
    heard_if (Restarts s (read_by s report)) s report (restarts_measured s.course.mode (read_by s report) s segment most out) tt

-- ---- calm

reply_later : (P : Reply → Type 0) (before : Bool) (now calm : ℕ) (a b : Replied) → nat_lt now calm ≡ before → P a.1
    → (calm ≤ now → P b.1) → P (if before then a else b).1
reply_later P true now calm a b is early late = early
reply_later P false now calm a b is early late = late (ltb-false now calm is)

calm_loss : (r : Measurement) (s : CubicState) → IsCalm s r (after_loss r s).1
calm_loss r s = reply_later (IsCalm s r) (nat_lt r.now s.calm) r.now s.calm _ _ refl tt (λ calm. calm)

calm_measured : (mode : Phase) (r : Measurement) (s : CubicState) → (mode ≡ SlowStart → s.calm ≡ 0) → r.timeout ≡ 0
    → IsCalm s r (after_measurement r (window_told mode r (in_mode mode s))).1
calm_measured SlowStart r s start none =
    let turned = window_told SlowStart r (in_mode SlowStart s) in
    let calm : s.calm ≤ r.now = omega (arith, start refl) in
    reply_unless (IsCalm s r) (nat_lt 0 r.timeout) (after_timeout turned) _ (none_below r.timeout none)
    (reply_if (IsCalm s r) (nat_lt 0 r.loss || nat_lt 0 r.ecn) (after_loss r turned) (in_slow_start r turned) (calm_loss r turned)
    (reply_if (IsCalm s r) (nat_le s.ssthresh r.cwnd) _ _ calm tt))
calm_measured Avoidance r s start none =
    let turned = in_mode Avoidance s in
    reply_unless (IsCalm s r) (nat_lt 0 r.timeout) (after_timeout turned) _ (none_below r.timeout none)
    (reply_if (IsCalm s r) (nat_lt 0 r.loss || nat_lt 0 r.ecn) (after_loss r turned) (in_avoidance r turned) (calm_loss r turned)
    (reply_if (IsCalm s r) (r.acked == 0) _ _ tt tt))

calm_heard : (s : CubicState) (report : Report) → (s.course.mode ≡ SlowStart → s.calm ≡ 0) → (read_by s report).timeout ≡ 0
    → IsCalm s (read_by s report) (reply_to s report)
calm_heard s report start none =
    heard_if (IsCalm s (read_by s report)) s report (calm_measured s.course.mode (read_by s report) s start none) tt

-- ---- what is answered

loss_heeded : (r : Measurement) (s : CubicState) → ShowsLoss r → s.calm ≤ r.now → IsSomething (after_measurement r s).1
loss_heeded r s shown past =
    reply_unless IsSomething (nat_lt 0 r.timeout) (after_timeout s) _ (none_below r.timeout shown.0)
    (reply_when IsSomething (nat_lt 0 r.loss || nat_lt 0 r.ecn) (after_loss r s) (in_phase s.course.mode r s) (one_shown r.loss r.ecn shown.1)
    (reply_unless IsSomething (nat_lt r.now s.calm) (s, Nothing) _ (le-ltb r.now s.calm past) tt))

timeout_heeded : (r : Measurement) (s : CubicState) → 0 < r.timeout → IsSomething (after_measurement r s).1
timeout_heeded r s out = reply_when IsSomething (nat_lt 0 r.timeout) (after_timeout s) _ (lt-ltb 0 r.timeout out) tt

told_calm : (mode : Phase) (r : Measurement) (s : CubicState) → (window_told mode r s).calm ≡ s.calm
told_calm SlowStart r s = refl
told_calm Avoidance r s = refl

heeds : (s : CubicState) (report : Report) → report.epoch ≡ s.course.epoch → IsSomething (after_told (told.Report report) s).1
    → IsSomething (reply_to s report)
heeds s report same heeded =
    reply_when IsSomething (report.epoch == s.course.epoch) (after_told (told.Report report) s) (s, Nothing)
    (eq-eqb report.epoch s.course.epoch same) heeded

-- ---- one change in a round-trip time

module _ (time : ℕ) (fits : time ≤ 2 ^ 64 - 1) where
  abbrev IsPast : Replied → Type 0
  IsPast turn = time ≤ turn.0.calm

  past_if : (test : Bool) (a b : Replied) → IsPast a → IsPast b → IsPast (if test then a else b)
  past_if true a b one other = one
  past_if false a b one other = other

  past_later : (before : Bool) (now calm : ℕ) (a b : Replied) → nat_lt now calm ≡ before → IsPast a → (calm ≤ now → IsPast b)
      → IsPast (if before then a else b)
  past_later true now calm a b is early late = early
  past_later false now calm a b is early late = late (ltb-false now calm is)

  past_loss : (r : Measurement) (s : CubicState) → time ≤ s.calm → IsPast (after_loss r s)
  past_loss r s h = past_later (nat_lt r.now s.calm) r.now s.calm _ _ refl h (λ past. omega (arith, fits, h, past))

  past_phase : (mode : Phase) (r : Measurement) (s : CubicState) → time ≤ s.calm → IsPast (in_phase mode r s)
  past_phase SlowStart r s h = past_if (nat_le s.ssthresh r.cwnd) _ _ h h
  past_phase Avoidance r s h = past_if (r.acked == 0) _ _ h h

  past_measured : (r : Measurement) (s : CubicState) → r.timeout ≡ 0 → time ≤ s.calm → IsPast (after_measurement r s)
  past_measured r s none h =
      subst
      (λ (out : Bool). IsPast (if out then after_timeout s else if nat_lt 0 r.loss || nat_lt 0 r.ecn then after_loss r s else in_phase s.course.mode r s))
      (sym (none_below r.timeout none))
      (past_if (nat_lt 0 r.loss || nat_lt 0 r.ecn) _ _ (past_loss r s h) (past_phase s.course.mode r s h))

  past_window : (mode : Phase) (r : Measurement) (s : CubicState) → time ≤ s.calm → time ≤ (window_told mode r s).calm
  past_window SlowStart r s h = h
  past_window Avoidance r s h = h

  past_told : (heard : Told) (s : CubicState) → IsTimely s heard → time ≤ s.calm → IsPast (after_told heard s)
  past_told (told.Report report) s none h =
      let r = measurement_of (role_of s.course.mode s.course).look report in
      past_measured r (window_told s.course.mode r s) none (past_window s.course.mode r s h)
  past_told (told.Fault notice) s none h = h

  past_turn : (heard : Told) (s : CubicState) → IsTimely s heard → time ≤ s.calm → IsPast (cubic s heard)
  past_turn heard s none h = past_if (told_epoch heard == s.course.epoch) _ _ (past_told heard s none h) h

  past_all : (tolds : List Told) (s : CubicState) → AreTimely s tolds → time ≤ s.calm → time ≤ (after_all s tolds).calm
  past_all [] s none h = h
  past_all (first ∷ later) s none h = past_all later (cubic s first).0 none.1 (past_turn first s none.0 h)

-- a reply that isn't nothing leaves the agent calm up to this time
abbrev CalmTo : ℕ → Replied → Type 0
CalmTo time turn = IsSomething turn.1 → time ≤ turn.0.calm

calm_to_if : (time : ℕ) (test : Bool) (a b : Replied) → CalmTo time a → CalmTo time b → CalmTo time (if test then a else b)
calm_to_if time true a b one other = one
calm_to_if time false a b one other = other

calm_to_unless : (time : ℕ) (test : Bool) (a b : Replied) → test ≡ false → CalmTo time b → CalmTo time (if test then a else b)
calm_to_unless time test a b fails other = subst (λ (t : Bool). CalmTo time (if t then a else b)) (sym fails) other

calm_to_when : (time : ℕ) (test : Bool) (a b : Replied) → test ≡ true → CalmTo time a → CalmTo time (if test then a else b)
calm_to_when time test a b holds one = subst (λ (t : Bool). CalmTo time (if t then a else b)) (sym holds) one

none_said : (time : ℕ) (s : CubicState) → CalmTo time (s, Nothing)
none_said time s bad = absurd bad

calm_to_loss : (r : Measurement) (s : CubicState) → ShowsLoss r → CalmTo (r.now +ˢ r.rtt) (after_measurement r s)
calm_to_loss r s shown =
    let time = r.now +ˢ r.rtt in
    calm_to_unless time (nat_lt 0 r.timeout) (after_timeout s) _ (none_below r.timeout shown.0)
    (calm_to_when time (nat_lt 0 r.loss || nat_lt 0 r.ecn) (after_loss r s) (in_phase s.course.mode r s) (one_shown r.loss r.ecn shown.1)
    (calm_to_if time (nat_lt r.now s.calm) _ _ (none_said time s) (λ some. omega arith)))

calm_to_heard : (s : CubicState) (loss : Report) → ShowsLoss (read_by s loss)
    → CalmTo ((read_by s loss).now +ˢ (read_by s loss).rtt) (cubic s (told.Report loss))
calm_to_heard s loss shown =
    let r = read_by s loss in
    calm_to_if (r.now +ˢ r.rtt) (loss.epoch == s.course.epoch) _ _ (calm_to_loss r (window_told s.course.mode r s) shown)
    (none_said (r.now +ˢ r.rtt) s)

sum_fits : (a b : ℕ) → (a +ˢ b) ≤ 2 ^ 64 - 1
sum_fits a b = omega arith

-- a reply that comes at this time, before a later one, isn't a change
no_change : (now time calm : ℕ) (reply : Reply) → now < time → time ≤ calm → IfChange (λ program window cap. calm ≤ now) reply
    → IfChange (λ program window cap. ⊥) reply
no_change now time calm Nothing early past late = tt
no_change now time calm (Update window) early past late = tt
no_change now time calm (Change program window cap) early past late = omega (arith, early, past, late)

is_once : (mss : ℕ) → IsSegment mss → (s : CubicState) → IsReached mss s → IsOnce s
is_once mss segment s h loss next between shown some timely none early =
    let answered = (cubic s (told.Report loss)).0 in
    let later = after_all answered between in
    let r = read_by s loss in
    let time = r.now +ˢ r.rtt in
    let reached_later = reached_all mss segment between answered (turn mss segment (told.Report loss) s h).state in
    let past = past_all time (sum_fits r.now r.rtt) between answered timely (calm_to_heard s loss shown some) in
    no_change (read_by later next).now time later.calm (reply_to later next) early past
    (calm_heard later next reached_later.calm none)

-- ---- after all that an agent may be told

module _ (mss : ℕ) (segment : IsSegment mss) (ss ca : Role) (tolds : List Told) (report : Report) where
  abbrev agent : CubicState
  agent = cubic_told mss ss ca tolds

  its_segment : IsSegment agent.mss
  its_segment = subst IsSegment (sym (bounded mss segment ss ca tolds).segment) segment

  bounds : IsBounded mss agent
  bounds = bounded mss segment ss ca tolds

  pub grows : Grows agent (read_by agent report) (reply_to agent report)
  grows = grows_heard agent report bounds.window_least bounds.window_most

  pub decreases : ShowsLoss (read_by agent report) → Decreases agent (read_by agent report) (reply_to agent report)
  decreases shown = decreases_heard agent report its_segment bounds.window_most shown

  pub restarts : 0 < (read_by agent report).timeout → Restarts agent (read_by agent report) (reply_to agent report)
  restarts out = restarts_heard agent report its_segment bounds.window_most out

  pub is_calm : (read_by agent report).timeout ≡ 0 → IsCalm agent (read_by agent report) (reply_to agent report)
  is_calm none = calm_heard agent report (reached mss segment ss ca tolds).calm none

  pub answers_loss : report.epoch ≡ agent.course.epoch → ShowsLoss (read_by agent report) → agent.calm ≤ (read_by agent report).now
      → IsSomething (reply_to agent report)
  answers_loss same shown past =
      let r = read_by agent report in
      let turned = window_told agent.course.mode r agent in
      heeds agent report same
      (loss_heeded r turned shown (subst (λ (calm : ℕ). calm ≤ r.now) (sym (told_calm agent.course.mode r agent)) past))

  pub answers_timeout : report.epoch ≡ agent.course.epoch → 0 < (read_by agent report).timeout → IsSomething (reply_to agent report)
  answers_timeout same out =
      let r = read_by agent report in
      heeds agent report same (timeout_heeded r (window_told agent.course.mode r agent) out)

pub once : (mss : ℕ) → IsSegment mss → (ss ca : Role) (tolds : List Told) → IsOnce (cubic_told mss ss ca tolds)
once mss segment ss ca tolds = is_once mss segment (cubic_told mss ss ca tolds) (reached mss segment ss ca tolds)
