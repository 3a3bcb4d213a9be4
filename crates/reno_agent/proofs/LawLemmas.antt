-- Reno keeps to RFC 5681, case by case of its definition.
use Rattle.std.proofs.Common.{◌≡◌, ℕ, ◌+◌, ◌*◌, ◌/◌, ◌^◌, ◌<◌, ◌≤◌, ◌==◌, ◌||◌, Bool, true, false, List, [], ◌∷◌, refl, sym, subst, arith}
use Rattle.std.specs.Prelude.{◌-◌, nat_lt, nat_le, max, if◌then◌else◌}
use Rattle.std.proofs.Math.Nat.{div-le_of_le-mul, mul-le-mul_left, mul_comm}
use Rattle.std.proofs.lemmas.Bool.{eq-eqb, lt-ltb, le-ltb, ltb-false}
use Rattle.std.proofs.lemmas.Bool.Decides.{nat_tests}
use Rattle.ccp_base.specs.Limits.{most_flight}
use Rattle.ccp_base.specs.Saturating.{◌+ˢ◌, muldiv}
use Rattle.ccp_base.specs.Measurement.{measurement_of}
use Rattle.ccp_base.specs.Course.{told_epoch, role_of}
use Rattle.ccp_base.specs.declared.look.Role.{Role}
use Rattle.ccp_base.specs.declared.measurement.Measurement.{Measurement}
use Rattle.ccp_base.specs.declared.course.Phase.{Phase}
use Rattle.ccp_base.specs.declared.course.Phase.TheVariants.{SlowStart, Avoidance}
use Rattle.ccp_base.specs.declared.exchange.Report.{Report}
use Rattle.ccp_base.specs.declared.exchange.Reply.{Reply}
use Rattle.ccp_base.specs.declared.exchange.Reply.TheVariants.{Nothing, Update, Change}
use Rattle.ccp_base.specs.declared.exchange.Told.{Told}
use Rattle.ccp_base.specs.declared.exchange.Told.TheVariants as told
use Rattle.reno_agent.specs.Reno.{RenoState, Replied, reno, first_reno, clamped_window, halved_flight, after_timeout, after_loss, in_slow_start, in_avoidance, in_phase, after_measurement, window_told, after_fault, after_told}
use Rattle.reno_agent.specs.RenoLaws.{IsSegment, after_all, reno_told, read_by, reply_to, IsSomething, IfChange, IsWindow, IsBounded, SetsWindow, IsGrowth, Grows, IsCut, ShowsLoss, Halves, Restarts, IsCalm, IsTimely, AreTimely, IsOnce}

-- ---- tests

-- a property of one of two turns, of the second if the test fails
reply_if : (P : Reply → Type 0) (test : Bool) (a b : Replied) → P a.1 → P b.1 → P (if test then a else b).1
reply_if P true a b fits none = fits
reply_if P false a b fits none = none

reply_unless : (P : Reply → Type 0) (test : Bool) (a b : Replied) → test ≡ false → P b.1 → P (if test then a else b).1
reply_unless P test a b fails none = subst (λ (t : Bool). P (if t then a else b).1) (sym fails) none

reply_when : (P : Reply → Type 0) (test : Bool) (a b : Replied) → test ≡ true → P a.1 → P (if test then a else b).1
reply_when P test a b holds fits = subst (λ (t : Bool). P (if t then a else b).1) (sym holds) fits

none_below : (n : ℕ) → n ≡ 0 → nat_lt 0 n ≡ false
none_below n none = grind (arith, nat_tests)

one_shown : (a b : ℕ) → 0 < a + b → (nat_lt 0 a || nat_lt 0 b) ≡ true
one_shown a b some = grind (arith, nat_tests)

-- ---- numbers

cut_within : (mss : ℕ) (r : Measurement) → IsSegment mss → IsWindow mss (halved_flight mss r) × (2 * mss ≤ halved_flight mss r)
cut_within mss r segment = ((omega (arith, segment), omega (arith, segment)), omega (arith, segment))

clamped_within : (mss window : ℕ) → IsSegment mss → IsWindow mss (clamped_window mss window)
clamped_within mss window segment = (omega (arith, segment), omega (arith, segment))

is_cut : (mss : ℕ) (r : Measurement) → IsSegment mss → IsCut mss r (halved_flight mss r)
is_cut mss r segment = record {
  least = omega (arith, segment);
  most = omega (arith, segment);
  exact = omega (arith, segment);
}

-- ---- windows

-- what holds of an agent after all that it may be told
record IsReached (mss : ℕ) (s : RenoState) : Type 0 where
  bounded : IsBounded mss s
  calm : s.course.mode ≡ SlowStart → s.calm ≡ 0

-- and of the agent and its reply after one more report or notice
record IsTurn (mss : ℕ) (turn : Replied) : Type 0 where
  state : IsReached mss turn.0
  reply : SetsWindow mss turn.1

turn_if : (mss : ℕ) (test : Bool) (a b : Replied) → IsTurn mss a → IsTurn mss b → IsTurn mss (if test then a else b)
turn_if mss true a b fits none = fits
turn_if mss false a b fits none = none

module _ (mss : ℕ) (segment : IsSegment mss) where
  still : (s : RenoState) → IsReached mss s → IsTurn mss (s, Nothing)
  still s h = record { state = h; reply = tt }

  turn_timeout : (r : Measurement) (s : RenoState) → IsReached mss s → IsTurn mss (after_timeout r s)
  turn_timeout r s h =
      let same : s.mss ≡ mss = h.bounded.segment in
      let cut = cut_within s.mss r (subst IsSegment (sym same) segment) in
      record {
        state = record {
          bounded = record {
            segment = same;
            window = (omega (arith, same), omega (arith, same));
            threshold = omega (arith, same, cut.1);
          };
          calm = λ _. refl;
        };
        reply = ((omega (arith, same), omega (arith, same)), omega (arith, same, cut.1));
      }

  turn_loss : (r : Measurement) (s : RenoState) → IsReached mss s → IsTurn mss (after_loss r s)
  turn_loss r s h =
      let same : s.mss ≡ mss = h.bounded.segment in
      let cut = cut_within s.mss r (subst IsSegment (sym same) segment) in
      let window = subst (λ (size : ℕ). IsWindow size (halved_flight s.mss r)) same cut.0 in
      let least : 2 * mss ≤ halved_flight s.mss r = omega (arith, same, cut.1) in
      turn_if mss (nat_lt r.now s.calm) _ _ (still s h) (record {
        state = record {
          bounded = record { segment = same; window = window; threshold = least };
          calm = λ e. absurd (cc);
        };
        reply = (window, least);
      })

  turn_start : (r : Measurement) (s : RenoState) → IsReached mss s → IsTurn mss (in_slow_start r s)
  turn_start r s h = turn_if mss (nat_le s.ssthresh r.cwnd) _ _ (record {
    state = record {
      bounded = record { segment = h.bounded.segment; window = h.bounded.window; threshold = h.bounded.threshold };
      calm = λ e. absurd (cc);
    };
    reply = (h.bounded.window, h.bounded.threshold);
  }) (still s h)

  turn_avoidance : (r : Measurement) (s : RenoState) → IsReached mss s → IsTurn mss (in_avoidance r s)
  turn_avoidance r s h =
      let same : s.mss ≡ mss = h.bounded.segment in
      let grown = s.window +ˢ max 1 (muldiv s.mss r.acked s.window) in
      let within = clamped_within s.mss grown (subst IsSegment (sym same) segment) in
      let window = subst (λ (size : ℕ). IsWindow size (clamped_window s.mss grown)) same within in
      turn_if mss (r.acked == 0) _ _ (still s h) (record {
        state = record {
          bounded = record { segment = same; window = window; threshold = h.bounded.threshold };
          calm = h.calm;
        };
        reply = window;
      })

  turn_phase : (mode : Phase) (r : Measurement) (s : RenoState) → IsReached mss s → IsTurn mss (in_phase mode r s)
  turn_phase SlowStart r s h = turn_start r s h
  turn_phase Avoidance r s h = turn_avoidance r s h

  turn_measured : (r : Measurement) (s : RenoState) → IsReached mss s → IsTurn mss (after_measurement r s)
  turn_measured r s h =
      turn_if mss (nat_lt 0 r.timeout) _ _ (turn_timeout r s h)
      (turn_if mss (nat_lt 0 r.loss || nat_lt 0 r.ecn) _ _ (turn_loss r s h) (turn_phase s.course.mode r s h))

  told_window : (mode : Phase) (r : Measurement) (s : RenoState) → IsReached mss s → IsReached mss (window_told mode r s)
  told_window SlowStart r s h =
      let same : s.mss ≡ mss = h.bounded.segment in
      let within = clamped_within s.mss r.cwnd (subst IsSegment (sym same) segment) in
      let window = subst (λ (size : ℕ). IsWindow size (clamped_window s.mss r.cwnd)) same within in
      record { bounded = record { segment = same; window = window; threshold = h.bounded.threshold }; calm = h.calm }
  told_window Avoidance r s h = h

  turn_fault : (s : RenoState) → IsReached mss s → IsTurn mss (after_fault s)
  turn_fault s h = record {
    state = record {
      bounded = record { segment = h.bounded.segment; window = h.bounded.window; threshold = h.bounded.threshold };
      calm = h.calm;
    };
    reply = (h.bounded.window, h.bounded.threshold);
  }

  turn_told : (heard : Told) (s : RenoState) → IsReached mss s → IsTurn mss (after_told heard s)
  turn_told (told.Report report) s h =
      let r = measurement_of (role_of s.course.mode s.course).look report in
      turn_measured r (window_told s.course.mode r s) (told_window s.course.mode r s h)
  turn_told (told.Fault notice) s h = turn_fault s h

  turn : (heard : Told) (s : RenoState) → IsReached mss s → IsTurn mss (reno s heard)
  turn heard s h = turn_if mss (told_epoch heard == s.course.epoch) _ _ (turn_told heard s h) (still s h)

  reached_all : (tolds : List Told) (s : RenoState) → IsReached mss s → IsReached mss (after_all s tolds)
  reached_all [] s h = h
  reached_all (first ∷ later) s h = reached_all later (reno s first).0 (turn first s h).state

  reached_first : (ss ca : Role) → IsReached mss (first_reno mss ss ca)
  reached_first ss ca = record {
    bounded = record {
      segment = refl;
      window = (grind (arith, nat_tests, segment), grind (arith, nat_tests, segment));
      threshold = omega (arith, segment);
    };
    calm = λ _. refl;
  }

  reached : (ss ca : Role) (tolds : List Told) → IsReached mss (reno_told mss ss ca tolds)
  reached ss ca tolds = reached_all tolds (first_reno mss ss ca) (reached_first ss ca)

  pub bounded : (ss ca : Role) (tolds : List Told) → IsBounded mss (reno_told mss ss ca tolds)
  bounded ss ca tolds = (reached ss ca tolds).bounded

  pub sets_window : (ss ca : Role) (tolds : List Told) (next : Told) → SetsWindow mss (reno (reno_told mss ss ca tolds) next).1
  sets_window ss ca tolds next = (turn next (reno_told mss ss ca tolds) (reached ss ca tolds)).reply

-- ---- replies to reports

-- what holds of the reply in each case holds of the reply
measured_if : (P : Reply → Type 0) (r : Measurement) (s : RenoState)
    → P (after_timeout r s).1 → P (after_loss r s).1 → P (in_phase s.course.mode r s).1 → P (after_measurement r s).1
measured_if P r s timeout loss phase =
    reply_if P (nat_lt 0 r.timeout) (after_timeout r s) _ timeout
    (reply_if P (nat_lt 0 r.loss || nat_lt 0 r.ecn) (after_loss r s) (in_phase s.course.mode r s) loss phase)

heard_if : (P : Reply → Type 0) (s : RenoState) (report : Report)
    → P (after_told (told.Report report) s).1 → P Nothing → P (reply_to s report)
heard_if P s report heard none = reply_if P (report.epoch == s.course.epoch) (after_told (told.Report report) s) (s, Nothing) heard none

-- a state in this phase
abbrev in_mode : Phase → RenoState → RenoState
in_mode mode s = record s { course = record s.course { mode = mode } }

-- ---- growth

grown_kept : (mss window growth : ℕ) → IsSegment mss → IsWindow mss window → window ≤ clamped_window mss (window +ˢ growth)
grown_kept mss window growth segment within = omega (arith, segment, within)

grown_some : (mss window growth : ℕ) → IsSegment mss → IsWindow mss window → 1 ≤ growth → window < most_flight * mss
    → window < clamped_window mss (window +ˢ growth)
grown_some mss window growth segment within some below = omega (arith, segment, within)

grown_most : (mss window growth : ℕ) → IsSegment mss → growth ≤ mss → clamped_window mss (window +ˢ growth) ≤ window + mss
grown_most mss window growth segment few = omega (arith, segment)

growth_within : (mss acked window : ℕ) → 1 ≤ mss → acked ≤ window → max 1 (muldiv mss acked window) ≤ mss
growth_within mss acked window some few =
    let product : mss * acked ≤ window * mss = omega (arith, mul-le-mul_left mss few, mul_comm mss window) in
    let quotient : mss * acked / window ≤ mss = div-le_of_le-mul window product in
    omega (arith, some, quotient)

one_most : (n : ℕ) → 1 ≤ max 1 n
one_most n = omega arith

is_growth : (mss acked window : ℕ) → IsSegment mss → IsWindow mss window
    → IsGrowth mss acked window (clamped_window mss (window +ˢ max 1 (muldiv mss acked window)))
is_growth mss acked window segment within =
    let growth : ℕ = max 1 (muldiv mss acked window) in
    record {
      kept = grown_kept mss window growth segment within;
      some = λ below. grown_some mss window growth segment within (one_most (muldiv mss acked window)) below;
      segment = λ few. grown_most mss window growth segment (growth_within mss acked window segment.0 few);
    }

grows_measured : (mode : Phase) (r : Measurement) (s : RenoState) → IsSegment s.mss → IsWindow s.mss s.window
    → Grows s r (after_measurement r (window_told mode r (in_mode mode s))).1
grows_measured SlowStart r s segment within =
    let turned = window_told SlowStart r (in_mode SlowStart s) in
    measured_if (Grows s r) r turned tt
    (reply_if (Grows s r) (nat_lt r.now s.calm) _ _ tt tt)
    (reply_if (Grows s r) (nat_le s.ssthresh r.cwnd) _ _ tt tt)
grows_measured Avoidance r s segment within =
    measured_if (Grows s r) r (in_mode Avoidance s) tt
    (reply_if (Grows s r) (nat_lt r.now s.calm) _ _ tt tt)
    (reply_if (Grows s r) (r.acked == 0) _ _ tt (is_growth s.mss r.acked s.window segment within))

grows_heard : (s : RenoState) (report : Report) → IsSegment s.mss → IsWindow s.mss s.window
    → Grows s (read_by s report) (reply_to s report)
grows_heard s report segment within =
    heard_if (Grows s (read_by s report)) s report (grows_measured s.course.mode (read_by s report) s segment within) tt

-- ---- losses and timeouts

halves_shown : (r : Measurement) (s : RenoState) → IsSegment s.mss → ShowsLoss r → Halves s r (after_measurement r s).1
halves_shown r s segment shown =
    reply_unless (Halves s r) (nat_lt 0 r.timeout) (after_timeout r s) _ (none_below r.timeout shown.0)
    (reply_when (Halves s r) (nat_lt 0 r.loss || nat_lt 0 r.ecn) (after_loss r s) (in_phase s.course.mode r s) (one_shown r.loss r.ecn shown.1)
    (reply_if (Halves s r) (nat_lt r.now s.calm) _ _ tt (refl, refl, is_cut s.mss r segment)))

halves_measured : (mode : Phase) (r : Measurement) (s : RenoState) → IsSegment s.mss → ShowsLoss r
    → Halves s r (after_measurement r (window_told mode r s)).1
halves_measured SlowStart r s segment shown = halves_shown r (window_told SlowStart r s) segment shown
halves_measured Avoidance r s segment shown = halves_shown r s segment shown

halves_heard : (s : RenoState) (report : Report) → IsSegment s.mss → ShowsLoss (read_by s report)
    → Halves s (read_by s report) (reply_to s report)
halves_heard s report segment shown =
    heard_if (Halves s (read_by s report)) s report (halves_measured s.course.mode (read_by s report) s segment shown) tt

restarts_shown : (r : Measurement) (s : RenoState) → IsSegment s.mss → 0 < r.timeout → Restarts s r (after_measurement r s).1
restarts_shown r s segment out =
    reply_when (Restarts s r) (nat_lt 0 r.timeout) (after_timeout r s) _ (lt-ltb 0 r.timeout out) (refl, refl, is_cut s.mss r segment)

restarts_measured : (mode : Phase) (r : Measurement) (s : RenoState) → IsSegment s.mss → 0 < r.timeout
    → Restarts s r (after_measurement r (window_told mode r s)).1
restarts_measured SlowStart r s segment out = restarts_shown r (window_told SlowStart r s) segment out
restarts_measured Avoidance r s segment out = restarts_shown r s segment out

restarts_heard : (s : RenoState) (report : Report) → IsSegment s.mss → 0 < (read_by s report).timeout
    → Restarts s (read_by s report) (reply_to s report)
restarts_heard s report segment out =
    heard_if (Restarts s (read_by s report)) s report (restarts_measured s.course.mode (read_by s report) s segment out) tt

-- ---- calm

reply_later : (P : Reply → Type 0) (before : Bool) (now calm : ℕ) (a b : Replied) → nat_lt now calm ≡ before → P a.1
    → (calm ≤ now → P b.1) → P (if before then a else b).1
reply_later P true now calm a b is early late = early
reply_later P false now calm a b is early late = late (ltb-false now calm is)

calm_loss : (r : Measurement) (s : RenoState) → IsCalm s r (after_loss r s).1
calm_loss r s = reply_later (IsCalm s r) (nat_lt r.now s.calm) r.now s.calm _ _ refl tt (λ calm. calm)

calm_measured : (mode : Phase) (r : Measurement) (s : RenoState) → (mode ≡ SlowStart → s.calm ≡ 0) → r.timeout ≡ 0
    → IsCalm s r (after_measurement r (window_told mode r (in_mode mode s))).1
calm_measured SlowStart r s start none =
    let turned = window_told SlowStart r (in_mode SlowStart s) in
    let calm : s.calm ≤ r.now = omega (arith, start refl) in
    reply_unless (IsCalm s r) (nat_lt 0 r.timeout) (after_timeout r turned) _ (none_below r.timeout none)
    (reply_if (IsCalm s r) (nat_lt 0 r.loss || nat_lt 0 r.ecn) (after_loss r turned) (in_slow_start r turned) (calm_loss r turned)
    (reply_if (IsCalm s r) (nat_le s.ssthresh r.cwnd) _ _ calm tt))
calm_measured Avoidance r s start none =
    let turned = in_mode Avoidance s in
    reply_unless (IsCalm s r) (nat_lt 0 r.timeout) (after_timeout r turned) _ (none_below r.timeout none)
    (reply_if (IsCalm s r) (nat_lt 0 r.loss || nat_lt 0 r.ecn) (after_loss r turned) (in_avoidance r turned) (calm_loss r turned)
    (reply_if (IsCalm s r) (r.acked == 0) _ _ tt tt))

calm_heard : (s : RenoState) (report : Report) → (s.course.mode ≡ SlowStart → s.calm ≡ 0) → (read_by s report).timeout ≡ 0
    → IsCalm s (read_by s report) (reply_to s report)
calm_heard s report start none =
    heard_if (IsCalm s (read_by s report)) s report (calm_measured s.course.mode (read_by s report) s start none) tt

-- ---- what is answered

loss_heeded : (r : Measurement) (s : RenoState) → ShowsLoss r → s.calm ≤ r.now → IsSomething (after_measurement r s).1
loss_heeded r s shown past =
    reply_unless IsSomething (nat_lt 0 r.timeout) (after_timeout r s) _ (none_below r.timeout shown.0)
    (reply_when IsSomething (nat_lt 0 r.loss || nat_lt 0 r.ecn) (after_loss r s) (in_phase s.course.mode r s) (one_shown r.loss r.ecn shown.1)
    (reply_unless IsSomething (nat_lt r.now s.calm) (s, Nothing) _ (le-ltb r.now s.calm past) tt))

timeout_heeded : (r : Measurement) (s : RenoState) → 0 < r.timeout → IsSomething (after_measurement r s).1
timeout_heeded r s out = reply_when IsSomething (nat_lt 0 r.timeout) (after_timeout r s) _ (lt-ltb 0 r.timeout out) tt

told_calm : (mode : Phase) (r : Measurement) (s : RenoState) → (window_told mode r s).calm ≡ s.calm
told_calm SlowStart r s = refl
told_calm Avoidance r s = refl

heeds : (s : RenoState) (report : Report) → report.epoch ≡ s.course.epoch → IsSomething (after_told (told.Report report) s).1
    → IsSomething (reply_to s report)
heeds s report same heeded =
    reply_when IsSomething (report.epoch == s.course.epoch) (after_told (told.Report report) s) (s, Nothing)
    (eq-eqb report.epoch s.course.epoch same) heeded

-- ---- one change in a round-trip time

module _ (time : ℕ) (fits : time ≤ 2 ^ 64 - 1) where
  abbrev IsPast : Replied → Type 0
  IsPast turn = time ≤ turn.0.calm

  past_if : (test : Bool) (a b : Replied) → IsPast a → IsPast b → IsPast (if test then a else b)
  past_if true a b one other = one
  past_if false a b one other = other

  past_later : (before : Bool) (now calm : ℕ) (a b : Replied) → nat_lt now calm ≡ before → IsPast a → (calm ≤ now → IsPast b)
      → IsPast (if before then a else b)
  past_later true now calm a b is early late = early
  past_later false now calm a b is early late = late (ltb-false now calm is)

  past_loss : (r : Measurement) (s : RenoState) → time ≤ s.calm → IsPast (after_loss r s)
  past_loss r s h = past_later (nat_lt r.now s.calm) r.now s.calm _ _ refl h (λ past. omega (arith, fits, h, past))

  past_phase : (mode : Phase) (r : Measurement) (s : RenoState) → time ≤ s.calm → IsPast (in_phase mode r s)
  past_phase SlowStart r s h = past_if (nat_le s.ssthresh r.cwnd) _ _ h h
  past_phase Avoidance r s h = past_if (r.acked == 0) _ _ h h

  past_measured : (r : Measurement) (s : RenoState) → r.timeout ≡ 0 → time ≤ s.calm → IsPast (after_measurement r s)
  past_measured r s none h =
      subst
      (λ (out : Bool). IsPast (if out then after_timeout r s else if nat_lt 0 r.loss || nat_lt 0 r.ecn then after_loss r s else in_phase s.course.mode r s))
      (sym (none_below r.timeout none))
      (past_if (nat_lt 0 r.loss || nat_lt 0 r.ecn) _ _ (past_loss r s h) (past_phase s.course.mode r s h))

  past_window : (mode : Phase) (r : Measurement) (s : RenoState) → time ≤ s.calm → time ≤ (window_told mode r s).calm
  past_window SlowStart r s h = h
  past_window Avoidance r s h = h

  past_told : (heard : Told) (s : RenoState) → IsTimely s heard → time ≤ s.calm → IsPast (after_told heard s)
  past_told (told.Report report) s none h =
      let r = measurement_of (role_of s.course.mode s.course).look report in
      past_measured r (window_told s.course.mode r s) none (past_window s.course.mode r s h)
  past_told (told.Fault notice) s none h = h

  past_turn : (heard : Told) (s : RenoState) → IsTimely s heard → time ≤ s.calm → IsPast (reno s heard)
  past_turn heard s none h = past_if (told_epoch heard == s.course.epoch) _ _ (past_told heard s none h) h

  past_all : (tolds : List Told) (s : RenoState) → AreTimely s tolds → time ≤ s.calm → time ≤ (after_all s tolds).calm
  past_all [] s none h = h
  past_all (first ∷ later) s none h = past_all later (reno s first).0 none.1 (past_turn first s none.0 h)

-- a reply that isn't nothing leaves the agent calm up to this time
abbrev CalmTo : ℕ → Replied → Type 0
CalmTo time turn = IsSomething turn.1 → time ≤ turn.0.calm

calm_to_if : (time : ℕ) (test : Bool) (a b : Replied) → CalmTo time a → CalmTo time b → CalmTo time (if test then a else b)
calm_to_if time true a b one other = one
calm_to_if time false a b one other = other

calm_to_unless : (time : ℕ) (test : Bool) (a b : Replied) → test ≡ false → CalmTo time b → CalmTo time (if test then a else b)
calm_to_unless time test a b fails other = subst (λ (t : Bool). CalmTo time (if t then a else b)) (sym fails) other

calm_to_when : (time : ℕ) (test : Bool) (a b : Replied) → test ≡ true → CalmTo time a → CalmTo time (if test then a else b)
calm_to_when time test a b holds one = subst (λ (t : Bool). CalmTo time (if t then a else b)) (sym holds) one

none_said : (time : ℕ) (s : RenoState) → CalmTo time (s, Nothing)
none_said time s bad = absurd bad

calm_to_loss : (r : Measurement) (s : RenoState) → ShowsLoss r → CalmTo (r.now +ˢ r.rtt) (after_measurement r s)
calm_to_loss r s shown =
    let time = r.now +ˢ r.rtt in
    calm_to_unless time (nat_lt 0 r.timeout) (after_timeout r s) _ (none_below r.timeout shown.0)
    (calm_to_when time (nat_lt 0 r.loss || nat_lt 0 r.ecn) (after_loss r s) (in_phase s.course.mode r s) (one_shown r.loss r.ecn shown.1)
    (calm_to_if time (nat_lt r.now s.calm) _ _ (none_said time s) (λ some. omega arith)))

calm_to_heard : (s : RenoState) (loss : Report) → ShowsLoss (read_by s loss)
    → CalmTo ((read_by s loss).now +ˢ (read_by s loss).rtt) (reno s (told.Report loss))
calm_to_heard s loss shown =
    let r = read_by s loss in
    calm_to_if (r.now +ˢ r.rtt) (loss.epoch == s.course.epoch) _ _ (calm_to_loss r (window_told s.course.mode r s) shown)
    (none_said (r.now +ˢ r.rtt) s)

sum_fits : (a b : ℕ) → (a +ˢ b) ≤ 2 ^ 64 - 1
sum_fits a b = omega arith

-- a reply that comes at this time, before a later one, isn't a change
no_change : (now time calm : ℕ) (reply : Reply) → now < time → time ≤ calm → IfChange (λ program window cap. calm ≤ now) reply
    → IfChange (λ program window cap. ⊥) reply
no_change now time calm Nothing early past late = tt
no_change now time calm (Update window) early past late = tt
no_change now time calm (Change program window cap) early past late = omega (arith, early, past, late)

is_once : (mss : ℕ) → IsSegment mss → (s : RenoState) → IsReached mss s → IsOnce s
is_once mss segment s h loss next between shown some timely none early =
    let answered = (reno s (told.Report loss)).0 in
    let later = after_all answered between in
    let r = read_by s loss in
    let time = r.now +ˢ r.rtt in
    let reached_later = reached_all mss segment between answered (turn mss segment (told.Report loss) s h).state in
    let past = past_all time (sum_fits r.now r.rtt) between answered timely (calm_to_heard s loss shown some) in
    no_change (read_by later next).now time later.calm (reply_to later next) early past
    (calm_heard later next reached_later.calm none)

-- ---- after all that an agent may be told

module _ (mss : ℕ) (segment : IsSegment mss) (ss ca : Role) (tolds : List Told) (report : Report) where
  abbrev agent : RenoState
  agent = reno_told mss ss ca tolds

  its_segment : IsSegment agent.mss
  its_segment = subst IsSegment (sym (bounded mss segment ss ca tolds).segment) segment

  its_window : IsWindow agent.mss agent.window
  its_window =
      let bounds = bounded mss segment ss ca tolds in
      subst (λ (size : ℕ). IsWindow size agent.window) (sym bounds.segment) bounds.window

  pub grows : Grows agent (read_by agent report) (reply_to agent report)
  grows = grows_heard agent report its_segment its_window

  pub halves : ShowsLoss (read_by agent report) → Halves agent (read_by agent report) (reply_to agent report)
  halves shown = halves_heard agent report its_segment shown

  pub restarts : 0 < (read_by agent report).timeout → Restarts agent (read_by agent report) (reply_to agent report)
  restarts out = restarts_heard agent report its_segment out

  pub is_calm : (read_by agent report).timeout ≡ 0 → IsCalm agent (read_by agent report) (reply_to agent report)
  is_calm none = calm_heard agent report (reached mss segment ss ca tolds).calm none

  pub answers_loss : report.epoch ≡ agent.course.epoch → ShowsLoss (read_by agent report) → agent.calm ≤ (read_by agent report).now
      → IsSomething (reply_to agent report)
  answers_loss same shown past =
      let r = read_by agent report in
      let turned = window_told agent.course.mode r agent in
      heeds agent report same
      (loss_heeded r turned shown (subst (λ (calm : ℕ). calm ≤ r.now) (sym (told_calm agent.course.mode r agent)) past))

  pub answers_timeout : report.epoch ≡ agent.course.epoch → 0 < (read_by agent report).timeout → IsSomething (reply_to agent report)
  answers_timeout same out =
      let r = read_by agent report in
      heeds agent report same (timeout_heeded r (window_told agent.course.mode r agent) out)

pub once : (mss : ℕ) → IsSegment mss → (ss ca : Role) (tolds : List Told) → IsOnce (reno_told mss ss ca tolds)
once mss segment ss ca tolds = is_once mss segment (reno_told mss ss ca tolds) (reached mss segment ss ca tolds)
