-- What holds of an agent's two programs holds of each program that its replies start.
use Rattle.std.specs.Prelude.{ℕ, ◌==◌, nat_lt, nat_le, ◌||◌, Bool, true, false, if◌then◌else◌}
use Rattle.ccp_base.specs.declared.course.Course.{Course}
use Rattle.ccp_base.specs.declared.course.Phase.{Phase}
use Rattle.ccp_base.specs.declared.course.Phase.TheVariants.{SlowStart, Avoidance}
use Rattle.ccp_base.specs.declared.exchange.Reply.{Reply}
use Rattle.ccp_base.specs.declared.exchange.Reply.TheVariants.{Nothing, Update, Change}
use Rattle.ccp_base.specs.declared.exchange.Told.{Told}
use Rattle.ccp_base.specs.declared.exchange.Told.TheVariants.{Report, Fault}
use Rattle.ccp_base.specs.declared.measurement.Measurement.{Measurement}
use Rattle.ccp_base.specs.Course.{role_of, change_to, told_epoch}
use Rattle.ccp_base.specs.Measurement.{measurement_of}
use Rattle.reno_agent.specs.Reno as reno
use Rattle.cubic_agent.specs.Cubic as cubic
use Rattle.agent_core.specs.declared.agent.Agent.{Agent}
use Rattle.agent_core.specs.declared.agent.Agent.TheVariants.{Reno, Cubic}
use Rattle.agent_core.specs.Agents.{course_of, replied}

module _ (P : ℕ → Type 0) where
  -- the program that a reply starts, if it starts one
  abbrev pub Starts : Reply → Type 0
  Starts Nothing = Unit {0}
  Starts (Update cwnd) = Unit {0}
  Starts (Change program cwnd cap) = P program

  -- the programs of a course
  pub record OfCourse (course : Course) : Type 0 where
    pub ss : P course.ss.number
    pub ca : P course.ca.number

  change-starts : (mode : Phase) (course : Course) (cwnd cap : ℕ) → OfCourse course → Starts (change_to mode course cwnd cap)
  change-starts SlowStart course cwnd cap of = of.ss
  change-starts Avoidance course cwnd cap of = of.ca

  choice-starts : {S : Type 0} → (test : Bool) (one other : S × Reply) → Starts one.1 → Starts other.1 → Starts (if test then one else other).1
  choice-starts true one other first second = first
  choice-starts false one other first second = second

  -- ---- Reno

  reno-phase : (mode : Phase) (r : Measurement) (s : reno.RenoState) → OfCourse s.course → Starts (reno.in_phase mode r s).1
  reno-phase SlowStart r s of =
      choice-starts (nat_le s.ssthresh r.cwnd) _ (s, Nothing) (change-starts Avoidance s.course s.window s.ssthresh of) tt
  reno-phase Avoidance r s of = choice-starts (r.acked == 0) (s, Nothing) _ tt tt

  reno-loss : (r : Measurement) (s : reno.RenoState) → OfCourse s.course → Starts (reno.after_loss r s).1
  reno-loss r s of =
      choice-starts (nat_lt r.now s.calm) (s, Nothing) _ tt
      (change-starts Avoidance s.course (reno.halved_flight s.mss r) (reno.halved_flight s.mss r) of)

  reno-measured : (r : Measurement) (s : reno.RenoState) → OfCourse s.course → Starts (reno.after_measurement r s).1
  reno-measured r s of =
      choice-starts (nat_lt 0 r.timeout) (reno.after_timeout r s) _
      (change-starts SlowStart s.course s.mss (reno.halved_flight s.mss r) of)
      (choice-starts (nat_lt 0 r.loss || nat_lt 0 r.ecn) (reno.after_loss r s) (reno.in_phase s.course.mode r s)
      (reno-loss r s of) (reno-phase s.course.mode r s of))

  reno-reported : (mode : Phase) (r : Measurement) (s : reno.RenoState) → OfCourse s.course
      → Starts (reno.after_measurement r (reno.window_told mode r s)).1
  reno-reported SlowStart r s of = reno-measured r (reno.window_told SlowStart r s) of
  reno-reported Avoidance r s of = reno-measured r s of

  reno-told : (told : Told) (s : reno.RenoState) → OfCourse s.course → Starts (reno.after_told told s).1
  reno-told (Report report) s of = reno-reported s.course.mode (measurement_of (role_of s.course.mode s.course).look report) s of
  reno-told (Fault notice) s of = change-starts s.course.mode s.course s.window s.ssthresh of

  reno-starts : (s : reno.RenoState) (told : Told) → OfCourse s.course → Starts (reno.reno s told).1
  reno-starts s told of =
      choice-starts (told_epoch told == s.course.epoch) (reno.after_told told s) (s, Nothing) (reno-told told s of) tt

  -- ---- CUBIC

  cubic-phase : (mode : Phase) (r : Measurement) (s : cubic.CubicState) → OfCourse s.course → Starts (cubic.in_phase mode r s).1
  cubic-phase SlowStart r s of =
      choice-starts (nat_le s.ssthresh r.cwnd) _ (s, Nothing) (change-starts Avoidance s.course 0 s.ssthresh of) tt
  cubic-phase Avoidance r s of = choice-starts (r.acked == 0) (s, Nothing) _ tt tt

  cubic-loss : (r : Measurement) (s : cubic.CubicState) → OfCourse s.course → Starts (cubic.after_loss r s).1
  cubic-loss r s of =
      choice-starts (nat_lt r.now s.calm) (s, Nothing) _ tt (change-starts Avoidance s.course 0 0 of)

  cubic-measured : (r : Measurement) (s : cubic.CubicState) → OfCourse s.course → Starts (cubic.after_measurement r s).1
  cubic-measured r s of =
      choice-starts (nat_lt 0 r.timeout) (cubic.after_timeout s) _ (change-starts SlowStart s.course 0 0 of)
      (choice-starts (nat_lt 0 r.loss || nat_lt 0 r.ecn) (cubic.after_loss r s) (cubic.in_phase s.course.mode r s)
      (cubic-loss r s of) (cubic-phase s.course.mode r s of))

  cubic-reported : (mode : Phase) (r : Measurement) (s : cubic.CubicState) → OfCourse s.course
      → Starts (cubic.after_measurement r (cubic.window_told mode r s)).1
  cubic-reported SlowStart r s of = cubic-measured r (cubic.window_told SlowStart r s) of
  cubic-reported Avoidance r s of = cubic-measured r s of

  cubic-told : (told : Told) (s : cubic.CubicState) → OfCourse s.course → Starts (cubic.after_told told s).1
  cubic-told (Report report) s of = cubic-reported s.course.mode (measurement_of (role_of s.course.mode s.course).look report) s of
  cubic-told (Fault notice) s of = change-starts s.course.mode s.course 0 s.ssthresh of

  cubic-starts : (s : cubic.CubicState) (told : Told) → OfCourse s.course → Starts (cubic.cubic s told).1
  cubic-starts s told of =
      choice-starts (told_epoch told == s.course.epoch) (cubic.after_told told s) (s, Nothing) (cubic-told told s of) tt

  -- ---- an agent of either kind

  pub replied-starts : (agent : Agent) (told : Told) → OfCourse (course_of agent) → Starts (replied agent told).1
  replied-starts (Reno s) told of = reno-starts s told of
  replied-starts (Cubic s) told of = cubic-starts s told of
