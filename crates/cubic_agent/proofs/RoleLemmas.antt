-- CUBIC keeps its two programs and its segment's size, whatever report or fault it gets.
use Rattle.std.proofs.Common.{◌≡◌, arith, refl, ◌∙◌}
use Rattle.ccp_base.specs.declared.course.Course.{Course}
use Rattle.ccp_base.specs.declared.course.Phase.{Phase}
use Rattle.ccp_base.specs.declared.course.Phase.TheVariants.{SlowStart, Avoidance}
use Rattle.ccp_base.specs.declared.exchange.Told.{Told}
use Rattle.ccp_base.specs.declared.exchange.Told.TheVariants.{Report, Fault}
use Rattle.ccp_base.specs.declared.look.Role.{Role}
use Rattle.ccp_base.specs.declared.measurement.Measurement.{Measurement}
use Rattle.ccp_base.specs.Course.{role_of}
use Rattle.ccp_base.specs.Measurement.{measurement_of}
use Rattle.cubic_agent.specs.Cubic.{CubicState, cubic, after_measurement, in_phase, window_told, after_told}

-- the programs of a course
abbrev roles_of : Course → Role × Role
roles_of course = (course.ss, course.ca)

phase_roles : (mode : Phase) (m : Measurement) (s : CubicState) → roles_of (in_phase mode m s).0.course ≡ roles_of s.course
phase_roles SlowStart m s = grind arith
phase_roles Avoidance m s = grind arith

measured_roles : (m : Measurement) (s : CubicState) → roles_of (after_measurement m s).0.course ≡ roles_of s.course
measured_roles m s = grind (arith, phase_roles)

window_roles : (mode : Phase) (m : Measurement) (s : CubicState) → roles_of (window_told mode m s).course ≡ roles_of s.course
window_roles SlowStart m s = refl
window_roles Avoidance m s = refl

told_roles : (told : Told) (s : CubicState) → roles_of (after_told told s).0.course ≡ roles_of s.course
told_roles (Report report) s =
    let m = measurement_of (role_of s.course.mode s.course).look report in
    measured_roles m (window_told s.course.mode m s) ∙ window_roles s.course.mode m s
told_roles (Fault notice) s = refl

-- the programs after a report or a fault are those before
pub kept_roles : (s : CubicState) (told : Told)
    → (cubic s told).0.course.ss ≡ s.course.ss × (cubic s told).0.course.ca ≡ s.course.ca
kept_roles s told = grind (arith, told_roles)

-- ---- the segment's size

phase_mss : (mode : Phase) (m : Measurement) (s : CubicState) → (in_phase mode m s).0.mss ≡ s.mss
phase_mss SlowStart m s = grind arith
phase_mss Avoidance m s = grind arith

measured_mss : (m : Measurement) (s : CubicState) → (after_measurement m s).0.mss ≡ s.mss
measured_mss m s = grind (arith, phase_mss)

window_mss : (mode : Phase) (m : Measurement) (s : CubicState) → (window_told mode m s).mss ≡ s.mss
window_mss SlowStart m s = refl
window_mss Avoidance m s = refl

told_mss : (told : Told) (s : CubicState) → (after_told told s).0.mss ≡ s.mss
told_mss (Report report) s =
    let m = measurement_of (role_of s.course.mode s.course).look report in
    measured_mss m (window_told s.course.mode m s) ∙ window_mss s.course.mode m s
told_mss (Fault notice) s = refl

-- the segment's size after a report or a fault is that before
pub kept_mss : (s : CubicState) (told : Told) → (cubic s told).0.mss ≡ s.mss
kept_mss s told = grind (arith, told_mss)
