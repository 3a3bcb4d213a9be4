-- What the agents share: the programs that they start, and the window that they begin with.
use Rattle.std.specs.Prelude.{ℕ, ◌-◌, ◌^◌, nat_lt, if◌then◌else◌}
use Rattle.ccp_base.specs.Saturating.{◌+ˢ◌, ◌*ˢ◌}
use Rattle.ccp_base.specs.declared.look.Role.{Role}
use Rattle.ccp_base.specs.declared.exchange.Reply.{Reply}
use Rattle.ccp_base.specs.declared.exchange.Reply.TheVariants.{Change}
use Rattle.ccp_base.specs.declared.exchange.Told.{Told}
use Rattle.ccp_base.specs.declared.exchange.Told.TheVariants.{Report, Fault}
use Rattle.ccp_base.specs.declared.course.Course.{Course}
use Rattle.ccp_base.specs.declared.course.Phase.{Phase}
use Rattle.ccp_base.specs.declared.course.Phase.TheVariants.{SlowStart, Avoidance}

-- the epoch of a report or notice
abbrev pub told_epoch : Told → ℕ
told_epoch (Report report) = report.epoch
told_epoch (Fault notice) = notice.epoch

-- an agent's course before its first report or notice
abbrev pub first_course : Role → Role → Course
first_course ss ca = record { ss = ss; ca = ca; mode = SlowStart; epoch = 0 }

-- the program of a mode
abbrev pub role_of : Phase → Course → Role
role_of SlowStart course = course.ss
role_of Avoidance course = course.ca

-- the course after a change to the program of a mode
abbrev pub course_after : Phase → Course → Course
course_after mode course = record course { mode = mode; epoch = course.epoch +ˢ 1 }

-- the change to the program of a mode, with its window and cap in bytes
abbrev pub change_to : Phase → Course → ℕ → ℕ → Reply
change_to mode course cwnd cap = Change (role_of mode course).number cwnd cap

-- the segments of the initial window, by the segment's size in bytes (RFC 5681, section 3.1)
abbrev pub initial_segments : ℕ → ℕ
initial_segments mss = if nat_lt 2190 mss then 2 else if nat_lt 1095 mss then 3 else 4

-- the change that an agent begins with: slow start from the initial window, without a cap
abbrev pub opening_of : ℕ → Course → Reply
opening_of mss course = change_to SlowStart course (initial_segments mss *ˢ mss) (2 ^ 64 - 1)
