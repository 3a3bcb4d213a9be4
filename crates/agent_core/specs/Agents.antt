-- What an agent of either kind replies, and what its reply writes.
use Rattle.std.specs.Prelude.{ℕ, ◌==◌, if◌then◌else◌, Option, Some, None, List, [], ◌∷◌, ◌++◌}
use Rattle.ccp_base.specs.FieldReg.{Pair}
use Rattle.ccp_base.specs.declared.fields.FieldReg.TheVariants.{Cwnd, Control}
use Rattle.ccp_base.specs.declared.course.Course.{Course}
use Rattle.ccp_base.specs.declared.exchange.Reply.{Reply}
use Rattle.ccp_base.specs.declared.exchange.Reply.TheVariants.{Nothing, Update, Change}
use Rattle.ccp_base.specs.declared.exchange.Told.{Told}
use Rattle.ccp_base.specs.Course.{opening_of}
use Rattle.reno_agent.specs.Reno.{RenoState, reno}
use Rattle.cubic_agent.specs.Cubic.{CubicState, cubic}
use Rattle.agent_core.specs.declared.agent.Agent.{Agent}
use Rattle.agent_core.specs.declared.agent.Agent.TheVariants.{Reno, Cubic}

abbrev pub course_of : Agent → Course
course_of (Reno state) = state.course
course_of (Cubic state) = state.course

abbrev pub mss_of : Agent → ℕ
mss_of (Reno state) = state.mss
mss_of (Cubic state) = state.mss

-- the change that an agent begins with
abbrev pub opening_change : Agent → Reply
opening_change agent = opening_of (mss_of agent) (course_of agent)

abbrev pub as_reno : RenoState × Reply → Agent × Reply
as_reno turn = (Reno turn.0, turn.1)

abbrev pub as_cubic : CubicState × Reply → Agent × Reply
as_cubic turn = (Cubic turn.0, turn.1)

-- the agent after a report or a fault, and its reply
abbrev pub replied : Agent → Told → Agent × Reply
replied (Reno state) told = as_reno (reno state told)
replied (Cubic state) told = as_cubic (cubic state told)

abbrev pub cap_of : Course → ℕ → Option ℕ
cap_of course program =
    if course.ss.number == program then course.ss.look.cap
    else if course.ca.number == program then course.ca.look.cap else None

abbrev pub segment_of : Course → ℕ → Option ℕ
segment_of course program =
    if course.ss.number == program then course.ss.look.mss
    else if course.ca.number == program then course.ca.look.mss else None

abbrev pub window_pair : ℕ → List Pair
window_pair cwnd = (Cwnd, cwnd) ∷ []

-- a control variable's value, if there is such a variable
abbrev pub control_pair : Option ℕ → ℕ → List Pair
control_pair None value = []
control_pair (Some number) value = (Control number, value) ∷ []

-- what a reply writes: nothing, the window, or for a change the window, the cap and the segment's size, the last
-- two if the new program has control variables for them
abbrev pub values_of : Agent → Reply → List Pair
values_of agent Nothing = []
values_of agent (Update cwnd) = window_pair cwnd
values_of agent (Change program cwnd cap) =
    (window_pair cwnd ++ control_pair (cap_of (course_of agent) program) cap)
    ++ control_pair (segment_of (course_of agent) program) (mss_of agent)
