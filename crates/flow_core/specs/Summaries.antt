-- A flow without its history: its summary is what later letters depend on, and a letter makes the next summary of it.
use Rattle.std.specs.Prelude.{ℕ, Bool, not, ◌&&◌, nat_lt, is_some, is_none, Option, Some, None, option_map}
use Rattle.std.specs.Prelude.{List, length, map}
use Rattle.ccp_base.specs.declared.ack.Ack.{Ack}
use Rattle.ccp_base.specs.declared.arithmetic.FaultKind.{FaultKind}
use Rattle.ccp_base.specs.declared.exchange.Notice.{Notice}
use Rattle.ccp_base.specs.declared.exchange.Report.{Report}
use Rattle.ccp_base.specs.declared.exchange.Reply.{Reply}
use Rattle.ccp_base.specs.declared.exchange.Reply.TheVariants.{Nothing, Update, Change}
use Rattle.ccp_base.specs.FieldReg.{Pair}
use Rattle.portus_core.specs.declared.env.Env.{Env}
use Rattle.portus_core.specs.Epoch.{Outcome, Track}
use Rattle.agent_core.specs.declared.agent.Agent.{Agent}
use Rattle.agent_core.specs.Agents.{replied, values_of}
use Rattle.flow_core.specs.declared.letter.Letter.{Letter}
use Rattle.flow_core.specs.declared.letter.Letter.TheVariants.{A, T, C}
use Rattle.flow_core.specs.declared.running.Issued.{Issued}
use Rattle.flow_core.specs.Readings.{Flow}
use Rattle.flow_core.specs.World.{World, track_of, time_of, notice_of}
use Rattle.flow_core.specs.States.{issued_as}
use Rattle.flow_core.specs.LiveText.{report_count}
use Rattle.flow_core.specs.Books.{ticket_line}
use Rattle.flow_core.specs.Runnings.{RunningSummary, step_outcome, outcome_for, can_tell, step_issue, step_closed, step_values}

-- the present epoch's program, its number and its track; how many acknowledgements are in and the time of the
-- last one; the reports that wait and a notice that is untold; the agent; the ticket that is out; how many tickets were
-- answered, and how many of them told a report; how many faults there were, and how many reports were held
pub record Summary : Type 0 where
  pub program : ℕ
  pub epoch : ℕ
  pub track : Track
  pub acks : ℕ
  pub time : ℕ
  pub waiting : List Report
  pub untold : Option Notice
  pub agent : Agent
  pub out : Option Issued
  pub answered : ℕ
  pub told : ℕ
  pub faults : ℕ
  pub held : ℕ

-- the summary of a world
abbrev pub summary : {X : Type 0} → Flow X → World X → Summary
summary flow w = record {
  program = w.present.program;
  epoch = length w.past;
  track = track_of flow w;
  acks = length w.acks;
  time = time_of w.acks;
  waiting = w.waiting;
  untold = option_map (notice_of flow) w.untold;
  agent = w.agent;
  out = option_map (issued_as flow) w.out;
  answered = length w.answered;
  told = report_count (map (ticket_line flow) w.answered);
  faults = length w.faults;
  held = w.held;
}

-- what it has of the program that runs, without its agent
abbrev pub running_of : Summary → RunningSummary
running_of s = record {
  program = s.program;
  epoch = s.epoch;
  track = s.track;
  acks = s.acks;
  time = s.time;
  waiting = s.waiting;
  untold = s.untold;
  out = s.out;
  answered = s.answered;
  told = s.told;
  faults = s.faults;
  held = s.held;
}

-- the summary of a flow with this agent, of the program that runs
abbrev pub summary_with : Agent → RunningSummary → Summary
summary_with agent s = record {
  program = s.program;
  epoch = s.epoch;
  track = s.track;
  acks = s.acks;
  time = s.time;
  waiting = s.waiting;
  untold = s.untold;
  agent = agent;
  out = s.out;
  answered = s.answered;
  told = s.told;
  faults = s.faults;
  held = s.held;
}

-- a step that leaves the agent as it is
abbrev pub on_running : (RunningSummary → RunningSummary) → Summary → Summary
on_running step s = summary_with s.agent (step (running_of s))

-- ---- an acknowledgement

-- the outcome of an acknowledgement, and the env after it
abbrev pub outcome_at : {X : Type 0} → Flow X → Ack → Summary → Outcome (FaultKind × X) × Env
outcome_at flow ack s = outcome_for (flow.reading s.program) flow.slots ack (running_of s)

abbrev pub step_ack : {X : Type 0} → Flow X → Ack → Summary → Summary
step_ack flow ack s = on_running (step_outcome flow.number flow.index ack (outcome_at flow ack s)) s

-- ---- a ticket is taken

abbrev pub step_take : Summary → Summary
step_take s = on_running step_issue s

-- ---- its answer is applied

-- what the values of a reply make of the program that runs
abbrev pub step_obeyed : {X : Type 0} → Flow X → Reply → List Pair → RunningSummary → RunningSummary
step_obeyed flow Nothing values s = s
step_obeyed flow (Update cwnd) values s = step_values flow None values s
step_obeyed flow (Change program cwnd cap) values s = step_values flow (Some program) values s

abbrev pub step_reply : {X : Type 0} → Flow X → Agent → Reply → Summary → Summary
step_reply flow agent reply s = on_running (step_obeyed flow reply (values_of agent reply)) s

abbrev pub step_turn : {X : Type 0} → Flow X → Issued → Agent × Reply → Summary → Summary
step_turn flow issued turn s =
    step_reply flow s.agent turn.1 (summary_with turn.0 (step_closed issued.told (running_of s)))

abbrev pub step_out : {X : Type 0} → Flow X → Option Issued → Summary → Summary
step_out flow None s = s
step_out flow (Some issued) s = step_turn flow issued (replied s.agent issued.told) s

abbrev pub step_answer : {X : Type 0} → Flow X → Summary → Summary
step_answer flow s = step_out flow s.out s

-- ---- legal letters, and complete words

abbrev pub may_make : {X : Type 0} → Flow X → Summary → Letter → Bool
may_make flow s A = nat_lt s.acks flow.acks
may_make flow s T = is_none s.out && can_tell (running_of s)
may_make flow s C = is_some s.out

-- no ticket is out and nothing can be taken
abbrev pub is_idle : Summary → Bool
is_idle s = is_none s.out && not (can_tell (running_of s))

abbrev pub is_done : {X : Type 0} → Flow X → Summary → Bool
is_done flow s = not (nat_lt s.acks flow.acks) && is_idle s
