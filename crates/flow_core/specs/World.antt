-- The state of one flow: its history, and what stands open.
use Rattle.std.specs.Prelude.{ℕ, ◌+◌, Bool, nat_lt, Option, Some, None, List, [], ◌∷◌, ◌++◌, length}
use Rattle.ccp_base.specs.declared.ack.Ack.{Ack}
use Rattle.ccp_base.specs.declared.arithmetic.FaultKind.{FaultKind}
use Rattle.ccp_base.specs.declared.exchange.Notice.{Notice}
use Rattle.ccp_base.specs.declared.exchange.Report.{Report}
use Rattle.ccp_base.specs.declared.exchange.Reply.{Reply}
use Rattle.ccp_base.specs.declared.exchange.Reply.TheVariants.{Nothing, Update, Change}
use Rattle.ccp_base.specs.declared.exchange.Told.{Told}
use Rattle.ccp_base.specs.declared.exchange.Told.TheVariants as told
use Rattle.ccp_base.specs.FieldReg.{Pair}
use Rattle.ccp_base.specs.RunningEpochs.{reporter, notice_by}
use Rattle.portus_core.specs.declared.env.Env.{Env}
use Rattle.portus_core.specs.Epoch.{Event, acknowledged, updated, Outcome, quiet, reported, held, failed, stopped}
use Rattle.portus_core.specs.Epoch.{Track, track_at, heard, after, with_values}
use Rattle.portus_core.specs.Reports.{reports_met}
use Rattle.agent_core.specs.declared.agent.Agent.{Agent}
use Rattle.agent_core.specs.Agents.{opening_change, replied, course_of, values_of}
use Rattle.flow_core.specs.Readings.{Flow}

-- what a fault notice says, with the fault's site
pub record Failure (X : Type 0) : Type 0 where
  pub program : ℕ
  pub epoch : ℕ
  pub at : ℕ
  pub kind : FaultKind
  pub site : X
  pub now : ℕ
  pub cwnd : ℕ

-- what a ticket tells
pub data Content (X : Type 0) : Type 0 where
  of_report : Report → Content X
  of_failure : Failure X → Content X

-- an epoch: its program, at how many acknowledgements it started, its first env, and its events
pub record Era : Type 0 where
  pub program : ℕ
  pub at : ℕ
  pub first : Env
  pub events : List Event

-- a ticket that is out: what it tells, and at how many acknowledgements it was taken
pub record Taken (X : Type 0) : Type 0 where
  pub told : Content X
  pub taken : ℕ

-- a ticket that was answered
pub record Answered (X : Type 0) : Type 0 where
  pub told : Content X
  pub taken : ℕ
  pub answered : ℕ
  pub reply : Reply

-- the state of a flow: its acknowledgements and the window at each; its ended epochs and the present one; the reports
-- that wait, the oldest first, and a fault notice that is untold; the agent; the tickets that were answered and the one
-- that is out; the faults; and how many reports were held
pub record World (X : Type 0) : Type 0 where
  pub acks : List Ack
  pub windows : List ℕ
  pub past : List Era
  pub present : Era
  pub waiting : List Report
  pub untold : Option (Failure X)
  pub agent : Agent
  pub answered : List (Answered X)
  pub out : Option (Taken X)
  pub faults : List (Failure X)
  pub held : ℕ

-- ---- the present epoch

abbrev pub track_in : {X : Type 0} → Flow X → Era → Track
track_in flow era = after (flow.reading era.program) era.events (track_at era.at era.first)

abbrev pub track_of : {X : Type 0} → Flow X → World X → Track
track_of flow w = track_in flow w.present

-- an epoch that starts at that number of acknowledgements with these values, if `Cwnd` and `Rate` are these and the
-- last acknowledgement came at this time
abbrev pub era_of : {X : Type 0} → Flow X → ℕ → ℕ → List Pair → ℕ → ℕ → ℕ → Era
era_of flow program at values cwnd rate now = record {
  program = program;
  at = at;
  first = with_values values (flow.declared program cwnd rate now);
  events = [];
}

abbrev pub with_event : Event → Era → Era
with_event event era = record era { events = era.events ++ event ∷ [] }

-- the time of the last acknowledgement, 0 if there is none
abbrev pub time_of : List Ack → ℕ
time_of [] = 0
time_of (ack ∷ []) = ack.now
time_of (ack ∷ next ∷ rest) = time_of (next ∷ rest)

-- the flow before its first letter: epoch 0 by the agent's opening change
abbrev pub opening : {X : Type 0} → Flow X → World X
opening flow = record {
  acks = [];
  windows = [];
  past = [];
  present = era_of flow (course_of flow.agent).ss.number 0 (values_of flow.agent (opening_change flow.agent)) 0 0 0;
  waiting = [];
  untold = None;
  agent = flow.agent;
  answered = [];
  out = None;
  faults = [];
  held = 0;
}

-- ---- an acknowledgement

-- the fault of an acknowledgement with this window, in an epoch with this program and this number
abbrev pub failure_with : {X : Type 0} → ℕ → ℕ → ℕ → Ack → ℕ → FaultKind × X → Failure X
failure_with program epoch at ack cwnd fault =
    record { program = program; epoch = epoch; at = at; kind = fault.0; site = fault.1; now = ack.now; cwnd = cwnd }

-- the fault of an acknowledgement, or none
abbrev pub failures_met : {X : Type 0} → ℕ → ℕ → ℕ → Ack → Outcome (FaultKind × X) × Env → List (Failure X)
failures_met program epoch at ack (failed fault, env) = failure_with program epoch at ack env.cwnd fault ∷ []
failures_met program epoch at ack (quiet, env) = []
failures_met program epoch at ack (reported fields, env) = []
failures_met program epoch at ack (held, env) = []
failures_met program epoch at ack (stopped, env) = []

-- a fault leaves its notice untold
abbrev pub untold_after : {X : Type 0} → List (Failure X) → Option (Failure X) → Option (Failure X)
untold_after [] untold = untold
untold_after (failure ∷ rest) untold = Some failure

abbrev pub held_met : {F : Type 0} → Outcome F → ℕ
held_met held = 1
held_met quiet = 0
held_met (reported fields) = 0
held_met (failed fault) = 0
held_met stopped = 0

-- an acknowledgement had this outcome, in this state of the epoch before it and with room or without
abbrev pub with_met : {X : Type 0} → Flow X → Ack → Bool → Track → Outcome (FaultKind × X) × Env → World X → World X
with_met flow ack room track met w =
    let failures = failures_met w.present.program (length w.past) track.count ack met in
    record w {
      acks = w.acks ++ ack ∷ [];
      windows = w.windows ++ track.env.cwnd ∷ [];
      present = with_event (acknowledged ack room) w.present;
      waiting = w.waiting ++ reports_met (reporter flow.number w.present.program (length w.past)) track ack met.0 met.1;
      untold = untold_after failures w.untold;
      faults = w.faults ++ failures;
      held = w.held + held_met met.0;
    }

-- fewer reports wait than there are slots
abbrev pub has_room : {X : Type 0} → Flow X → World X → Bool
has_room flow w = nat_lt (length w.waiting) flow.slots

abbrev pub after_ack : {X : Type 0} → Flow X → Ack → World X → World X
after_ack flow ack w =
    let track = track_of flow w in
    with_met flow ack (has_room flow w) track
    (heard (flow.reading w.present.program) track.is_stopped track.env ack (has_room flow w)) w

-- ---- a ticket is taken

-- what can be taken, with what is left then: the oldest report, or else the untold notice
abbrev pub takeable : {X : Type 0}
    → List Report → Option (Failure X) → Option (Content X × (List Report × Option (Failure X)))
takeable (report ∷ rest) untold = Some (of_report report, (rest, untold))
takeable [] (Some failure) = Some (of_failure failure, ([], None))
takeable [] None = None

abbrev pub with_taken : {X : Type 0} → Option (Content X × (List Report × Option (Failure X))) → World X → World X
with_taken None w = w
with_taken (Some taken) w = record w {
  waiting = taken.1.0;
  untold = taken.1.1;
  out = Some (record { told = taken.0; taken = length w.acks });
}

abbrev pub after_take : {X : Type 0} → World X → World X
after_take w = with_taken (takeable w.waiting w.untold) w

-- ---- its answer is applied

-- a change ends the epoch, starts one, and makes an untold notice void
abbrev pub with_reply : {X : Type 0} → Flow X → Agent → Reply → World X → World X
with_reply flow agent Nothing w = w
with_reply flow agent (Update cwnd) w =
    record w { present = with_event (updated (values_of agent (Update cwnd))) w.present }
with_reply flow agent (Change program cwnd cap) w =
    let env = (track_of flow w).env in
    record w {
      past = w.past ++ w.present ∷ [];
      present =
          era_of flow program (length w.acks) (values_of agent (Change program cwnd cap)) env.cwnd env.rate
          (time_of w.acks);
      untold = None;
    }

-- a failure as its notice, for the flow with this number and by the index of each site
abbrev pub notice_with : {X : Type 0} → ℕ → (X → ℕ) → Failure X → Notice
notice_with flow index failure =
    notice_by (reporter flow failure.program failure.epoch) failure.at failure.now failure.cwnd failure.kind
    (index failure.site)

abbrev pub notice_of : {X : Type 0} → Flow X → Failure X → Notice
notice_of flow failure = notice_with flow.number flow.index failure

-- what the agent gets; a fault's site decides nothing
abbrev pub told_as : {X : Type 0} → Flow X → Content X → Told
told_as flow (of_report report) = told.Report report
told_as flow (of_failure failure) = told.Fault (notice_of flow failure)

-- the answer to a ticket is applied: the agent and its reply are those of this turn
abbrev pub with_turn : {X : Type 0} → Flow X → Taken X → Agent × Reply → World X → World X
with_turn flow ticket turn w =
    with_reply flow w.agent turn.1 (record w {
      agent = turn.0;
      out = None;
      answered =
          w.answered
          ++ record { told = ticket.told; taken = ticket.taken; answered = length w.acks; reply = turn.1 } ∷ [];
    })

abbrev pub answer_applied : {X : Type 0} → Flow X → Option (Taken X) → World X → World X
answer_applied flow None w = w
answer_applied flow (Some ticket) w = with_turn flow ticket (replied w.agent (told_as flow ticket.told)) w

abbrev pub after_answer : {X : Type 0} → Flow X → World X → World X
after_answer flow w = answer_applied flow w.out w
