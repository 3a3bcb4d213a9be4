-- What the steps of a flow over its sources change of what is kept.
use Rattle.std.specs.Prelude.{◌≡◌, ℕ, ◌+◌, ◌<◌, ◌≤◌, Bool, Option, None, List, [], ◌∷◌, ◌++◌, length, map}
use Rattle.ccp_base.specs.Limits.{most_acks, most_fields}
use Rattle.ccp_base.specs.declared.ack.Ack.{Ack}
use Rattle.ccp_base.specs.declared.exchange.Reply.{Reply}
use Rattle.ccp_base.specs.declared.exchange.Reply.TheVariants.{Nothing, Update, Change}
use Rattle.ccp_base.specs.FieldReg.{Pair, first_bad_pair}
use Rattle.flow_core.specs.Books.{line_of}
use Rattle.portus_core.specs.declared.env.Effect.{Effect}
use Rattle.portus_core.specs.Value.{Cause}
use Rattle.portus_core.specs.Programs.{Form}
use Rattle.portus_core.specs.OneAcknowledgement.{IsEnvOf}
use Rattle.portus_core.specs.Epoch.{Outcome, heard, by_source, stops, track_at, with_values, declared_env}
use Rattle.agent_core.specs.declared.agent.Agent.{Agent}
use Rattle.agent_core.specs.Agents.{values_of}
use Rattle.flow_core.specs.declared.running.Issued.{Issued}
use Rattle.flow_core.specs.declared.book.EpochLine.{EpochLine}
use Rattle.flow_core.specs.declared.book.TicketLine.{TicketLine}
use Rattle.flow_core.specs.World.{failures_met}
use Rattle.flow_core.specs.States.{some_count}
use Rattle.flow_core.specs.Runnings.{step_note}
use Rattle.flow_core.specs.Summaries.{Summary, on_running, step_reply}
use Rattle.source_flow.specs.declared.state.Present.{Present}
use Rattle.source_flow.specs.declared.state.State.{State}
use Rattle.source_flow.specs.declared.source_case.SourceCase.{SourceCase}
use Rattle.source_flow.specs.SourceAccounts.{failure_of}
use Rattle.source_flow.specs.SourceStates.{form_at, flow_over_sources, outcome_met, summary_in}

-- the counts are in range, and a report has no more fields than there may be
pub record CanRecord (s : State) : Type 0 where
  pub acks : s.acks < most_acks
  pub held : s.held < most_acks
  pub fields : length s.present.spare.fields ≤ most_fields

-- the outcome of an acknowledgement by the program of an epoch, and the epoch after it
pub record HasRun (form : Form) (ack : Ack) (room : Bool) (old new : Present) (effect : Option Effect) : Type 0 where
  pub met : heard (by_source form) old.is_stopped old.env ack room ≡ (outcome_met new.spare.fields effect, new.env)
  pub stopped : new.is_stopped ≡ stops (outcome_met new.spare.fields effect)
  pub shape : IsEnvOf form new.env
  pub spare : IsEnvOf form new.spare
  pub frame : new ≡ record old { env = new.env; spare = new.spare; is_stopped = new.is_stopped }

-- what an outcome changes in a flow with this number, of whatever case: it makes the summary after it, leaves at most one
-- report or notice more to take, and holds at most one report
pub record RecordsOutcome (number : ℕ) (old new : State) (ack : Ack) (outcome : Outcome Cause) : Type 0 where
  pub step :
      (source : SourceCase)
      → summary_in new
      ≡ on_running (step_note number (flow_over_sources source).index ack outcome) (summary_in old)
  pub faults :
      map failure_of new.faults
      ≡ map failure_of old.faults
      ++ failures_met old.present.epoch.program old.present.epoch.number old.acks ack (outcome, old.present.env)
  pub waiting :
      length new.waiting.items + some_count new.untold ≤ (length old.waiting.items + some_count old.untold) + 1
  pub held : new.held ≤ old.held + 1
  pub present : new.present ≡ record old.present { epoch = record old.present.epoch { first = new.present.epoch.first } }
  pub frame : new ≡ record old {
    present = new.present;
    waiting = new.waiting;
    untold = new.untold;
    faults = new.faults;
    held = new.held;
  }

-- ---- a ticket is answered, and the reply obeyed

-- the line of a ticket that is answered so at this many acknowledgements
abbrev pub answered_line : Issued → ℕ → Reply → TicketLine
answered_line issued acks reply = record { told = issued.told; taken = issued.taken; answered = acks; reply = reply }

-- the program of a change has each control variable that the agent's values name
abbrev pub AreGood : SourceCase → Agent → Reply → Type 0
AreGood source agent Nothing = Unit {0}
AreGood source agent (Update cwnd) = Unit {0}
AreGood source agent (Change program cwnd cap) =
    first_bad_pair (length (form_at source program).controls) (values_of agent (Change program cwnd cap)) ≡ None

-- the summary is this one now, and these epochs were started
pub record Becomes (source : SourceCase) (next : Summary) (started : List EpochLine) (old new : State) : Type 0 where
  pub step : summary_in new ≡ next
  pub epochs : new.epochs ≡ old.epochs ++ started
  pub shape : IsEnvOf (form_at source new.present.epoch.program) new.present.env
  pub spare : IsEnvOf (form_at source new.present.epoch.program) new.present.spare
  pub frame : new ≡ record old { present = new.present; untold = new.untold; epochs = new.epochs }

-- a change starts this program with these values, and with it an epoch, and makes an untold notice void
abbrev pub Changed : SourceCase → ℕ → List Pair → State → State → Type 0
Changed source program values old new =
    let env = old.present.env in
    Becomes source (record (summary_in old) {
      program = program;
      epoch = old.present.epoch.number + 1;
      track = track_at old.acks (with_values values (declared_env (form_at source program) env.cwnd env.rate old.time));
      untold = None;
    }) (line_of new.present.epoch new.acks new.present.env.cwnd ∷ []) old new

-- the lines of the epochs that a reply starts, by the summary after it
abbrev pub epochs_started : Reply → Summary → List EpochLine
epochs_started Nothing s = []
epochs_started (Update cwnd) s = []
epochs_started (Change program cwnd cap) s = record { program = s.program; at = s.acks; cwnd = s.track.env.cwnd } ∷ []

-- the reply of this agent is obeyed
abbrev pub Obeys : SourceCase → Agent → Reply → State → State → Type 0
Obeys source agent reply old new =
    Becomes source (step_reply (flow_over_sources source) agent reply (summary_in old))
    (epochs_started reply (summary_in new)) old new
