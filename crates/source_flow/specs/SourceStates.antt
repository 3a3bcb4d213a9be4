-- What is kept of a flow over its sources, and what holds of it.
use Rattle.std.specs.Prelude.{◌≡◌, ℕ, ◌+◌, ◌≤◌, Option, Some, None, List, [], ◌∷◌, ◌++◌, length, map}
use Rattle.ccp_base.specs.Limits.{most_fields}
use Rattle.ccp_base.specs.declared.place.Place.{Place}
use Rattle.link_model.specs.Standing.{Stands}
use Rattle.portus_core.specs.declared.env.Effect.{Effect}
use Rattle.portus_core.specs.Value.{Cause}
use Rattle.portus_core.specs.Programs.{Form}
use Rattle.portus_core.specs.ProgramForm.{form_of}
use Rattle.portus_core.specs.OneAcknowledgement.{IsEnvOf, mean_with}
use Rattle.portus_core.specs.Epoch.{Outcome, stopped, outcome_of}
use Rattle.agent_core.specs.Agents.{course_of}
use Rattle.agent_core.specs.RoleLaws.{AreRoles}
use Rattle.flow_core.specs.Readings.{Flow, by_number, over_sources}
use Rattle.flow_core.specs.World.{World}
use Rattle.flow_core.specs.Books.{ticket_line, epoch_line}
use Rattle.flow_core.specs.LiveText.{report_count}
use Rattle.flow_core.specs.States.{some_count}
use Rattle.flow_core.specs.Summaries.{Summary, summary}
use Rattle.source_flow.specs.declared.source_case.SourceCase.{SourceCase}
use Rattle.source_flow.specs.declared.state.State.{State}
use Rattle.source_flow.specs.SourceAccounts.{failure_of}

-- the source of a case's program with this number
abbrev pub form_at : SourceCase → ℕ → Form
form_at source = by_number source.case.now (form_of source.ss.now) (form_of source.ca.now)

-- the flow of a case, read over the sources of its programs
abbrev pub flow_over_sources : SourceCase → Flow Place
flow_over_sources source = over_sources source.case.now (form_of source.ss.now) (form_of source.ca.now)

-- the outcome of an acknowledgement with this effect, and with these fields of a report; nothing if its epoch was
-- stopped
abbrev pub outcome_met : List ℕ → Option Effect → Outcome Cause
outcome_met fields None = stopped
outcome_met fields (Some effect) = outcome_of (mean_with fields effect)

-- ---- what is kept

-- the summary of the state
abbrev pub summary_in : State → Summary
summary_in s = record {
  program = s.present.epoch.program;
  epoch = s.present.epoch.number;
  track = record {
    env = s.present.env;
    is_stopped = s.present.is_stopped;
    first = s.present.epoch.first;
    count = s.acks;
  };
  acks = s.acks;
  time = s.time;
  waiting = s.waiting.items;
  untold = s.untold;
  agent = s.agent;
  out = s.out;
  answered = length s.tickets;
  told = report_count s.tickets;
  faults = length s.faults;
  held = s.held;
}

-- what is kept is that of this state, and the link has given its acknowledgements
pub record IsAt (flow : Flow Place) (s : State) (w : World Place) : Type 0 where
  pub kept : summary_in s ≡ summary flow w
  pub tickets : s.tickets ≡ map (ticket_line flow) w.answered
  pub epochs : s.epochs ≡ map epoch_line (w.past ++ w.present ∷ [])
  pub faults : map failure_of s.faults ≡ w.faults
  pub stands : Stands s.link w.windows

-- ---- what holds whatever the history

-- the programs declare as many control variables as the codes of their roles have, and no more fields than there may be
pub record AreMatched (source : SourceCase) : Type 0 where
  pub ss_controls : length (form_of source.ss.now).controls ≡ length source.case.now.ss.code.code.controls
  pub ca_controls : length (form_of source.ca.now).controls ≡ length source.case.now.ca.code.code.controls
  pub ss_fields : length (form_of source.ss.now).fields ≤ most_fields
  pub ca_fields : length (form_of source.ca.now).fields ≤ most_fields

-- the env and the spare one are of the present program, the agent has the case's roles, the link is the case's, and the
-- counts are in range: each acknowledgement makes one report or fault at most, and each change is the answer to one
pub record IsSourceSound (source : SourceCase) (s : State) : Type 0 where
  pub matched : AreMatched source
  pub shape : IsEnvOf (form_at source s.present.epoch.program) s.present.env
  pub spare : IsEnvOf (form_at source s.present.epoch.program) s.present.spare
  pub roles : AreRoles source.case.now.ss.role source.case.now.ca.role (course_of s.agent)
  pub link : s.link.case ≡ source.case.now.link
  pub calls : s.link.standing.calls ≡ s.acks
  pub acks : s.acks ≤ source.case.now.acks
  pub tickets : length s.tickets + (some_count s.out + (length s.waiting.items + some_count s.untold)) ≤ s.acks
  pub epochs : s.present.epoch.number ≤ length s.tickets
  pub held : s.held ≤ s.acks
