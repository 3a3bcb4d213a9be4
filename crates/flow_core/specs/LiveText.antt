-- The text of a live run: for each flow the result of its history, read over the sources of its programs.
use Rattle.std.specs.Prelude.{ℕ, ◌+◌, ◌==◌, if◌then◌else◌, List, [], ◌∷◌, ◌++◌, length, map, codes, decimal}
use Rattle.ccp_base.specs.declared.exchange.Reply.{Reply}
use Rattle.ccp_base.specs.declared.exchange.Reply.TheVariants.{Nothing, Update, Change}
use Rattle.ccp_base.specs.declared.exchange.Told.{Told}
use Rattle.ccp_base.specs.declared.exchange.Told.TheVariants.{Report, Fault}
use Rattle.ccp_base.specs.declared.place.Place.{Place}
use Rattle.portus_core.specs.declared.program.Decl.{Decl}
use Rattle.portus_core.specs.Programs.{Form}
use Rattle.portus_core.specs.Epoch.{Track}
pub use Rattle.reg_compiler.specs.Sources.{Sources, sources_of}
use Rattle.report_lines.specs.declared.end_line.End.{End}
use Rattle.ccp_base.specs.Text.{◌⧺◌}
use Rattle.report_lines.specs.FlowLine.{flow_head}
use Rattle.report_lines.specs.ReportLine.{report_head, report_tail}
use Rattle.report_lines.specs.FaultLine.{fault_head, fault_line}
use Rattle.report_lines.specs.EndLine.{end_head, end_tail}
use Rattle.agent_core.specs.declared.agent.Agent.{Agent}
use Rattle.agent_core.specs.Kinds.{agent_name}
use Rattle.flow_core.specs.declared.book.EpochLine.{EpochLine}
use Rattle.flow_core.specs.declared.book.TicketLine.{TicketLine}
use Rattle.flow_core.specs.declared.case.Case.{Case}
use Rattle.flow_core.specs.declared.letter.Letter.{Letter}
use Rattle.flow_core.specs.Readings.{Flow, over_sources}
use Rattle.flow_core.specs.World.{Failure, World, track_of}
use Rattle.flow_core.specs.Words.{world}
use Rattle.flow_core.specs.Books.{ticket_line, epoch_line}

-- ---- programs by their numbers

-- the first program with this number; one without a declaration if there is none
abbrev pub source_at : Sources → ℕ → Form
source_at [] number = record { fields = []; controls = []; blocks = [] }
source_at (source ∷ rest) number = if source.0 == number then source.1 else source_at rest number

abbrev pub fields_at : Sources → ℕ → List Decl
fields_at sources number = (source_at sources number).fields

-- ---- what the text shows of a flow

-- its epochs, its faults with their places and its tickets, each in order; how many reports were held; the program of
-- the last epoch, and how it stands at the end
pub record Account : Type 0 where
  pub epochs : List EpochLine
  pub faults : List (Failure Place)
  pub tickets : List TicketLine
  pub held : ℕ
  pub program : ℕ
  pub end : End

abbrev pub end_of : ℕ → Track → End
end_of acks track = record {
  acks = acks;
  first = track.first;
  stopped = track.is_stopped;
  cwnd = track.env.cwnd;
  rate = track.env.rate;
  fields = track.env.fields;
}

-- the account of a flow's state, read over its sources
abbrev pub account_of : Flow Place → World Place → Account
account_of flow w = record {
  epochs = map epoch_line (w.past ++ w.present ∷ []);
  faults = w.faults;
  tickets = map (ticket_line flow) w.answered;
  held = w.held;
  program = w.present.program;
  end = end_of (length w.acks) (track_of flow w);
}

-- ---- its lines

abbrev pub agent_text : Agent → List ℕ
agent_text agent = agent_name agent

abbrev pub flow_line : ℕ → List ℕ → Agent → List ℕ
flow_line flow name agent = flow_head flow name ⧺ codes " agent=" ⧺ agent_text agent ⧺ codes "\n"

-- the line of the epoch with this number
abbrev pub epoch_text : ℕ → EpochLine → List ℕ
epoch_text number epoch =
    codes "epoch " ⧺ decimal number ⧺ codes " program=" ⧺ decimal epoch.program
    ⧺ codes " at=" ⧺ decimal epoch.at ⧺ codes " cwnd=" ⧺ decimal epoch.cwnd ⧺ codes "\n"

-- the epochs, numbered from this one on
abbrev pub epoch_lines : ℕ → List EpochLine → List ℕ
epoch_lines number [] = []
epoch_lines number (epoch ∷ rest) = epoch_text number epoch ⧺ epoch_lines (number + 1) rest

abbrev pub failure_line : Failure Place → List ℕ
failure_line failure = fault_line failure.epoch failure.at failure.kind failure.site

abbrev pub fault_lines : List (Failure Place) → List ℕ
fault_lines [] = []
fault_lines (failure ∷ rest) = failure_line failure ⧺ fault_lines rest

abbrev pub reply_text : Reply → List ℕ
reply_text Nothing = codes "none"
reply_text (Update cwnd) = codes "update:" ⧺ decimal cwnd
reply_text (Change program cwnd cap) =
    codes "change:" ⧺ decimal program ⧺ codes ":" ⧺ decimal cwnd ⧺ codes ":" ⧺ decimal cap

-- at how many acknowledgements a ticket was taken and answered, and the agent's reply
abbrev pub answer_text : TicketLine → List ℕ
answer_text ticket =
    codes " taken=" ⧺ decimal ticket.taken ⧺ codes " answered=" ⧺ decimal ticket.answered
    ⧺ codes " reply=" ⧺ reply_text ticket.reply

-- what a ticket told, with the text of its answer between its head and its fields
abbrev pub told_text : Sources → Told → List ℕ → List ℕ
told_text sources (Report report) answer =
    report_head report ⧺ answer ⧺ report_tail (fields_at sources report.program) report
told_text sources (Fault notice) answer = fault_head notice.epoch notice.at ⧺ answer ⧺ codes "\n"

-- the line of the ticket with this number
abbrev pub ticket_text : Sources → ℕ → TicketLine → List ℕ
ticket_text sources number ticket =
    codes "ticket " ⧺ decimal number ⧺ codes " " ⧺ told_text sources ticket.told (answer_text ticket)

-- the tickets, numbered from this one on
abbrev pub ticket_lines : Sources → ℕ → List TicketLine → List ℕ
ticket_lines sources number [] = []
ticket_lines sources number (ticket ∷ rest) = ticket_text sources number ticket ⧺ ticket_lines sources (number + 1) rest

abbrev pub reports_told : Told → ℕ
reports_told (Report report) = 1
reports_told (Fault notice) = 0

-- a ticket that told a fault is no report
abbrev pub report_count : List TicketLine → ℕ
report_count [] = 0
report_count (ticket ∷ rest) = reports_told ticket.told + report_count rest

-- how a flow with these fields ends, after this many reports, held reports and faults
abbrev pub last_line : List Decl → ℕ → ℕ → ℕ → End → List ℕ
last_line fields reports held faults end =
    end_head reports end
    ⧺ codes " held=" ⧺ decimal held ⧺ codes " faults=" ⧺ decimal faults
    ⧺ end_tail fields end

abbrev pub account_end_line : Sources → Account → List ℕ
account_end_line sources account =
    last_line (fields_at sources account.program) (report_count account.tickets) account.held
    (length account.faults) account.end

-- ---- the parts and the whole

-- the flow, its epochs, its faults and its tickets, and how it stands at the end
abbrev pub account_text : Sources → Case → Account → List ℕ
account_text sources case account =
    flow_line case.flow case.name case.agent
    ⧺ epoch_lines 0 account.epochs
    ⧺ fault_lines account.faults
    ⧺ ticket_lines sources 0 account.tickets
    ⧺ account_end_line sources account

-- the flow of a case, read over the sources of its programs
abbrev pub flow_from : Sources → Case → Flow Place
flow_from sources case =
    over_sources case (source_at sources case.ss.role.number) (source_at sources case.ca.role.number)

-- a flow's part of the text, if this is its state
abbrev pub flow_part : Sources → Case → World Place → List ℕ
flow_part sources case w = account_text sources case (account_of (flow_from sources case) w)

-- the text of flows, each a case and its word
abbrev pub live_text : Sources → List (Case × List Letter) → List ℕ
live_text sources [] = []
live_text sources (flow ∷ rest) =
    flow_part sources flow.0 (world (flow_from sources flow.0) flow.0.link flow.1) ⧺ live_text sources rest
