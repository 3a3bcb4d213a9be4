-- A flow with what its book has, but without its acknowledgements: what it is after a history, and what a letter makes
-- of it.
use Rattle.std.specs.Prelude.{◌≡◌, ℕ, nat_lt, if◌then◌else◌, Option, Some, None, option_map, List, [], ◌∷◌, ◌++◌, map}
use Rattle.ccp_base.specs.declared.ack.Ack.{Ack}
use Rattle.ccp_base.specs.declared.exchange.Notice.{Notice}
use Rattle.agent_core.specs.Agents.{replied}
use Rattle.fold_machine.specs.declared.acked.Acked.{Acked}
use Rattle.fold_machine.specs.declared.acked.Acked.TheVariants.{Quiet, Reported, Held, Faulted, Stopped}
use Rattle.flow_core.specs.declared.running.Issued.{Issued}
use Rattle.flow_core.specs.declared.book.Book.{Book}
use Rattle.flow_core.specs.declared.book.EpochLine.{EpochLine}
use Rattle.flow_core.specs.declared.book.TicketLine.{TicketLine}
use Rattle.flow_core.specs.declared.case.Case.{Case}
use Rattle.flow_core.specs.declared.letter.Letter.{Letter}
use Rattle.flow_core.specs.declared.letter.Letter.TheVariants.{A, T, C}
use Rattle.flow_core.specs.Readings.{env_of, over_codes}
use Rattle.flow_core.specs.World.{World, notice_of}
use Rattle.flow_core.specs.Books.{ticket_line, epoch_line}
use Rattle.flow_core.specs.Cores.{CoreState, world_in, acked_as}
use Rattle.flow_core.specs.Summaries.{Summary, summary, outcome_at, step_ack, step_take, step_answer}
use Rattle.flow_core.specs.Bares.{BareState}

-- what later letters depend on; the word; and the lines of the answered tickets, of the epochs and of the faults
pub record BookFlowState : Type 0 where
  pub bare : BareState
  pub word : List Letter
  pub tickets : List TicketLine
  pub epochs : List EpochLine
  pub faults : List Notice

-- the flow of a case whose word led to this state
abbrev pub book_flow_at : Case → World ℕ → List Letter → BookFlowState
book_flow_at case w word =
    let flow = over_codes case in
    record {
      bare = record { case = case; summary = summary flow w };
      word = word;
      tickets = map (ticket_line flow) w.answered;
      epochs = map epoch_line w.past ++ epoch_line w.present ∷ [];
      faults = map (notice_of flow) w.faults;
    }

-- the flow after a history: a core without its acknowledgements
abbrev pub book_flow_of : CoreState → BookFlowState
book_flow_of core = book_flow_at core.case (world_in core) core.word

-- ---- what a letter adds to the lines

-- the list with one more item, if there is one
abbrev pub grown_by : {X : Type 0} → Option X → List X → List X
grown_by None items = items
grown_by (Some item) items = items ++ item ∷ []

-- the fault of an acknowledgement, by the machine's answer and the untold notice after it
abbrev pub new_notice : Acked → Option Notice → Option Notice
new_notice (Faulted kind index) untold = untold
new_notice Quiet untold = None
new_notice Reported untold = None
new_notice Held untold = None
new_notice Stopped untold = None

-- the line of the ticket that is out, if its answer is applied now
abbrev pub answered_line : Summary → Issued → TicketLine
answered_line s issued = record {
  told = issued.told;
  taken = issued.taken;
  answered = s.acks;
  reply = (replied s.agent issued.told).1;
}

-- the line of an epoch that begins now
abbrev pub begun_line : Summary → EpochLine
begun_line s = record { program = s.program; at = s.acks; cwnd = s.track.env.cwnd }

-- the line of the epoch that began after the one with this number, if one did
abbrev pub line_after : ℕ → Summary → Option EpochLine
line_after epoch s = if nat_lt epoch s.epoch then Some (begun_line s) else None

-- ---- a letter

-- after one more acknowledgement
abbrev pub book_heard : Ack → BookFlowState → BookFlowState
book_heard ack s =
    let flow = over_codes s.bare.case in
    let next = step_ack flow ack s.bare.summary in
    let acked = acked_as (outcome_at flow ack s.bare.summary).0 in
    record s {
      bare = record s.bare { summary = next };
      word = s.word ++ A ∷ [];
      faults = grown_by (new_notice acked next.untold) s.faults;
    }

-- after a ticket is taken
abbrev pub book_taken : BookFlowState → BookFlowState
book_taken s = record s { bare = record s.bare { summary = step_take s.bare.summary }; word = s.word ++ T ∷ [] }

-- after the answer to the ticket that is out is applied
abbrev pub book_answered : BookFlowState → BookFlowState
book_answered s =
    let now = s.bare.summary in
    let next = step_answer (over_codes s.bare.case) now in
    record s {
      bare = record s.bare { summary = next };
      word = s.word ++ C ∷ [];
      tickets = grown_by (option_map (answered_line now) now.out) s.tickets;
      epochs = grown_by (line_after now.epoch next) s.epochs;
    }

-- ---- the end

-- the book has the flow's lists and counts
pub record EndsAs (s : BookFlowState) (book : Book) : Type 0 where
  pub case : book.case ≡ s.bare.case
  pub word : book.word ≡ s.word
  pub tickets : book.tickets ≡ s.tickets
  pub epochs : book.epochs ≡ s.epochs
  pub faults : book.faults ≡ s.faults
  pub held : book.held ≡ s.bare.summary.held
  pub first : book.first ≡ s.bare.summary.track.first
  pub registers : env_of book.machine.kept ≡ s.bare.summary.track.env
  pub stopped : book.machine.is_stopped ≡ s.bare.summary.track.is_stopped
