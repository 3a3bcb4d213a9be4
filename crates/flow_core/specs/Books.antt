-- The result of a flow's history, as its tickets and its book have it.
use Rattle.std.specs.Prelude.{◌≡◌, ℕ, Option, option_map, [], ◌∷◌, ◌++◌, length, map}
use Rattle.ccp_base.specs.declared.running_epoch.RunningEpoch.{RunningEpoch}
use Rattle.agent_core.specs.declared.ticket.Ticket.{Ticket}
use Rattle.flow_core.specs.declared.book.Book.{Book}
use Rattle.flow_core.specs.declared.book.EpochLine.{EpochLine}
use Rattle.flow_core.specs.declared.book.TicketLine.{TicketLine}
use Rattle.flow_core.specs.Readings.{Flow, env_of}
use Rattle.flow_core.specs.World.{Content, Era, Answered, World, track_of, notice_of, told_as}

-- the ticket that tells this: the number counts the tickets before it, and the agent is the one as it is
abbrev pub ticket_of : {X : Type 0} → Flow X → World X → Content X → Ticket
ticket_of flow w content = record {
  flow = flow.number;
  number = length w.answered;
  before = w.agent;
  told = told_as flow content;
}

-- the ticket that is out, or none
abbrev pub out_ticket : {X : Type 0} → Flow X → World X → Option Ticket
out_ticket flow w = option_map (λ ticket. ticket_of flow w ticket.told) w.out

abbrev pub ticket_line : {X : Type 0} → Flow X → Answered X → TicketLine
ticket_line flow ticket = record {
  told = told_as flow ticket.told;
  taken = ticket.taken;
  answered = ticket.answered;
  reply = ticket.reply;
}

-- the window of an epoch is the one that it starts with, as the change sent it
abbrev pub epoch_line : Era → EpochLine
epoch_line era = record { program = era.program; at = era.at; cwnd = era.first.cwnd }

-- the line of the epoch that runs, which begins after this many acknowledgements with this window
abbrev pub line_of : RunningEpoch → ℕ → ℕ → EpochLine
line_of epoch acks cwnd = record { program = epoch.program; at = acks; cwnd = cwnd }

-- the book has the result of the history
pub record IsBookOf {X : Type 0} (flow : Flow X) (w : World X) (book : Book) : Type 0 where
  pub tickets : book.tickets ≡ map (ticket_line flow) w.answered
  pub epochs : book.epochs ≡ map epoch_line (w.past ++ w.present ∷ [])
  pub faults : book.faults ≡ map (notice_of flow) w.faults
  pub held : book.held ≡ w.held
  pub first : book.first ≡ (track_of flow w).first
  pub registers : env_of book.machine.kept ≡ (track_of flow w).env
  pub stopped : book.machine.is_stopped ≡ (track_of flow w).is_stopped
