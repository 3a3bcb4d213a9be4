-- The journal of a flow: what a letter adds to it, and what holds of it and of the flow without its history; and what
-- holds of a flow with its acknowledgements.
use Rattle.std.specs.Prelude.{◌≡◌, ℕ, ◌+◌, ◌<◌, ◌≤◌, Bool, true, Option, Some, None, option_map, unwrap_or, List, []}
use Rattle.std.specs.Prelude.{◌∷◌, ◌++◌, length}
use Rattle.ccp_base.specs.declared.ack.Ack.{Ack}
use Rattle.ccp_base.specs.declared.exchange.Notice.{Notice}
use Rattle.agent_core.specs.declared.ticket.Ticket.{Ticket}
use Rattle.agent_core.specs.Answers.{reply_of}
use Rattle.flow_core.specs.declared.running.Issued.{Issued}
use Rattle.flow_core.specs.declared.book.EpochLine.{EpochLine}
use Rattle.flow_core.specs.declared.book.TicketLine.{TicketLine}
use Rattle.flow_core.specs.declared.journal.Journal.{Journal}
use Rattle.flow_core.specs.declared.letter.Letter.TheVariants.{A, T, C}
use Rattle.flow_core.specs.Readings.{over_codes}
use Rattle.flow_core.specs.ReadsRates.{case_reads_rates}
use Rattle.flow_core.specs.Words.{most_letters, legal_over}
use Rattle.flow_core.specs.WordLaws.{acks_in}
use Rattle.flow_lists.specs.ReservedLists.{ReservedState}
use Rattle.flow_core.specs.Cores.{CoreState}
use Rattle.flow_core.specs.States.{some_count}
use Rattle.flow_core.specs.Summaries.{Summary}
use Rattle.flow_core.specs.Bares.{BareState}
use Rattle.flow_core.specs.BookFlows.{BookFlowState, book_flow_of, grown_by}

-- ---- what a letter adds

-- the list with one more item
abbrev pub with_item : {X : Type 0} → X → ReservedState X → ReservedState X
with_item item list = record list { items = list.items ++ item ∷ [] }

-- the list with one more item, if there is one
abbrev pub with_some : {X : Type 0} → Option X → ReservedState X → ReservedState X
with_some item list = record list { items = grown_by item list.items }

abbrev pub journal_ack : Option Notice → Journal → Journal
journal_ack fault j = record j { faults = with_some fault j.faults; word = with_item A j.word }

abbrev pub journal_take : Journal → Journal
journal_take j = record j { word = with_item T j.word }

abbrev pub journal_answer : TicketLine → Option EpochLine → Journal → Journal
journal_answer ticket epoch j =
    record j { tickets = with_item ticket j.tickets; epochs = with_some epoch j.epochs; word = with_item C j.word }

-- the line of a ticket, with the numbers of acknowledgements at which it was taken and answered
abbrev pub journal_line : Ticket → ℕ → ℕ → TicketLine
journal_line ticket taken answered =
    record { told = ticket.told; taken = taken; answered = answered; reply = reply_of ticket }

-- at how many acknowledgements the ticket that is out was taken, 0 if none is out
abbrev pub taken_at : Summary → ℕ
taken_at s = unwrap_or (option_map (λ (issued : Issued). issued.taken) s.out) 0

-- ---- room

abbrev pub HasSpareRoom : {X : Type 0} → ReservedState X → Type 0
HasSpareRoom list = length list.items < list.room

-- one ticket and one epoch more have their room
abbrev pub HaveLineRoom : ReservedState TicketLine → ReservedState EpochLine → Type 0
HaveLineRoom tickets epochs = HasSpareRoom tickets × HasSpareRoom epochs

-- there is room for the lines that the answer to the ticket that is out adds
abbrev pub HasLines : Option Issued → ReservedState TicketLine → ReservedState EpochLine → Type 0
HasLines None tickets epochs = Unit {0}
HasLines (Some issued) tickets epochs = HaveLineRoom tickets epochs

-- there is room for a fault and three letters for every acknowledgement
pub record HasRooms (most : ℕ) (j : Journal) : Type 0 where
  pub faults : most ≤ j.faults.room
  pub word : most_letters most ≤ j.word.room

-- ---- what holds

-- before the first letter there is the line of the first epoch alone
pub record OpensJournal (most : ℕ) (epoch : EpochLine) (j : Journal) : Type 0 where
  pub tickets : j.tickets.items ≡ []
  pub epochs : j.epochs.items ≡ epoch ∷ []
  pub faults : j.faults.items ≡ []
  pub word : j.word.items ≡ []
  pub rooms : HasRooms most j

-- the flow whose journal this is
abbrev pub book_flow_by : BareState → Journal → BookFlowState
book_flow_by bare j = record {
  bare = bare;
  word = j.word.items;
  tickets = j.tickets.items;
  epochs = j.epochs.items;
  faults = j.faults.items;
}

-- how many letters there are: an acknowledgement's, a ticket's and its answer's
abbrev pub letter_count : Summary → ℕ
letter_count s = s.acks + ((s.answered + some_count s.out) + s.answered)

-- the journal has as many faults and letters as the flow, and room for those to come
pub record IsBookFlow (bare : BareState) (reads_rates : Bool) (j : Journal) : Type 0 where
  pub rates : reads_rates ≡ case_reads_rates bare.case
  pub faults : length j.faults.items ≡ bare.summary.faults
  pub letters : length j.word.items ≡ letter_count bare.summary
  pub rooms : HasRooms bare.case.acks j
  pub lines : HasLines bare.summary.out j.tickets j.epochs

-- ---- with the acknowledgements

abbrev pub core_by : BookFlowState → List Ack → CoreState
core_by flow acks = record { case = flow.bare.case; acks = acks; word = flow.word }

-- the flow is as after its word, which is legal and takes all of the acknowledgements, and their list has room for
-- those to come
pub record IsCore (flow : BookFlowState) (acks : ReservedState Ack) : Type 0 where
  pub after : flow ≡ book_flow_of (core_by flow acks.items)
  pub legal : legal_over (over_codes flow.bare.case) acks.items flow.word ≡ true
  pub all : acks_in flow.word ≡ length acks.items
  pub room : flow.bare.case.acks ≤ acks.room
