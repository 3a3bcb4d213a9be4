-- The history of a driven flow: what a letter adds to the journal, and what the journal has.
use Rattle.std.specs.Prelude.{◌≡◌, ◌<◌, Option, Some, None, [], ◌∷◌, ◌++◌, length, map}
use Rattle.ccp_base.specs.declared.ack.Ack.{Ack}
use Rattle.ccp_base.specs.declared.exchange.Notice.{Notice}
use Rattle.fold_machine.specs.declared.acked.Acked.{Acked}
use Rattle.fold_machine.specs.declared.acked.Acked.TheVariants.{Quiet, Reported, Held, Faulted, Stopped}
use Rattle.flow_core.specs.declared.book.EpochLine.{EpochLine}
use Rattle.flow_core.specs.declared.book.TicketLine.{TicketLine}
use Rattle.flow_core.specs.declared.letter.Letter.TheVariants.{A, T, C}
use Rattle.flow_core.specs.Books.{ticket_line, epoch_line}
use Rattle.flow_core.specs.Readings.{Flow}
use Rattle.flow_lists.specs.ReservedLists.{ReservedState}
use Rattle.flow_core.specs.World.{World, notice_of}
use Rattle.driven_flow.specs.declared.journal.Journal.{Journal}
use Rattle.driven_flow.specs.Driven.{Given}

-- ---- what a letter adds

-- the list with one more item
abbrev pub with_item : {X : Type 0} → X → ReservedState X → ReservedState X
with_item item list = record list { items = list.items ++ item ∷ [] }

-- the list with one more item, if there is one
abbrev pub with_some : {X : Type 0} → Option X → ReservedState X → ReservedState X
with_some None list = list
with_some (Some item) list = with_item item list

abbrev pub journal_ack : Ack → Option Notice → Journal → Journal
journal_ack ack fault j =
    record j { faults = with_some fault j.faults; acks = with_item ack j.acks; word = with_item A j.word }

abbrev pub journal_take : Journal → Journal
journal_take j = record j { word = with_item T j.word }

abbrev pub journal_answer : Given → TicketLine → Option EpochLine → Journal → Journal
journal_answer given ticket epoch j = record j {
  tickets = with_item ticket j.tickets;
  answers = with_item given j.answers;
  epochs = with_some epoch j.epochs;
  word = with_item C j.word;
}

-- the fault of an acknowledgement, by the machine's answer and the untold notice after it
abbrev pub new_notice : Acked → Option Notice → Option Notice
new_notice (Faulted kind index) untold = untold
new_notice Quiet untold = None
new_notice Reported untold = None
new_notice Held untold = None
new_notice Stopped untold = None

-- ---- room

abbrev pub HasSpareRoom : {X : Type 0} → ReservedState X → Type 0
HasSpareRoom list = length list.items < list.room

pub record HasAckRoom (j : Journal) : Type 0 where
  pub acks : HasSpareRoom j.acks
  pub faults : HasSpareRoom j.faults
  pub word : HasSpareRoom j.word

abbrev pub HasTakeRoom : Journal → Type 0
HasTakeRoom j = HasSpareRoom j.word

pub record HasAnswerRoom (j : Journal) : Type 0 where
  pub tickets : HasSpareRoom j.tickets
  pub answers : HasSpareRoom j.answers
  pub epochs : HasSpareRoom j.epochs
  pub word : HasSpareRoom j.word

-- only the room of the lists differs
pub record SameItems (old new : Journal) : Type 0 where
  pub acks : new.acks.items ≡ old.acks.items
  pub tickets : new.tickets.items ≡ old.tickets.items
  pub answers : new.answers.items ≡ old.answers.items
  pub epochs : new.epochs.items ≡ old.epochs.items
  pub faults : new.faults.items ≡ old.faults.items
  pub word : new.word.items ≡ old.word.items

-- ---- what holds

-- before the first letter there is the line of the first epoch alone
pub record Begins (epoch : EpochLine) (j : Journal) : Type 0 where
  pub acks : j.acks.items ≡ []
  pub tickets : j.tickets.items ≡ []
  pub answers : j.answers.items ≡ []
  pub epochs : j.epochs.items ≡ epoch ∷ []
  pub faults : j.faults.items ≡ []
  pub word : j.word.items ≡ []

-- the journal has the lists of a flow's state
pub record Records {X : Type 0} (flow : Flow X) (w : World X) (j : Journal) : Type 0 where
  pub acks : j.acks.items ≡ w.acks
  pub tickets : j.tickets.items ≡ map (ticket_line flow) w.answered
  pub epochs : j.epochs.items ≡ map epoch_line w.past ++ epoch_line w.present ∷ []
  pub faults : j.faults.items ≡ map (notice_of flow) w.faults
