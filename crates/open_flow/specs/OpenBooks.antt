-- The book of a flow of a rollout: its entries, epochs, reports and faults are those of the state after its word.
use Rattle.std.specs.Prelude.{◌≡◌, ℕ, Option, Some, option_map, List, length, map}
use Rattle.ccp_base.specs.declared.place.Place.{Place}
use Rattle.ccp_base.specs.declared.exchange.Notice.{Notice}
use Rattle.flow_core.specs.Readings.{env_of}
use Rattle.flow_core.specs.World.{Failure}
use Rattle.flow_core.specs.Books.{epoch_line}
use Rattle.open_flow.specs.declared.entry.Entry.{Entry}
use Rattle.open_flow.specs.declared.book.OpenBook.{OpenBook}
use Rattle.open_flow.specs.OpenWorld.{OpenWorld, track_now, eras_of}
use Rattle.open_flow.specs.Entries.{installed_of, step_place, AreStepsFrom}

-- a failure of a flow, or none if an instruction has no place
abbrev pub Seen : Type 0
Seen = ℕ × Option (Failure Place)

abbrev pub failure_at : Notice → Place → Failure Place
failure_at notice place = record {
  program = notice.program;
  epoch = notice.epoch;
  at = notice.at;
  kind = notice.kind;
  site = place;
  now = notice.now;
  cwnd = notice.cwnd;
}

-- a notice as a failure of its flow: its instruction's index becomes its place
abbrev pub seen_of : List Entry → Notice → Seen
seen_of entries notice = (notice.flow, option_map (failure_at notice) (step_place entries notice.program notice.index))

abbrev pub seen_as : ℕ → Failure Place → Seen
seen_as flow failure = (flow, Some failure)

-- the book is that of this state; of the machine a book has the registers and whether it is stopped, and not the last
-- report
pub record IsOpenBookOf (w : OpenWorld) (book : OpenBook) : Type 0 where
  pub steps : AreStepsFrom 0 book.entries
  pub entries : map installed_of book.entries ≡ w.entries
  pub installed : book.installed ≡ w.installed
  pub epochs : book.epochs ≡ map epoch_line (eras_of w)
  pub reports : book.reports ≡ w.reports
  pub acks : book.acks ≡ length w.acks
  pub faults : map (seen_of book.entries) book.faults ≡ map (seen_as book.case.flow) w.faults
  pub first : book.first ≡ (track_now book.case w).first
  pub registers : env_of book.machine.kept ≡ (track_now book.case w).env
  pub stopped : book.machine.is_stopped ≡ (track_now book.case w).is_stopped
