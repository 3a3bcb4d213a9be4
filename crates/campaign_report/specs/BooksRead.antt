-- When a book has its flow's state after its word, read over the sources of programs with the places of their
-- instructions.
use Rattle.std.specs.Prelude.{◌≡◌, ℕ, List, [], ◌∷◌, ◌++◌, map}
use Rattle.ccp_base.specs.declared.exchange.Told.{Told}
use Rattle.ccp_base.specs.declared.exchange.Told.TheVariants.{Report, Fault}
use Rattle.ccp_base.specs.declared.place.Place.{Place}
use Rattle.reg_compiler.specs.declared.built.Built.{Built}
use Rattle.flow_core.specs.declared.book.Book.{Book}
use Rattle.flow_core.specs.declared.book.TicketLine.{TicketLine}
use Rattle.flow_core.specs.declared.case.Case.{Case}
use Rattle.flow_core.specs.declared.letter.Letter.{Letter}
use Rattle.flow_core.specs.Books.{epoch_line}
use Rattle.flow_core.specs.LiveText.{flow_from, live_text, sources_of}
use Rattle.flow_core.specs.Readings.{Flow, env_of}
use Rattle.flow_core.specs.Words.{world}
use Rattle.flow_core.specs.World.{Content, of_report, of_failure, Answered, World, track_of}
use Rattle.campaign_report.specs.BookText.{placed_failure}

-- the content of a ticket, if a fault has the place of its instruction
abbrev pub content_of : List (ℕ × Built) → Case → Told → Content Place
content_of programs case (Report report) = of_report report
content_of programs case (Fault notice) = of_failure (placed_failure programs case notice)

abbrev pub answered_of : List (ℕ × Built) → Case → TicketLine → Answered Place
answered_of programs case ticket = record {
  told = content_of programs case ticket.told;
  taken = ticket.taken;
  answered = ticket.answered;
  reply = ticket.reply;
}

-- a book's flow, read over the sources of its programs
abbrev pub read_flow : List (ℕ × Built) → Book → Flow Place
read_flow programs book = flow_from (sources_of programs) book.case

-- and its state after the book's word
abbrev pub read_world : List (ℕ × Built) → Book → World Place
read_world programs book = world (read_flow programs book) book.case.link book.word

-- the book's tickets, epochs, faults, held number and registers are those of this state of its flow, each fault with the
-- place of its instruction
pub record IsBookReadAs (programs : List (ℕ × Built)) (book : Book) (w : World Place) : Type 0 where
  pub tickets : map (answered_of programs book.case) book.tickets ≡ w.answered
  pub epochs : book.epochs ≡ map epoch_line (w.past ++ w.present ∷ [])
  pub faults : map (placed_failure programs book.case) book.faults ≡ w.faults
  pub held : book.held ≡ w.held
  pub first : book.first ≡ (track_of (read_flow programs book) w).first
  pub registers : env_of book.machine.kept ≡ (track_of (read_flow programs book) w).env
  pub stopped : book.machine.is_stopped ≡ (track_of (read_flow programs book) w).is_stopped

-- they are those of the state after the book's word
abbrev pub IsBookRead : List (ℕ × Built) → Book → Type 0
IsBookRead programs book = IsBookReadAs programs book (read_world programs book)

-- the flows of books: each its case and its word
abbrev pub flows_of : List Book → List (Case × List Letter)
flows_of books = map (λ (book : Book). (book.case, book.word)) books

-- the live text of these flows, read over the sources of the programs
abbrev pub read_text : List (ℕ × Built) → List Book → List ℕ
read_text programs books = live_text (sources_of programs) (flows_of books)
