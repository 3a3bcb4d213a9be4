-- The text of books: of each its account, read over the sources of programs with their places.
use Rattle.std.specs.Prelude.{ℕ, List, [], ◌∷◌, map}
use Rattle.ccp_base.specs.declared.exchange.Notice.{Notice}
use Rattle.ccp_base.specs.declared.place.Place.{Place}
use Rattle.ccp_base.specs.Text.{◌⧺◌}
use Rattle.reg_compiler.specs.declared.built.Built.{Built}
use Rattle.report_lines.specs.declared.end_line.End.{End}
use Rattle.flow_core.specs.declared.book.Book.{Book}
use Rattle.flow_core.specs.declared.book.EpochLine.{EpochLine}
use Rattle.flow_core.specs.declared.case.Case.{Case}
use Rattle.flow_core.specs.Lift.{Placing, place_at}
use Rattle.flow_core.specs.LiveText.{Account, account_text, sources_of}
use Rattle.flow_core.specs.Readings.{by_number}
use Rattle.flow_core.specs.Words.{acks_in}
use Rattle.flow_core.specs.World.{Failure}
use Rattle.live_lines.specs.FaultPlaces.{placed}
pub use Rattle.live_lines.specs.FaultPlaces.{program_places}

-- ---- the account of a book

-- the program of the last of these epochs; this one if there is none
abbrev pub last_program : ℕ → List EpochLine → ℕ
last_program program [] = program
last_program program (epoch ∷ rest) = last_program epoch.program rest

-- the places of the program with this number, which is one of the case's two
abbrev pub places_in : List (ℕ × Built) → Case → ℕ → List Place
places_in programs case =
    by_number case (program_places programs case.ss.role.number) (program_places programs case.ca.role.number)

-- by the number of one of the case's programs and an instruction's index, its place
abbrev pub case_placing : List (ℕ × Built) → Case → Placing
case_placing programs case number = place_at (places_in programs case number)

-- a fault, with the place of its instruction
abbrev pub placed_failure : List (ℕ × Built) → Case → Notice → Failure Place
placed_failure programs case = placed (case_placing programs case)

-- how the flow stands after the letters of its word
abbrev pub end_in : Book → End
end_in book = record {
  acks = acks_in book.word;
  first = book.first;
  stopped = book.machine.is_stopped;
  cwnd = book.machine.kept.cwnd;
  rate = book.machine.kept.rate;
  fields = book.machine.kept.reports;
}

abbrev pub account_in : List (ℕ × Built) → Book → Account
account_in programs book = record {
  epochs = book.epochs;
  faults = map (placed_failure programs book.case) book.faults;
  tickets = book.tickets;
  held = book.held;
  program = last_program 0 book.epochs;
  end = end_in book;
}

-- ---- the text

abbrev pub book_text : List (ℕ × Built) → Book → List ℕ
book_text programs book = account_text (sources_of programs) book.case (account_in programs book)

abbrev pub books_text : List (ℕ × Built) → List Book → List ℕ
books_text programs [] = []
books_text programs (book ∷ rest) = book_text programs book ⧺ books_text programs rest
