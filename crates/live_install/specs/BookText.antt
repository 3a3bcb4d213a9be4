-- The text of books: the account of each, with the places of its entries.
use Rattle.std.specs.Prelude.{ℕ, Option, Some, None, List, [], ◌∷◌, ◌++◌, map}
use Rattle.ccp_base.specs.declared.exchange.Notice.{Notice}
use Rattle.ccp_base.specs.declared.place.Place.{Place}
use Rattle.ccp_base.specs.Text.{◌⧺◌}
use Rattle.report_lines.specs.declared.end_line.End.{End}
use Rattle.flow_core.specs.World.{Failure}
use Rattle.open_flow.specs.declared.book.OpenBook.{OpenBook}
use Rattle.open_flow.specs.BuiltTexts.{EntryState}
use Rattle.open_flow.specs.Entries.{installed_of, step_place}
use Rattle.open_flow.specs.OpenBooks.{failure_at}
use Rattle.live_install.specs.RolloutText.{OpenAccount, account_text}

-- a fault, if its instruction has a place
abbrev pub failure_if_placed : Notice → Option Place → List (Failure Place)
failure_if_placed notice None = []
failure_if_placed notice (Some place) = failure_at notice place ∷ []

-- the faults with the places of their instructions
abbrev pub failures_in : List EntryState → List Notice → List (Failure Place)
failures_in entries [] = []
failures_in entries (notice ∷ rest) =
    failure_if_placed notice (step_place entries notice.program notice.index) ++ failures_in entries rest

-- how the flow stands
abbrev pub end_in : OpenBook → End
end_in book = record {
  acks = book.acks;
  first = book.first;
  stopped = book.machine.is_stopped;
  cwnd = book.machine.kept.cwnd;
  rate = book.machine.kept.rate;
  fields = book.machine.kept.reports;
}

abbrev pub account_in : OpenBook → OpenAccount
account_in book = record {
  entries = map installed_of book.entries;
  installed = book.installed;
  epochs = book.epochs;
  faults = failures_in book.entries book.faults;
  reports = book.reports;
  end = end_in book;
}

abbrev pub book_text : OpenBook → List ℕ
book_text book = account_text book.case (account_in book)

abbrev pub books_text : List OpenBook → List ℕ
books_text [] = []
books_text (book ∷ rest) = book_text book ⧺ books_text rest
