-- What the book of a flow is: it shows the state after a legal and complete word of its case.
use Rattle.std.specs.Prelude.{◌≡◌, true}
use Rattle.flow_core.specs.declared.book.Book.{Book}
use Rattle.flow_core.specs.Words.{legal}
use Rattle.flow_core.specs.Books.{IsBookOf}
use Rattle.flow_core.specs.Cells.{CellState, flow_at, world_at, IsComplete, StateHoldsForSources}

-- the flow that a book is of: its case and its word
abbrev pub flow_of : Book → CellState
flow_of book = record { case = book.case; word = book.word }

-- the word is legal and complete for the case, and the book shows the state after it, read over
-- the case's codes, and so, for all programs that these simulate, over the programs
pub record IsWholeBook (book : Book) : Type 0 where
  pub legal : legal (flow_at (flow_of book)) book.case.link book.word ≡ true
  pub complete : IsComplete (flow_of book)
  pub told : IsBookOf (flow_at (flow_of book)) (world_at (flow_of book)) book
  pub lifted : StateHoldsForSources (flow_of book)
