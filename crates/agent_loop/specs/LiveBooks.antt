-- What the books of a live run are: one a case, in order, each of a legal and complete word.
use Rattle.std.specs.Prelude.{◌≡◌, List, map}
use Rattle.std.specs.List.{All}
use Rattle.flow_core.specs.declared.case.Case.{Case}
use Rattle.flow_core.specs.declared.book.Book.{Book}
use Rattle.flow_core.specs.Cells.{CellState}
use Rattle.flow_table.specs.WholeBooks.{IsWholeBook}

abbrev pub case_of : CellState → Case
case_of cell = cell.case

-- one book a case, in order
abbrev pub AreBooksOf : List Case → List Book → Type 0
AreBooksOf cases books = (map (λ (book : Book). book.case) books ≡ cases) × All IsWholeBook books
