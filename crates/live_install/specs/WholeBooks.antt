-- What a book of a rollout is: it has the state after a legal and complete word of its case.
use Rattle.std.specs.Prelude.{◌≡◌, true, List, map}
use Rattle.scene_members.specs.declared.open_case.OpenCase.{OpenCase}
use Rattle.open_flow.specs.declared.book.OpenBook.{OpenBook}
use Rattle.open_flow.specs.declared.letter.OpenLetter.{OpenLetter}
use Rattle.open_flow.specs.OpenWords.{install_world, legal, is_complete}
use Rattle.open_flow.specs.OpenBooks.{IsOpenBookOf}
use Rattle.open_flow.specs.OpenCells.{OpenState}

-- the word is legal and complete for the case
pub record IsHistory (flow : OpenCase × List OpenLetter) : Type 0 where
  pub legal : legal flow.0 flow.1 ≡ true
  pub complete : is_complete flow.0 (install_world flow.0 flow.1) ≡ true

-- the flow that a book is of: its case and its word
abbrev pub flow_of : OpenBook → OpenCase × List OpenLetter
flow_of book = (book.case, book.word)

abbrev pub flows_of : List OpenBook → List (OpenCase × List OpenLetter)
flows_of books = map flow_of books

-- the book has the state after its word
abbrev pub IsRightBook : OpenBook → Type 0
IsRightBook book = IsOpenBookOf (install_world book.case book.word) book

pub record IsWhole (book : OpenBook) : Type 0 where
  pub history : IsHistory (flow_of book)
  pub right : IsRightBook book

-- the flow whose history a book has
abbrev pub book_state : OpenBook → OpenState
book_state book = record { case = book.case; entries = book.entries; word = book.word }

abbrev pub case_in : OpenBook → OpenCase
case_in book = book.case
