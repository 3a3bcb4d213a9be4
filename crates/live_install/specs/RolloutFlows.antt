-- A rollout's flow as its table and its workers see it: what is said of it is said of its cell.
use Rattle.std.specs.Prelude.{[]}
use Rattle.scene_members.specs.declared.open_case.OpenCase.{OpenCase}
use Rattle.open_flow.specs.declared.book.OpenBook.{OpenBook}
use Rattle.live_install.specs.declared.rollout_flow.RolloutFlow.{RolloutFlow}
use Rattle.open_flow.specs.NextLetter.{HasNext}
use Rattle.live_install.specs.WholeBooks.{book_state}

abbrev pub case_of : RolloutFlow → OpenCase
case_of flow = flow.cell.case

-- the flow of a case without a letter
abbrev pub fresh_flow : OpenCase → RolloutFlow
fresh_flow case = record { cell = record { case = case; entries = []; word = [] } }

-- the flow whose history a book has
abbrev pub flow_in : OpenBook → RolloutFlow
flow_in book = record { cell = book_state book }

-- the flow has got the letter that the caller makes next
abbrev pub HasNextLetter : RolloutFlow → RolloutFlow → Type 0
HasNextLetter old new = HasNext old.cell new.cell
