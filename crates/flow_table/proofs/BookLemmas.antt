-- The book of a flow whose word is complete is whole.
use Rattle.std.specs.Prelude.{◌≡◌, true}
use Rattle.std.proofs.Common.{sym, subst}
use Rattle.flow_core.specs.declared.book.Book.{Book}
use Rattle.flow_core.specs.Words.{legal}
use Rattle.flow_core.specs.Books.{IsBookOf}
use Rattle.flow_core.specs.Cells.{CellState, flow_at, world_at, IsComplete, StateHoldsForSources}
use Rattle.flow_table.specs.WholeBooks.{flow_of, IsWholeBook}

pub whole : (cell : CellState) (book : Book) → book.case ≡ cell.case → book.word ≡ cell.word → IsComplete cell
    → legal (flow_at cell) cell.case.link cell.word ≡ true → IsBookOf (flow_at cell) (world_at cell) book → StateHoldsForSources cell → IsWholeBook book
whole cell book case word complete legal_word told lifted =
    let same : cell ≡ flow_of book = sym (λ i. record { case = case i; word = word i }) in
    record {
      legal = subst (λ (c : CellState). legal (flow_at c) c.case.link c.word ≡ true) same legal_word;
      complete = subst IsComplete same complete;
      told = subst (λ (c : CellState). IsBookOf (flow_at c) (world_at c) book) same told;
      lifted = subst StateHoldsForSources same lifted;
    }
