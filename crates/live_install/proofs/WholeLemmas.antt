-- The book of a flow whose word is complete is whole.
use Rattle.std.specs.Prelude.{◌≡◌, true, List}
use Rattle.std.proofs.Common.{sym, subst}
use Rattle.scene_members.specs.declared.open_case.OpenCase.{OpenCase}
use Rattle.open_flow.specs.declared.book.OpenBook.{OpenBook}
use Rattle.open_flow.specs.declared.letter.OpenLetter.{OpenLetter}
use Rattle.open_flow.specs.OpenWords.{install_world, legal, is_complete}
use Rattle.open_flow.specs.OpenBooks.{IsOpenBookOf}
use Rattle.open_flow.specs.OpenCells.{OpenState, world_at, IsComplete}
use Rattle.live_install.specs.WholeBooks.{flow_of, IsWhole}

pub whole : (cell : OpenState) (book : OpenBook) → book.case ≡ cell.case → book.word ≡ cell.word → IsComplete cell
    → legal cell.case cell.word ≡ true → IsOpenBookOf (world_at cell) book → IsWhole book
whole cell book case word complete legal_word told =
    let same : (cell.case, cell.word) ≡ flow_of book = sym (λ i. (case i, word i)) in
    record {
      history = record {
        legal = subst (λ (f : OpenCase × List OpenLetter). legal f.0 f.1 ≡ true) same legal_word;
        complete = subst (λ (f : OpenCase × List OpenLetter). is_complete f.0 (install_world f.0 f.1) ≡ true) same complete;
      };
      right = subst (λ (f : OpenCase × List OpenLetter). IsOpenBookOf (install_world f.0 f.1) book) same told;
    }
