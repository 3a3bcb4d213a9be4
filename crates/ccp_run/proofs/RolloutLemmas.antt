-- What the books of a rollout show for its cases.
use Rattle.std.proofs.Common.{◌≡◌, List, [], ◌∷◌, map, ap, refl}
use Rattle.std.specs.List.{All}
use Rattle.std.proofs.lemmas.List.Elements.{All-map}
use Rattle.scene_members.specs.declared.open_case.OpenCase.{OpenCase}
use Rattle.open_flow.specs.declared.letter.OpenLetter.{OpenLetter}
use Rattle.open_flow.specs.declared.book.OpenBook.{OpenBook}
use Rattle.live_install.specs.WholeBooks.{IsHistory, flow_of, flows_of, case_in, IsRightBook, IsWhole}

pub flow_cases : (books : List OpenBook) → map (λ (flow : OpenCase × List OpenLetter). flow.0) (flows_of books) ≡ map case_in books
flow_cases [] = refl
flow_cases (book ∷ rest) = ap (λ (cases : List OpenCase). book.case ∷ cases) (flow_cases rest)

pub all_right : (books : List OpenBook) → All IsWhole books → All IsRightBook books
all_right books whole = λ k book h. (whole k book h).right

pub all_histories : (books : List OpenBook) → All IsWhole books → All IsHistory (flows_of books)
all_histories books whole = All-map IsHistory flow_of books (λ k book h. (whole k book h).history)
