-- The text of a book that shows the state after its word is its flow's part of the rollout text.
use Rattle.std.specs.Prelude.{◌≡◌, ℕ, suc, Option, Some, None, option_map, List, [], ◌∷◌, ◌++◌, length, map, refl}
use Rattle.std.specs.List.{All}
use Rattle.std.proofs.Common.{ap, arith}
use Rattle.ccp_base.specs.declared.exchange.Notice.{Notice}
use Rattle.ccp_base.specs.declared.place.Place.{Place}
use Rattle.ccp_base.specs.Text.{◌⧺◌}
use Rattle.flow_core.specs.World.{Failure}
use Rattle.open_flow.specs.declared.book.OpenBook.{OpenBook}
use Rattle.open_flow.specs.BuiltTexts.{EntryState}
use Rattle.open_flow.specs.Entries.{step_place}
use Rattle.open_flow.specs.OpenBooks.{failure_at, seen_of, seen_as}
use Rattle.open_flow.specs.OpenWorld.{OpenWorld, track_now}
use Rattle.open_flow.specs.OpenWords.{install_world}
use Rattle.live_install.specs.RolloutText.{OpenAccount, account_of, account_text, end_of, fault_lines, open_part, rollout_text}
use Rattle.report_lines.specs.FaultLine.{placed_line}
use Rattle.live_install.specs.BookText.{account_in, book_text, books_text, end_in, failures_in, failure_if_placed}
use Rattle.live_install.specs.WholeBooks.{IsRightBook, flows_of}

-- ---- faults and their places

pub placed-line : (notice : Notice) (place : Option Place) (rest : List (Failure Place))
    → placed_line notice place ++ fault_lines rest ≡ fault_lines (failure_if_placed notice place ++ rest)
placed-line notice None rest = refl
placed-line notice (Some place) rest = refl

seen-placed : (notice : Notice) (place : Option Place) (failure : Failure Place) → option_map (failure_at notice) place ≡ Some failure
    → failure_if_placed notice place ≡ failure ∷ []
seen-placed notice None failure is = absurd (let wrong : None ≡ Some failure = is in (cc))
seen-placed notice (Some place) failure is =
    let same : failure_at notice place ≡ failure = cc in
    ap (λ (f : Failure Place). f ∷ []) same

module _ (entries : List EntryState) (flow : ℕ) where
  pub seen-failures : (faults : List Notice) (failures : List (Failure Place)) → map (seen_of entries) faults ≡ map (seen_as flow) failures
      → failures_in entries faults ≡ failures
  seen-failures [] [] same = refl
  seen-failures [] (failure ∷ more) same = absurd (let wrong : [] ≡ seen_as flow failure ∷ map (seen_as flow) more = same in (cc))
  seen-failures (notice ∷ rest) [] same = absurd (let wrong : seen_of entries notice ∷ map (seen_of entries) rest ≡ [] = same in (cc))
  seen-failures (notice ∷ rest) (failure ∷ more) same =
      let heads : seen_of entries notice ≡ seen_as flow failure = cc in
      let tails : map (seen_of entries) rest ≡ map (seen_as flow) more = cc in
      let here = seen-placed notice (step_place entries notice.program notice.index) failure (ap (λ (s : ℕ × Option (Failure Place)). s.1) heads) in
      λ i. here i ++ seen-failures rest more tails i

-- ---- a book

module _ (book : OpenBook) (told : IsRightBook book) where
  abbrev w : OpenWorld
  w = install_world book.case book.word

  ends : end_in book ≡ end_of (length w.acks) (track_now book.case w)
  ends = λ i. record {
    acks = told.acks i;
    first = told.first i;
    stopped = told.stopped i;
    cwnd = (told.registers i).cwnd;
    rate = (told.registers i).rate;
    fields = (told.registers i).fields;
  }

  accounts : account_in book ≡ account_of book.case w
  accounts =
      let faults = seen-failures book.entries book.case.flow book.faults w.faults told.faults in
      λ i. record {
        entries = told.entries i;
        installed = told.installed i;
        epochs = told.epochs i;
        faults = faults i;
        reports = told.reports i;
        end = ends i;
      }

  pub book-part : book_text book ≡ open_part book.case w
  book-part = ap (λ (account : OpenAccount). account_text book.case account) accounts

-- the text of books that show the states after their words
pub books-rollout : (books : List OpenBook) → All IsRightBook books → books_text books ≡ rollout_text (flows_of books)
books-rollout [] told = refl
books-rollout (book ∷ rest) told =
    let first = book-part book (told 0 book (omega arith)) in
    let later = books-rollout rest (λ k d h. told (suc k) d (omega (arith, h))) in
    λ i. first i ⧺ later i
