-- The books of a campaign are those of its cases' campaign words, read over the sources of the programs.
use Rattle.std.proofs.Common.{◌≡◌, ◌∙◌, ℕ, suc, Bool, Result, Ok, Err, List, [], ◌∷◌, map, get_or, ap, sym, subst, refl, arith}
use Rattle.std.specs.Prelude.{IfOk}
use Rattle.std.specs.List.{All}
use Rattle.std.proofs.lemmas.Result.{IfOk-at_ok}
use Rattle.ccp_base.specs.declared.ack.Ack.{Ack}
use Rattle.ccp_base.specs.Text.{◌⧺◌}
use Rattle.reg_compiler.specs.declared.built.Built.{Built}
use Rattle.flow_core.specs.declared.book.Book.{Book}
use Rattle.flow_core.specs.declared.case.Case.{Case}
use Rattle.flow_core.specs.declared.letter.Letter.{Letter}
use Rattle.flow_core.specs.Books.{IsBookOf}
use Rattle.flow_core.specs.Cells.{CellState, flow_at, world_at, IsComplete, StateHoldsForSources}
use Rattle.flow_core.specs.LiveText.{live_text, source_at}
use Rattle.flow_table.specs.WholeBooks.{IsWholeBook}
use Rattle.campaign_gate.specs.CampaignBooks.{IsCampaignBook, AreCampaignBooks, HasSourcePlan, acks_of_case}
use Rattle.campaign_core.specs.CampaignWord.{plan}
use Rattle.campaign_report.specs.AcksText.{acks_text}
use Rattle.campaign_report.specs.BookText.{program_places}
use Rattle.campaign_report.specs.BooksRead.{flows_of}
use Rattle.scenario_json.specs.Cases.{case_names, IsCoded, AreNumberedFrom}
use Rattle.reg_compiler.specs.Sources.{sources_of}
use Rattle.run_ending.specs.declared.outcome.ModeOutput.{ModeOutput}
use Rattle.ccp_run.specs.AcksRuns.{TellsAcks, source_acks}
use Rattle.ccp_run.specs.Campaign.{case_agents, frames_shown}
use Rattle.ccp_run.specs.Live.{IsRightBook, book_cases, books_written}
use Rattle.ccp_run.specs.Timeline.{TellsTimeline, source_plan, planned_by}
use Rattle.ccp_run.proofs.CodedLemmas.{simulated}
use Rattle.ccp_run.proofs.LiveLemmas.{right_books}

-- ---- one book

abbrev with_word : Book → List Letter → CellState
with_word book word = record { case = book.case; word = word }

-- a book of a campaign is one as a live run has them
whole_book : (book : Book) → IsCampaignBook book → IsWholeBook book
whole_book book is = record {
  legal = is.legal;
  complete = subst (λ (word : List Letter). IsComplete (with_word book word)) (sym is.word) is.complete;
  told = subst (λ (word : List Letter). IsBookOf (flow_at (with_word book word)) (world_at (with_word book word)) book) (sym is.word) is.told;
  lifted = subst (λ (word : List Letter). StateHoldsForSources (with_word book word)) (sym is.word) is.lifted;
}

module _ (programs : List (ℕ × Built)) (numbered : AreNumberedFrom 0 programs) (planned : (case : Case) → HasSourcePlan case) where
  -- ---- one case

  plan_over_sources : (case : Case) → IsCoded programs case → plan case ≡ source_plan (sources_of programs) case
  plan_over_sources case coded =
      let ss = case.ss.role.number in
      let ca = case.ca.role.number in
      (planned case).word (source_at (sources_of programs) ss) (source_at (sources_of programs) ca) (program_places programs ss) (program_places programs ca)
      (simulated programs numbered ss case.ss coded.ss) (simulated programs numbered ca case.ca coded.ca)

  acks_over_sources : (case : Case) → IsCoded programs case → acks_of_case case ≡ source_acks (sources_of programs) case
  acks_over_sources case coded =
      let ss = case.ss.role.number in
      let ca = case.ca.role.number in
      (planned case).acks (source_at (sources_of programs) ss) (source_at (sources_of programs) ca) (program_places programs ss) (program_places programs ca)
      (simulated programs numbered ss case.ss coded.ss) (simulated programs numbered ca case.ca coded.ca)

  -- ---- all cases

  pub acks_over : (cases : List Case) → All (IsCoded programs) cases → map acks_of_case cases ≡ map (source_acks (sources_of programs)) cases
  acks_over [] coded = refl
  acks_over (case ∷ rest) coded =
      let first : acks_of_case case ≡ source_acks (sources_of programs) case = acks_over_sources case (coded 0 case (omega arith)) in
      let later : map acks_of_case rest ≡ map (source_acks (sources_of programs)) rest = acks_over rest (λ k d h. coded (suc k) d (omega (arith, h))) in
      λ i. first i ∷ later i

  words_over : (books : List Book) → All IsCampaignBook books → All (IsCoded programs) (book_cases books) → flows_of books ≡ planned_by (sources_of programs) (book_cases books)
  words_over [] are coded = refl
  words_over (book ∷ rest) are coded =
      let first : book.word ≡ source_plan (sources_of programs) book.case =
      (are 0 book (omega arith)).word ∙ plan_over_sources book.case (coded 0 book.case (omega arith)) in
      let later : flows_of rest ≡ planned_by (sources_of programs) (book_cases rest) =
      words_over rest (λ k d h. are (suc k) d (omega (arith, h))) (λ k d h. coded (suc k) d (omega (arith, h))) in
      λ i. (book.case, first i) ∷ later i

  -- ---- the books of coded cases

  module _ (cases : List Case) (books : List Book) (coded : All (IsCoded programs) cases) (are : AreCampaignBooks cases books) where
    coded_books : All (IsCoded programs) (book_cases books)
    coded_books = subst (λ (cs : List Case). All (IsCoded programs) cs) (sym are.0) coded

    pub right_of : All (IsRightBook programs) books
    right_of = right_books programs numbered books (λ k d h. whole_book (get_or books k d) (are.1 k d h)) coded_books

    pub flows_planned : flows_of books ≡ planned_by (sources_of programs) cases
    flows_planned = words_over books are.1 coded_books ∙ ap (λ (cs : List Case). planned_by (sources_of programs) cs) are.0

-- ---- outputs, if there was memory for them

module _ {E : Type 0} (programs : List (ℕ × Built)) (numbered : AreNumberedFrom 0 programs) (cases : List Case) (coded : All (IsCoded programs) cases) where
  pub acks_told : (text : Result (List ℕ) E) (made : Result ModeOutput E)
      → IfOk text (λ t. t ≡ acks_text (case_names cases) (case_agents cases) (map acks_of_case cases)) → IfOk text (λ t. (case : Case) → HasSourcePlan case)
      → IfOk made (λ o. text ≡ Ok o.text) → IfOk made (λ o. o.books ≡ []) → IfOk made (λ o. o.ran ≡ 0)
      → IfOk made (TellsAcks programs cases)
  acks_told text (Ok output) is source shown books ran =
      let planned : (case : Case) → HasSourcePlan case = IfOk-at_ok (λ t. (case : Case) → HasSourcePlan case) shown source in
      record {
        written = IfOk-at_ok (λ t. t ≡ acks_text (case_names cases) (case_agents cases) (map acks_of_case cases)) shown is
            ∙ ap (λ (acks : List (List Ack)). acks_text (case_names cases) (case_agents cases) acks) (acks_over programs numbered planned cases coded);
        no_books = books;
        idle = ran;
      }
  acks_told text (Err error) is source shown books ran = tt

  pub timeline_told : (wire : Bool) → ((case : Case) → HasSourcePlan case) → (books : Result (List Book) E) (made : Result ModeOutput E)
      → IfOk books (AreCampaignBooks cases) → IfOk made (λ o. books ≡ Ok o.books)
      → IfOk made (λ o. All (IsRightBook programs) o.books → o.text ≡ books_written wire programs o.books) → IfOk made (λ o. o.ran ≡ 0)
      → IfOk made (TellsTimeline wire programs cases)
  timeline_told wire planned books (Ok output) are kept text ran =
      let is : AreCampaignBooks cases output.books = IfOk-at_ok (AreCampaignBooks cases) kept are in
      let right : All (IsRightBook programs) output.books = right_of programs numbered planned cases output.books coded is in
      let words : flows_of output.books ≡ planned_by (sources_of programs) cases = flows_planned programs numbered planned cases output.books coded is in
      record {
        books = words;
        right = right;
        written = text right ∙ ap (λ (flows : List (Case × List Letter)). frames_shown wire programs ⧺ live_text (sources_of programs) flows) words;
        idle = ran;
      }
  timeline_told wire planned books (Err error) are kept text ran = tt
