-- The books of flows that are after their campaign words.
use Rattle.std.specs.Prelude.{◌≡◌, ℕ, Bool, true, false, not, ◌&&◌, nat_lt, length, zero, suc, Some, None, Result, Ok, Err, IfOk, List, [], ◌∷◌, ◌++◌, map, drop, slice_get, refl}
use Rattle.std.specs.List.{All}
use Rattle.std.proofs.Common.{arith, ap, sym, ◌∙◌, subst, append_assoc, append-nil}
use Rattle.std.proofs.lemmas.List.Elements.{All-append, All-map}
use Rattle.ccp_base.specs.declared.outside.NoMemory.{NoMemory}
use Rattle.flow_core.specs.declared.book.Book.{Book}
use Rattle.flow_core.specs.declared.case.Case.{Case}
use Rattle.flow_core.specs.declared.letter.Letter.{Letter}
use Rattle.flow_core.specs.Readings.{over_codes}
use Rattle.flow_core.specs.World.{World}
use Rattle.flow_core.specs.Words.{legal, is_still}
use Rattle.flow_core.specs.Books.{IsBookOf}
use Rattle.flow_core.specs.Cells.{world_at}
use Rattle.flow_core.specs.Cores.{flow_in, world_in}
use Rattle.flow_core.specs.Summaries.{is_idle}
use Rattle.flow_core.specs.BookFlows.{BookFlowState, EndsAs}
use Rattle.flow_core.proofs.CellLemmas.{lifted}
use Rattle.flow_core.proofs.CoreLemmas.{book-ends}
use Rattle.flow_core.proofs.SummaryLemmas.{summary-still}
use Rattle.campaign_core.specs.CampaignWord.{plan}
use Rattle.campaign_core.proofs.PlanLemmas.{plan-is-legal, plan-is-complete}
use Rattle.campaign_gate.specs.CampaignBooks.{planned, IsCampaignBook, AreCampaignBooks}
use Rattle.campaign_gate.specs.CaseRuns.{core_of_case, book_flow_of_case}
use Rattle.campaign_gate.proofs.CaseRunLemmas.{world-given}
use Rattle.campaign_gate.proofs.ShareLemmas.{drop-next, none-left}

abbrev pub case_of : BookFlowState → Case
case_of flow = flow.bare.case

abbrev pub book_case : Book → Case
book_case book = book.case

abbrev pub IsPlanned : BookFlowState → Type 0
IsPlanned flow = flow ≡ book_flow_of_case flow.bare.case

All-one : {X : Type 0} (P : X → Type 0) (x : X) → P x → All P (x ∷ [])
All-one P x is zero d within = is
All-one P x is (suc k) d within = absurd (omega (arith, within))

-- these books are made, and these flows are left
pub record AreMade (flows left : List BookFlowState) (books : List Book) : Type 0 where
  pub cases : map book_case books ++ map case_of left ≡ map case_of flows
  pub books_are : All IsCampaignBook books
  pub left_are : All IsPlanned left

pub made-begins : (flows left : List BookFlowState) (books : List Book) → left ≡ flows → books ≡ [] → All IsPlanned flows → AreMade flows left books
made-begins flows left books all none planned = record {
  cases = λ i. map book_case (none i) ++ map case_of (all i);
  books_are = subst (All IsCampaignBook) (sym none) (λ k d within. absurd (omega (arith, within)));
  left_are = subst (All IsPlanned) (sym all) planned;
}

first-left : (left : List BookFlowState) (flow : BookFlowState) → Some flow ≡ slice_get left 0 → left ≡ flow ∷ drop 1 left
first-left left flow first = drop-next left 0 flow (sym first)

pub made-next : (flows left : List BookFlowState) (books : List Book) (flow : BookFlowState) → AreMade flows left books → Some flow ≡ slice_get left 0
    → IsPlanned flow
made-next flows left books flow made first =
    (subst (All IsPlanned) (first-left left flow first) made.left_are) 0 flow (omega arith)

pub made-goes-on : (flows left rest : List BookFlowState) (books next : List Book) (flow : BookFlowState) (book : Book)
    → AreMade flows left books → Some flow ≡ slice_get left 0 → rest ≡ drop 1 left
    → book.case ≡ flow.bare.case → IsCampaignBook book → next ≡ books ++ book ∷ []
    → AreMade flows rest next
made-goes-on flows left rest books next flow book made first after case is put =
    let split : left ≡ flow ∷ rest = first-left left flow first ∙ ap (λ (xs : List BookFlowState). flow ∷ xs) (sym after) in
    let all : All IsPlanned (flow ∷ rest) = subst (All IsPlanned) split made.left_are in
    let cases : map book_case (books ++ book ∷ []) ++ map case_of rest ≡ map case_of flows =
    ap (λ (xs : List Case). xs ++ map case_of rest) (cases-append books book)
    ∙ append_assoc (map book_case books) (book.case ∷ []) (map case_of rest)
    ∙ ap (λ (c : Case). map book_case books ++ c ∷ map case_of rest) case
    ∙ ap (λ (xs : List BookFlowState). map book_case books ++ map case_of xs) (sym split)
    ∙ made.cases in
    record {
      cases = ap (λ (xs : List Book). map book_case xs ++ map case_of rest) put ∙ cases;
      books_are = subst (All IsCampaignBook) (sym put) (All-append IsCampaignBook books (book ∷ []) made.books_are (All-one IsCampaignBook book is));
      left_are = λ k d within. all (suc k) d (omega (arith, within));
    }
  where
    cases-append : (books : List Book) (book : Book) → map book_case (books ++ book ∷ []) ≡ map book_case books ++ book.case ∷ []
    cases-append [] book = refl
    cases-append (one ∷ rest) book = ap (λ (xs : List Case). one.case ∷ xs) (cases-append rest book)

pub made-ends : (flows left : List BookFlowState) (books : List Book) → AreMade flows left books → None ≡ slice_get left 0
    → map book_case books ≡ map case_of flows
made-ends flows left books made none =
    sym (append-nil (map book_case books))
    ∙ ap (λ (xs : List BookFlowState). map book_case books ++ map case_of xs) (sym (none-left left (sym none)))
    ∙ made.cases

-- ---- the flows of a campaign

planned-cases : (cases : List Case) → map case_of (map book_flow_of_case cases) ≡ cases
planned-cases [] = refl
planned-cases (case ∷ rest) = ap (λ (xs : List Case). case ∷ xs) (planned-cases rest)

pub are-planned : (flows : List BookFlowState) (cases : List Case) → flows ≡ map book_flow_of_case cases → All IsPlanned flows
are-planned flows cases same = subst (All IsPlanned) (sym same) (All-map IsPlanned book_flow_of_case cases (λ k d within. refl))

pub campaign-books : (flows : List BookFlowState) (cases : List Case) (result : Result (List Book) NoMemory) → flows ≡ map book_flow_of_case cases
    → IfOk result (λ books. map book_case books ≡ map case_of flows) → IfOk result (All IsCampaignBook)
    → IfOk result (AreCampaignBooks cases)
campaign-books flows cases (Ok books) same are_of are =
    (are_of ∙ ap (λ (xs : List BookFlowState). map case_of xs) same ∙ planned-cases cases, are)
campaign-books flows cases (Err fault) same are_of are = are_of

-- ---- a book

still-complete : (more still : Bool) → (not more && still) ≡ true → still ≡ true
still-complete true still is = absurd (let wrong : false ≡ true = is in (cc))
still-complete false still is = is

-- nothing is left to take or to answer
pub flow-idle : (flow : BookFlowState) → IsPlanned flow → is_idle flow.bare.summary ≡ true
flow-idle flow is =
    let case = flow.bare.case in
    let core = core_of_case case in
    ap (λ (f : BookFlowState). is_idle f.bare.summary) is
    ∙ sym (summary-still (over_codes case) (world_in core))
    ∙ ap (λ (w : World ℕ). is_still w) (world-given (planned case))
    ∙ still-complete (nat_lt (length (world_at (planned case)).acks) case.acks) (is_still (world_at (planned case))) (plan-is-complete case)

pub campaign-book : (flow : BookFlowState) (book : Book) → IsPlanned flow → EndsAs flow book → IsCampaignBook book
campaign-book flow book is ends =
    let case = flow.bare.case in
    let core = core_of_case case in
    let whole : book.word ≡ plan book.case = ends.word ∙ ap (λ (f : BookFlowState). f.word) is ∙ ap plan (sym ends.case) in
    let told = book-ends core book (subst (λ (f : BookFlowState). EndsAs f book) is ends) in
    record {
      word = whole;
      legal = ap (λ (w : List Letter). legal (over_codes book.case) book.case.link w) whole ∙ plan-is-legal book.case;
      complete = plan-is-complete book.case;
      told =
          subst (λ (k : Case). IsBookOf (over_codes k) (world_at (planned k)) book) (sym ends.case)
          (subst (λ (w : World ℕ). IsBookOf (flow_in core) w book) (world-given (planned case)) told);
      lifted = lifted (planned book.case);
    }
