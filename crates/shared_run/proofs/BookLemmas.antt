-- The rows and the books of flows, one after another.
use Rattle.std.specs.Prelude.{◌≡◌, zero, suc, true, List, [], ◌∷◌, ◌++◌, map, refl}
use Rattle.std.specs.List.{All}
use Rattle.std.proofs.Common.{arith, ap, sym, ◌∙◌, subst, append_assoc, append-nil}
use Rattle.flow_core.specs.declared.book.Given.{Given}
use Rattle.flow_core.specs.Readings.{over_codes}
use Rattle.flow_core.specs.Words.{is_still}
use Rattle.flow_core.specs.Cores.{CoreState}
use Rattle.campaign_core.specs.declared.tally.Tally.{Tally}
use Rattle.campaign_core.specs.declared.row.Row.{Row}
use Rattle.campaign_core.specs.FlowRow.{world_of_core, flow_row}
use Rattle.shared_run.specs.RoundLetters.{closed_flow}
use Rattle.campaign_core.specs.GivenFlows.{HasAllAcks, IsAfterHistory}
use Rattle.shared_run.specs.RoundFlows.{HaveAllAcks, kept_at}
use Rattle.shared_run.specs.SharedBooks.{IsGivenOf, AreGivensOf}
use Rattle.shared_run.proofs.CourseLemmas.{no-cons, same-first, same-rest}
use Rattle.shared_run.proofs.TurnLemmas.{closed-still}

module _ {F : Type 0} (at : CoreState → F) where
  -- the flow and the tally that are kept are after the history
  pub after-kept : (core : CoreState) (flow : F) (tally : Tally) → HasAllAcks core → kept_at at core ≡ (flow, tally) → IsAfterHistory at core flow tally
  after-kept core flow tally whole is = record { whole = whole; flow_is = ap (λ kept. kept.0) (sym is); tally_is = ap (λ kept. kept.1) (sym is) }

  pub kept-after : (core : CoreState) (flow : F) (tally : Tally) → IsAfterHistory at core flow tally → kept_at at core ≡ (flow, tally)
  kept-after core flow tally after = λ i. (sym after.flow_is i, sym after.tally_is i)

  -- ---- the rows

  -- these flows are left of those after the histories, and the rows of the others are made
  abbrev pub RowsLeft : List CoreState → List (F × Tally) → List Row → Type 0
  RowsLeft cores rest rows =
      (left : List CoreState) × HaveAllAcks left × (rest ≡ map (kept_at at) left) × (rows ++ map (flow_row over_codes) left ≡ map (flow_row over_codes) cores)

  abbrev pub LeavesRows : List (F × Tally) → List (F × Tally) → List Row → Type 0
  LeavesRows all rest rows = (cores : List CoreState) → HaveAllAcks cores → all ≡ map (kept_at at) cores → RowsLeft cores rest rows

  pub rows-first : (all : List (F × Tally)) (rows : List Row) → rows ≡ [] → LeavesRows all all rows
  rows-first all rows none cores whole is = (cores, whole, is, ap (λ (made : List Row). made ++ map (flow_row over_codes) cores) none)

  rows-where : (cores left : List CoreState) (flow : F) (tally : Tally) (later : List (F × Tally)) (rows : List Row) (row : Row)
      → ((core : CoreState) → IsAfterHistory at core flow tally → row ≡ flow_row over_codes core)
      → HaveAllAcks left → (flow, tally) ∷ later ≡ map (kept_at at) left → rows ++ map (flow_row over_codes) left ≡ map (flow_row over_codes) cores
      → RowsLeft cores later (rows ++ row ∷ [])
  rows-where cores [] flow tally later rows row reads whole is made = absurd (no-cons (flow, tally) later is)
  rows-where cores (core ∷ left) flow tally later rows row reads whole is made =
      let one : row ≡ flow_row over_codes core =
      reads core (after-kept core flow tally whole.0 (sym (same-first (flow, tally) (kept_at at core) later (map (kept_at at) left) is))) in (
        left,
        whole.1,
        same-rest (flow, tally) (kept_at at core) later (map (kept_at at) left) is,
        append_assoc rows (row ∷ []) (map (flow_row over_codes) left)
            ∙ ap (λ (r : Row). rows ++ r ∷ map (flow_row over_codes) left) one ∙ made,
      )

  pub rows-next : (all rest later : List (F × Tally)) (flow : F) (tally : Tally) (rows : List Row) (row : Row) (longer : List Row)
      → ((core : CoreState) → IsAfterHistory at core flow tally → row ≡ flow_row over_codes core)
      → rest ≡ (flow, tally) ∷ later → longer ≡ rows ++ row ∷ [] → LeavesRows all rest rows → LeavesRows all later longer
  rows-next all rest later flow tally rows row longer reads split pushed leaves cores whole is =
      let here = leaves cores whole is in
      subst (λ (made : List Row). RowsLeft cores later made) (sym pushed)
      (rows-where cores here.0 flow tally later rows row reads here.1 (sym split ∙ here.2) here.3)

  rows-end : (cores left : List CoreState) (rows : List Row) → [] ≡ map (kept_at at) left → rows ++ map (flow_row over_codes) left ≡ map (flow_row over_codes) cores
      → rows ≡ map (flow_row over_codes) cores
  rows-end cores [] rows is made = sym (append-nil rows) ∙ made
  rows-end cores (core ∷ left) rows is made = absurd (no-cons (kept_at at core) (map (kept_at at) left) (sym is))

  pub rows-last : (all rest : List (F × Tally)) (rows : List Row) → rest ≡ [] → LeavesRows all rest rows
      → (cores : List CoreState) → HaveAllAcks cores → all ≡ map (kept_at at) cores → rows ≡ map (flow_row over_codes) cores
  rows-last all rest rows none leaves cores whole is =
      let here = leaves cores whole is in
      rows-end cores here.0 rows (sym none ∙ here.2) here.3

-- ---- the books

givens-last : (cores : List CoreState) (givens : List Given) (core : CoreState) (given : Given) → AreGivensOf cores givens → IsGivenOf core given
    → AreGivensOf (cores ++ core ∷ []) (givens ++ given ∷ [])
givens-last [] [] core given are is = (is, tt)
givens-last [] (one ∷ givens) core given are is = absurd are
givens-last (first ∷ cores) [] core given are is = absurd are
givens-last (first ∷ cores) (one ∷ givens) core given are is = (are.0, givens-last cores givens core given are.1 is)

abbrev pub AreStill : List CoreState → Type 0
AreStill cores = All (λ (core : CoreState). is_still (world_of_core over_codes core) ≡ true) cores

-- of all flows those before the rest gave their books, and nothing is left to take or to answer of the rest
pub record AreDone (all rest : List CoreState) (books : List Given) : Type 0 where
  pub done : List CoreState
  pub split : done ++ rest ≡ all
  pub givens : AreGivensOf done books
  pub still : AreStill rest

pub done-none : (all rest : List CoreState) (givens : List Given) → rest ≡ all → givens ≡ [] → AreStill all → AreDone all rest givens
done-none all rest givens is none still = record {
  done = [];
  split = is;
  givens = subst (λ (gs : List Given). AreGivensOf [] gs) (sym none) tt;
  still = subst AreStill (sym is) still;
}

pub done-one : (all rest later : List CoreState) (core : CoreState) (givens : List Given) (given : Given) (longer : List Given)
    → AreDone all rest givens → rest ≡ core ∷ later → IsGivenOf core given → longer ≡ givens ++ given ∷ [] → AreDone all later longer
done-one all rest later core givens given longer are is gave pushed = record {
  done = are.done ++ core ∷ [];
  split = append_assoc are.done (core ∷ []) later ∙ ap (λ (xs : List CoreState). are.done ++ xs) (sym is) ∙ are.split;
  givens = subst (λ (gs : List Given). AreGivensOf (are.done ++ core ∷ []) gs) (sym pushed) (givens-last are.done givens core given are.givens gave);
  still =
      (λ k d less.
      subst AreStill is are.still (suc k) d (omega (arith, less)));
}

-- the next flow may finish
pub still-next : (all rest later : List CoreState) (core : CoreState) (givens : List Given) → AreDone all rest givens → rest ≡ core ∷ later
    → is_still (world_of_core over_codes core) ≡ true
still-next all rest later core givens are is =
    let front : AreStill (core ∷ later) = subst AreStill is are.still in
    front 0 core (omega arith)

pub done-all : (all rest : List CoreState) (givens : List Given) → AreDone all rest givens → rest ≡ [] → AreGivensOf all givens
done-all all rest givens are none =
    subst (λ (cores : List CoreState). AreGivensOf cores givens)
    (sym (append-nil are.done) ∙ ap (λ (xs : List CoreState). are.done ++ xs) (sym none) ∙ are.split) are.givens

-- nothing is left to take or to answer of closed flows
pub still-closed : (flows : List CoreState) → AreStill (map (closed_flow over_codes) flows)
still-closed [] k d less = absurd (omega (arith, less))
still-closed (core ∷ rest) zero d less = closed-still over_codes core
still-closed (core ∷ rest) (suc k) d less = still-closed rest k d (omega (arith, less))

-- ---- a list of flows with their tallies

module _ {S F : Type 0} (flow_of : S → F) (tally_of_one : S → Tally) where
  pub firsts : (items : List S) → map flow_of items ≡ map (λ (kept : F × Tally). kept.0) (map (λ (s : S). (flow_of s, tally_of_one s)) items)
  firsts [] = refl
  firsts (item ∷ rest) = ap (λ (xs : List F). flow_of item ∷ xs) (firsts rest)

pub kept-firsts : (cores : List CoreState) → map (λ (kept : CoreState × Tally). kept.0) (map (kept_at (λ (core : CoreState). core)) cores) ≡ cores
kept-firsts [] = refl
kept-firsts (core ∷ rest) = ap (λ (xs : List CoreState). core ∷ xs) (kept-firsts rest)
