-- The rows of cases whose codes are those of numbered programs are the rows read over the programs' sources.
use Rattle.std.proofs.Common.{◌≡◌, ◌∙◌, ℕ, suc, Bool, Result, Ok, Err, List, [], ◌∷◌, map, ap, refl, arith}
use Rattle.std.specs.Prelude.{IfOk}
use Rattle.std.specs.List.{All}
use Rattle.std.proofs.lemmas.Result.{IfOk-at_ok}
use Rattle.reg_compiler.specs.declared.built.Built.{Built}
use Rattle.flow_core.specs.declared.case.Case.{Case}
use Rattle.flow_core.specs.LiveText.{source_at}
use Rattle.campaign_core.specs.CampaignRow.{case_row}
use Rattle.campaign_gate.specs.LiftedRow.{RowHoldsForSources}
use Rattle.campaign_report.specs.BookText.{program_places}
use Rattle.scenario_json.specs.Cases.{IsCoded, AreNumberedFrom}
use Rattle.reg_compiler.specs.Sources.{sources_of}
use Rattle.run_ending.specs.declared.outcome.ModeOutput.{ModeOutput}
use Rattle.ccp_run.specs.Campaign.{TellsCampaign, campaign_text, source_row, source_rows}
use Rattle.ccp_run.proofs.CodedLemmas.{simulated}

module _ (programs : List (ℕ × Built)) (numbered : AreNumberedFrom 0 programs) (lifted : (case : Case) → RowHoldsForSources case) where
  -- a coded case's row is that of its sources
  row_over : (case : Case) → IsCoded programs case → case_row case ≡ source_row (sources_of programs) case
  row_over case coded =
      let ss = case.ss.role.number in
      let ca = case.ca.role.number in
      lifted case (source_at (sources_of programs) ss) (source_at (sources_of programs) ca) (program_places programs ss) (program_places programs ca)
      (simulated programs numbered ss case.ss coded.ss) (simulated programs numbered ca case.ca coded.ca)

  pub rows_over : (cases : List Case) → All (IsCoded programs) cases → map case_row cases ≡ source_rows programs cases
  rows_over [] coded = refl
  rows_over (case ∷ rest) coded =
      ap (λ row. row ∷ map case_row rest) (row_over case (coded 0 case (omega arith))) ∙ ap (λ rows. source_row (sources_of programs) case ∷ rows) (rows_over rest (λ k d h. coded (suc k) d (omega (arith, h))))

-- an output whose text is the table, if there was memory for it
pub table_told : {E : Type 0} (wire : Bool) (programs : List (ℕ × Built)) (cases : List Case) (text : Result (List ℕ) E) (made : Result ModeOutput E)
    → IfOk text (λ t. t ≡ campaign_text wire programs cases) → IfOk made (λ o. text ≡ Ok o.text) → IfOk made (λ o. o.books ≡ []) → IfOk made (λ o. o.ran ≡ 0)
    → IfOk made (TellsCampaign wire programs cases)
table_told wire programs cases text (Ok output) is shown books ran = record {
  written = IfOk-at_ok (λ t. t ≡ campaign_text wire programs cases) shown is;
  no_books = books;
  idle = ran;
}
table_told wire programs cases text (Err error) is shown books ran = tt
