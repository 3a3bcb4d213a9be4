use Rattle.std.proofs.Common.{◌≡◌, ◌∙◌, ◌≤◌, ◌++◌, ℕ, List, length, ap, sym, subst}
use Rattle.std.specs.Prelude.{IfOk}
use Rattle.std.proofs.lemmas.List.{length-map}
use Rattle.ccp_base.specs.Limits.{most_cases}
use Rattle.campaign_core.specs.CampaignRow.{case_row}
use Rattle.campaign_report.specs.TableText.{table_text}
use Rattle.ccp_run.specs.Campaign.{campaign_text, source_rows, frames_shown}
use Rattle.ccp_run.proofs.CampaignLemmas.{rows_over}
use Rattle.ccp_run.proofs.modes.campaign.labelled_text.Goals as goal

pub rows_text-requires-clause-within : goal.rows_text-requires-clause-within
rows_text-requires-clause-within g c =
    subst (λ (n : ℕ). n ≤ most_cases) (sym (ap length c.in_ok-rows.ensures.rows ∙ length-map c.args.cases case_row)) c.requires.few

pub rows_text-requires-clause-names : goal.rows_text-requires-clause-names
rows_text-requires-clause-names g c =
    let cases = c.args.cases in
    ap length c.requires.names ∙ length-map cases (λ case. case.name) ∙ sym (ap length c.in_ok-rows.ensures.rows ∙ length-map cases case_row)

pub rows_text-requires-clause-agents : goal.rows_text-requires-clause-agents
rows_text-requires-clause-agents g c =
    let cases = c.args.cases in
    ap length c.requires.agents ∙ length-map cases (λ case. case.agent) ∙ sym (ap length c.in_ok-rows.ensures.rows ∙ length-map cases case_row)

pub returns : goal.returns
returns g c =
    let cases = c.args.cases in
    let programs = c.args.programs.now in
    let rows : c.in_ok-rows.rows ≡ source_rows programs cases =
    c.in_ok-rows.ensures.rows ∙ rows_over programs c.requires.numbered c.in_ok-rows.ensures.lifted cases c.requires.coded in
    let whole : frames_shown c.args.wire programs ++ table_text c.args.names.now c.args.agents.now c.in_ok-rows.rows ≡ campaign_text c.args.wire programs cases =
    λ i. frames_shown c.args.wire programs ++ table_text (c.requires.names i) (c.requires.agents i) (rows i) in
    subst (λ (t : List ℕ). IfOk c.rows_text.result (λ text. text ≡ t)) whole c.rows_text.ensures
