use Rattle.std.proofs.Common.{◌≡◌, ◌∙◌, ◌++◌, rules, ap}
use Rattle.campaign_report.specs.TableText.{table_text}
use Rattle.ccp_run.specs.Campaign.{frames_shown}
use Rattle.ccp_run.proofs.modes.campaign.rows_text.Goals as goal

pub returns : goal.returns
returns c =
    let programs = c.args.programs.now in
    let frames : c.in_ok-text.text ≡ frames_shown c.args.wire programs = search rules in
    let table : c.in_ok-table_text.field-0 ≡ table_text c.args.names.now c.args.agents.now c.args.rows.now = search rules in
    let whole : c.extend.new.self ≡ c.in_ok-text.text ++ c.in_ok-table_text.field-0 = search rules in
    whole
    ∙ ap (λ text. text ++ c.in_ok-table_text.field-0) frames
    ∙ ap (λ text. frames_shown c.args.wire programs ++ text) table
