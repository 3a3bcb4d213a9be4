use Rattle.std.proofs.Common.{◌≡◌, ◌∙◌, ◌++◌, rules, ap}
use Rattle.campaign_report.specs.TableText.{table_text}
use Rattle.ccp_run.specs.Shared.{link_line}
use Rattle.ccp_run.proofs.modes.shared.shared_text.Goals as goal

pub returns : goal.returns
returns c =
    let made = c.args.made.now in
    let table : c.in_ok-text.text ≡ table_text c.args.names.now c.args.agents.now made.rows = search rules in
    let whole : c.put_link_line.new.text ≡ c.in_ok-text.text ++ link_line made.counts = search rules in
    whole ∙ ap (λ text. text ++ link_line made.counts) table
