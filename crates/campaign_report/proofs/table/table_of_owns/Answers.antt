use Rattle.std.proofs.Common.{◌≡◌, ℕ, List, IfOk, subst}
use Rattle.campaign_report.specs.TableText.{labelled_table}
use Rattle.campaign_report.proofs.OwnLemmas.{owns-alike}
use Rattle.campaign_report.proofs.table.table_of_owns.Goals as goal

pub returns : goal.returns
returns c =
    subst (λ (labels : List (List ℕ)). IfOk c.labelled_table.result (λ text. text ≡ labelled_table c.args.names.now labels c.args.rows.now))
    (owns-alike c.args.owns.now c.args.rows.now c.requires.owns) c.labelled_table.ensures
