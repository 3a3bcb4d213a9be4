use Rattle.std.proofs.Common.{◌≡◌, ◌++◌, length}
use Rattle.campaign_report.specs.TableText.{values}
use Rattle.campaign_report.proofs.table.put_values.Given as goal

abbrev pub invariant-loop-column : goal.invariant-loop-column
invariant-loop-column l = l.text ++ values l.left l.row ≡ l.initial.text ++ values l.columns l.row

abbrev pub decreases-loop-column : goal.decreases-loop-column
decreases-loop-column l = length l.left
