use Rattle.std.proofs.Common.{◌≡◌, ◌++◌, length}
use Rattle.campaign_report.specs.TableText.{headings}
use Rattle.campaign_report.proofs.table.put_headings.Given as goal

abbrev pub invariant-loop-column : goal.invariant-loop-column
invariant-loop-column l = l.text ++ headings l.left ≡ l.initial.text ++ headings l.columns

abbrev pub decreases-loop-column : goal.decreases-loop-column
decreases-loop-column l = length l.left
