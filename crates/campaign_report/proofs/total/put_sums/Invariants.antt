use Rattle.std.proofs.Common.{◌≡◌, ◌++◌, length}
use Rattle.campaign_report.specs.TableText.{sums}
use Rattle.campaign_report.proofs.total.put_sums.Given as goal

abbrev pub invariant-loop-column : goal.invariant-loop-column
invariant-loop-column l = l.text ++ sums l.left l.rows ≡ l.initial.text ++ sums l.columns l.rows

abbrev pub decreases-loop-column : goal.decreases-loop-column
decreases-loop-column l = length l.left
