use Rattle.std.proofs.Common.{◌≡◌, ◌≤◌, ◌+◌, ◌*◌, ◌^◌, length}
use Rattle.campaign_report.specs.TableText.{column_sum}
use Rattle.campaign_report.proofs.total.sum.Given as goal

abbrev pub invariant-loop-row : goal.invariant-loop-row
invariant-loop-row l =
    (l.total + column_sum l.column l.left ≡ column_sum l.column l.rows)
    × (l.total + length l.left * 2 ^ 64 ≤ length l.rows * 2 ^ 64)

abbrev pub decreases-loop-row : goal.decreases-loop-row
decreases-loop-row l = length l.left
