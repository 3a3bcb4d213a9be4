use Rattle.std.proofs.Common.{◌≡◌, ◌++◌, length, map}
use Rattle.campaign_report.specs.TableText.{row_lines}
use Rattle.campaign_report.proofs.table.put_rows.Given as goal

abbrev pub invariant-loop-row : goal.invariant-loop-row
invariant-loop-row g l =
    l.text ++ row_lines l.left l.left_names (map g.L.Label.word l.left_labels)
    ≡ l.initial.text ++ row_lines l.rows l.names (map g.L.Label.word l.labels)

abbrev pub decreases-loop-row : goal.decreases-loop-row
decreases-loop-row g l = length l.left
