use Rattle.std.proofs.Common.{◌≡◌, ◌++◌, length}
use Rattle.report_lines.specs.ReportLine.{report_lines}
use Rattle.report_lines.proofs.report_line.put_reports.Given as goal

abbrev pub invariant-loop-report : goal.invariant-loop-report
invariant-loop-report l = l.text ++ report_lines l.fields l.left ≡ l.initial.text ++ report_lines l.fields l.reports

abbrev pub decreases-loop-report : goal.decreases-loop-report
decreases-loop-report l = length l.left
