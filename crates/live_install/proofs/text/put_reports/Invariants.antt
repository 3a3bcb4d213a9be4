use Rattle.std.proofs.Common.{◌≡◌, ◌++◌, length, map}
use Rattle.open_flow.specs.Entries.{installed_of}
use Rattle.live_install.specs.RolloutText.{shown_lines}
use Rattle.live_install.proofs.text.put_reports.Given as goal

abbrev pub invariant-loop-report : goal.invariant-loop-report
invariant-loop-report l =
    l.text ++ shown_lines (map installed_of l.entries) l.left ≡ l.initial.text ++ shown_lines (map installed_of l.entries) l.reports

abbrev pub decreases-loop-report : goal.decreases-loop-report
decreases-loop-report l = length l.left
