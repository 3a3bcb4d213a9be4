use Rattle.std.proofs.Common.{◌≡◌, ◌+◌, ◌≤◌, length}
use Rattle.flow_core.specs.LiveText.{report_count}
use Rattle.live_lines.proofs.tickets.report_count.Given as goal

abbrev pub invariant-loop-ticket : goal.invariant-loop-ticket
invariant-loop-ticket l =
    (l.count + report_count l.left ≡ report_count l.tickets) × (l.count + length l.left ≤ length l.tickets)

abbrev pub decreases-loop-ticket : goal.decreases-loop-ticket
decreases-loop-ticket l = length l.left
