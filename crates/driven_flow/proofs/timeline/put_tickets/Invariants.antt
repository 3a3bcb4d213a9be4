use Rattle.std.proofs.Common.{◌≡◌, ◌≤◌, ◌+◌, ◌++◌, length}
use Rattle.flow_core.specs.LiveText.{sources_of}
use Rattle.driven_flow.specs.DrivenText.{given_lines}
use Rattle.driven_flow.proofs.timeline.put_tickets.Given as goal

abbrev pub invariant-loop-ticket : goal.invariant-loop-ticket
invariant-loop-ticket l =
    (l.text ++ given_lines (sources_of l.programs) l.number l.left l.left_answers
    ≡ l.initial.text ++ given_lines (sources_of l.programs) 0 l.tickets l.answers)
    × (l.number + length l.left ≤ length l.tickets)

abbrev pub decreases-loop-ticket : goal.decreases-loop-ticket
decreases-loop-ticket l = length l.left
