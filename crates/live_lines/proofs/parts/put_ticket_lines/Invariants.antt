use Rattle.std.proofs.Common.{◌≡◌, ◌++◌, drop}
use Rattle.flow_core.specs.LiveText.{sources_of, ticket_lines}
use Rattle.live_lines.proofs.parts.put_ticket_lines.Given as goal

abbrev pub invariant-loop-number : goal.invariant-loop-number
invariant-loop-number l =
    l.text ++ ticket_lines (sources_of l.programs) l.number (drop l.number l.tickets) ≡ l.initial.text ++ ticket_lines (sources_of l.programs) 0 l.tickets
