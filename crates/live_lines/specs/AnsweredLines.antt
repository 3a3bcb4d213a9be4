-- The line of a ticket, with any text as its reply.
use Rattle.std.specs.Prelude.{ℕ, List, codes, decimal}
use Rattle.ccp_base.specs.Text.{◌⧺◌}
use Rattle.flow_core.specs.declared.book.TicketLine.{TicketLine}
use Rattle.flow_core.specs.LiveText.{Sources, told_text}

-- at how many acknowledgements a ticket was taken and answered, and this reply
abbrev pub answered_text : TicketLine → List ℕ → List ℕ
answered_text ticket reply =
    codes " taken=" ⧺ decimal ticket.taken ⧺ codes " answered=" ⧺ decimal ticket.answered ⧺ codes " reply=" ⧺ reply

-- the line of the ticket with this number, with this reply
abbrev pub answered_line : Sources → ℕ → TicketLine → List ℕ → List ℕ
answered_line sources number ticket reply =
    codes "ticket " ⧺ decimal number ⧺ codes " " ⧺ told_text sources ticket.told (answered_text ticket reply)
