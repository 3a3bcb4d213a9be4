-- What an agent worker makes of the flow whose lock it holds.
use Rattle.std.specs.Prelude.{◌≡◌, ◌≢◌, Option, Some, None, IfSome}
use Rattle.agent_core.specs.declared.ticket.Ticket.{Ticket}
use Rattle.flow_core.specs.declared.letter.Letter.TheVariants.{T, C}
use Rattle.flow_core.specs.Cells.{CellState, out_at, with_letter}

-- the ticket that was taken is out then; if none is taken, nothing changes
abbrev pub HasTaken : CellState → CellState → Option Ticket → Type 0
HasTaken before after taken =
    (taken ≡ None → after ≡ before)
    × IfSome taken (λ ticket. (after ≡ with_letter T before) × (out_at after ≡ Some ticket))

-- the answer is settled if its ticket is out; else nothing changes
abbrev pub HasSettled : CellState → CellState → Ticket → Type 0
HasSettled before after answer =
    (out_at before ≡ Some answer → after ≡ with_letter C before) × (out_at before ≢ Some answer → after ≡ before)
