-- What an acknowledgement makes of the flow of a live run, and what it means for a datapath worker.
use Rattle.std.specs.Prelude.{Bool, true, false}
use Rattle.fold_machine.specs.declared.acked.Acked.{Acked}
use Rattle.fold_machine.specs.declared.acked.Acked.TheVariants as acked
use Rattle.worker_desk.specs.declared.event.Heard.{Heard}
use Rattle.worker_desk.specs.declared.event.Heard.TheVariants.{Quiet, Reported, Faulted, Ended}
use Rattle.flow_core.specs.declared.letter.Letter.TheVariants as letters
use Rattle.flow_core.specs.Words.{is_legal}
use Rattle.flow_core.specs.Cells.{CellState, flow_at, world_at, acked_at, with_letter}

-- the machine's answer, for a worker: whether something new waits for an agent
abbrev pub heard_as : Acked → Heard
heard_as acked.Quiet = Quiet
heard_as acked.Reported = Reported
heard_as acked.Held = Quiet
heard_as (acked.Faulted kind index) = Faulted
heard_as acked.Stopped = Quiet

-- the flow with the next acknowledgement and what that means, by whether one is left; else the flow as it was
abbrev pub hearing : Bool → CellState → CellState × Heard
hearing true cell = (with_letter letters.A cell, heard_as (acked_at cell))
hearing false cell = (cell, Ended)

abbrev pub hearing_at : CellState → CellState × Heard
hearing_at cell = hearing (is_legal (flow_at cell) (world_at cell) letters.A) cell
