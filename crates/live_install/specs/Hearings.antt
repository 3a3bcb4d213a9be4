-- What an acknowledgement makes of the flow of a rollout, and what it means for a datapath worker.
use Rattle.std.specs.Prelude.{Bool, true, false, [], ◌∷◌, ◌++◌}
use Rattle.worker_desk.specs.declared.event.Heard.{Heard}
use Rattle.worker_desk.specs.declared.event.Heard.TheVariants.{Quiet, Ended}
use Rattle.open_flow.specs.declared.letter.OpenLetter.TheVariants.{A}
use Rattle.open_flow.specs.OpenCells.{OpenState, is_legal_at}

-- the flow with the next acknowledgement, by whether one is left; else the flow as it was. Its reports and faults wait
-- for no agent
abbrev pub hearing : Bool → OpenState → OpenState × Heard
hearing true cell = (record cell { word = cell.word ++ A ∷ [] }, Quiet)
hearing false cell = (cell, Ended)

abbrev pub hearing_at : OpenState → OpenState × Heard
hearing_at cell = hearing (is_legal_at cell A) cell
