-- How many letters a flow's word can have yet.
use Rattle.std.specs.Prelude.{ℕ, ◌+◌, ◌-◌, ◌*◌, length}
use Rattle.flow_core.specs.Readings.{Flow}
use Rattle.flow_core.specs.World.{World}
use Rattle.flow_core.specs.Words.{most_letters}
use Rattle.flow_core.specs.States.{some_count}
use Rattle.flow_core.specs.Cells.{CellState, flow_at, world_at}

-- those of the acknowledgements that are left, and of the tickets that wait or are out
abbrev pub letters_left : {X : Type 0} → Flow X → World X → ℕ
letters_left flow w =
    most_letters (flow.acks - length w.acks) + (2 * (length w.waiting + some_count w.untold) + some_count w.out)

abbrev pub left_at : CellState → ℕ
left_at cell = letters_left (flow_at cell) (world_at cell)
