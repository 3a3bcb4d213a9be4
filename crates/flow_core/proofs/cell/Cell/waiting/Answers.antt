use Rattle.std.proofs.Common.{length, ap, ◌∙◌}
use Rattle.flow_core.specs.World.{World}
use Rattle.flow_core.specs.Cells.{CellState, world_at}
use Rattle.flow_core.proofs.CellLemmas.{same}
use Rattle.flow_core.proofs.cell.Cell.waiting.Goals as goal

pub returns : goal.returns
returns c =
    c.waiting.ensures
    ∙ ap (λ (w : World _). length w.waiting) (same c.self.inside.core c.self.inside.link c.self.invariant)
    ∙ ap (λ (cell : CellState). length (world_at cell).waiting) c.self.view_is
