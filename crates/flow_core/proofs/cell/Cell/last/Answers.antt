use Rattle.std.proofs.Common.{◌-◌, List, length, slice_get, ap, ◌∙◌}
use Rattle.ccp_base.specs.declared.ack.Ack.{Ack}
use Rattle.flow_core.specs.Cells.{CellState, world_at}
use Rattle.flow_core.proofs.CellLemmas.{acks-same}
use Rattle.flow_core.proofs.cell.Cell.last.Goals as goal

pub returns : goal.returns
returns c =
    c.last.ensures
    ∙ ap (λ (acks : List Ack). slice_get acks (length acks - 1)) (acks-same c.self.inside.core c.self.inside.link c.self.invariant)
    ∙ ap (λ (cell : CellState). slice_get (world_at cell).acks (length (world_at cell).acks - 1)) c.self.view_is
