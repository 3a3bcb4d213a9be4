use Rattle.std.proofs.Common.{ap, ◌∙◌}
use Rattle.flow_core.specs.Books.{out_ticket}
use Rattle.flow_core.specs.Cores.{flow_in}
use Rattle.flow_core.specs.Cells.{out_at}
use Rattle.flow_core.proofs.CellLemmas.{same}
use Rattle.flow_core.proofs.cell.Cell.out.Goals as goal

pub returns : goal.returns
returns c =
    c.out.ensures
    ∙ ap (out_ticket (flow_in c.self.inside.core)) (same c.self.inside.core c.self.inside.link c.self.invariant)
    ∙ ap out_at c.self.view_is
