use Rattle.std.proofs.Common.{◌≡◌, ap, ◌∙◌}
use Rattle.flow_core.specs.Cores.{flow_in}
use Rattle.flow_core.specs.Summaries.{summary}
use Rattle.flow_core.specs.Cells.{bare_at}
use Rattle.flow_core.proofs.CellLemmas.{cell_of, same}
use Rattle.flow_core.proofs.cell.Cell.bare.Goals as goal

pub returns : goal.returns
returns c =
    let core = c.self.inside.core in
    let summed = c.bare.ensures.summary ∙ ap (summary (flow_in core)) (same core c.self.inside.link c.self.invariant) in
    let is : c.bare.result.now ≡ bare_at (cell_of core) = λ i. record { case = c.bare.ensures.case i; summary = summed i } in
    is ∙ ap bare_at c.self.view_is
