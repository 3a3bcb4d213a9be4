use Rattle.std.proofs.Common.{ap, sym, ◌∙◌}
use Rattle.flow_core.specs.Words.{legal}
use Rattle.flow_core.specs.Cells.{CellState, flow_at}
use Rattle.flow_core.proofs.CellLemmas.{legal-same, lifted}
use Rattle.flow_core.proofs.cell.Cell.case.Goals as goal

pub returns-clause-legal : goal.returns-clause-legal
returns-clause-legal c =
    sym (ap (λ (cell : CellState). legal (flow_at cell) cell.case.link cell.word) c.self.view_is)
    ∙ sym (legal-same c.self.inside.core c.self.inside.link c.self.invariant)
    ∙ c.case.ensures.legal

pub returns-clause-lifted : goal.returns-clause-lifted
returns-clause-lifted c = lifted c.args.self.now
