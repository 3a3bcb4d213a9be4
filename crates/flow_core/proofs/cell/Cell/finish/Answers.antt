use Rattle.std.proofs.Common.{◌≡◌, true, ap, sym, ◌∙◌, subst}
use Rattle.std.proofs.lemmas.Bool.{and_parts}
use Rattle.flow_core.specs.World.{World}
use Rattle.flow_core.specs.Words.{is_still, legal, is_complete}
use Rattle.flow_core.specs.Books.{IsBookOf}
use Rattle.flow_core.specs.Cores.{flow_in}
use Rattle.flow_core.specs.Cells.{CellState, flow_at, world_at}
use Rattle.flow_core.proofs.CellLemmas.{cell_of, same, legal-same, lifted}
use Rattle.flow_core.proofs.cell.Cell.finish.Goals as goal

pub finish-requires : goal.finish-requires
finish-requires c =
    let core = c.self.inside.core in
    let here : is_complete (flow_in core) (world_at (cell_of core)) ≡ true =
    ap (λ (cell : CellState). is_complete (flow_at cell) (world_at cell)) c.self.view_is ∙ c.requires in
    ap is_still (same core c.self.inside.link c.self.invariant) ∙ (and_parts _ (is_still (world_at (cell_of core))) here).1

pub returns-clause-legal : goal.returns-clause-legal
returns-clause-legal c =
    sym (ap (λ (cell : CellState). legal (flow_at cell) cell.case.link cell.word) c.self.view_is)
    ∙ sym (legal-same c.self.inside.core c.self.inside.link c.self.invariant)
    ∙ c.finish.ensures.legal

pub returns-clause-book : goal.returns-clause-book
returns-clause-book c =
    let core = c.self.inside.core in
    let book = c.finish.result.book in
    subst (λ (cell : CellState). IsBookOf (flow_at cell) (world_at cell) book) c.self.view_is
    (subst (λ (w : World _). IsBookOf (flow_in core) w book) (same core c.self.inside.link c.self.invariant) c.finish.ensures.book)

pub returns-clause-lifted : goal.returns-clause-lifted
returns-clause-lifted c = lifted c.args.self
