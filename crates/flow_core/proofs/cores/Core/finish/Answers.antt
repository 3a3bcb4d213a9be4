use Rattle.std.proofs.Common.{ap, sym, ◌∙◌, subst}
use Rattle.flow_core.specs.Words.{is_still}
use Rattle.flow_core.specs.Books.{IsBookOf}
use Rattle.flow_core.specs.Cores.{CoreState, flow_in, world_in}
use Rattle.flow_core.specs.Summaries.{is_idle}
use Rattle.flow_core.specs.Journals.{core_by}
use Rattle.flow_core.proofs.CoreLemmas.{summary-is, ends-as}
use Rattle.flow_core.proofs.SummaryLemmas.{summary-still}
use Rattle.flow_core.proofs.cores.Core.finish.Goals as goal

pub finish-book-requires : goal.finish-book-requires
finish-book-requires c =
    let flow = c.self.inside.flow in
    let acks = c.self.inside.acks in
    let core = core_by flow acks.items in
    ap is_idle (summary-is flow acks c.self.invariant)
    ∙ sym (summary-still (flow_in core) (world_in core))
    ∙ ap (λ (core : CoreState). is_still (world_in core)) c.self.view_is
    ∙ c.requires

pub returns-clause-book : goal.returns-clause-book
returns-clause-book c =
    subst (λ (core : CoreState). IsBookOf (flow_in core) (world_in core) c.finish-book.result) c.self.view_is
    (ends-as c.self.inside.flow c.self.inside.acks c.self.invariant c.finish-book.result c.finish-book.ensures)
