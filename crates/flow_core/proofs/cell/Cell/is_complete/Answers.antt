use Rattle.std.proofs.Common.{ap, sym, ◌∙◌}
use Rattle.flow_core.specs.Readings.{over_codes}
use Rattle.flow_core.specs.Summaries.{is_done}
use Rattle.flow_core.specs.Bares.{BareState}
use Rattle.flow_core.specs.Cells.{flow_at, world_at}
use Rattle.flow_core.proofs.SummaryLemmas.{summary-complete}
use Rattle.flow_core.proofs.cell.Cell.is_complete.Goals as goal

pub returns : goal.returns
returns c =
    c.is_done.ensures
    ∙ ap (λ (bare : BareState). is_done (over_codes bare.case) bare.summary) c.bare.ensures
    ∙ sym (summary-complete (flow_at c.args.self.now) (world_at c.args.self.now))
