use Rattle.std.proofs.Common.{ap, ◌∙◌}
use Rattle.flow_core.specs.Cores.{CoreState, flow_in, world_in}
use Rattle.flow_core.specs.Summaries.{summary}
use Rattle.flow_core.specs.Bares.{BareState}
use Rattle.flow_core.proofs.CoreLemmas.{summary-is}
use Rattle.flow_core.proofs.cores.Core.bare.Goals as goal

pub returns-clause-summary : goal.returns-clause-summary
returns-clause-summary c =
    ap (λ (b : BareState). b.summary) c.bare.ensures
    ∙ summary-is c.self.inside.flow c.self.inside.acks c.self.invariant
    ∙ ap (λ (core : CoreState). summary (flow_in core) (world_in core)) c.self.view_is
