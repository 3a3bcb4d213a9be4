use Rattle.std.proofs.Common.{length, ap, ◌∙◌}
use Rattle.flow_core.specs.Cores.{CoreState}
use Rattle.flow_core.specs.Bares.{BareState}
use Rattle.flow_core.proofs.CoreLemmas.{count-is}
use Rattle.flow_core.proofs.cores.Core.acks.Goals as goal

pub returns : goal.returns
returns c =
    c.acks.ensures
    ∙ ap (λ (b : BareState). b.summary.acks) c.bare.ensures
    ∙ count-is c.self.inside.flow c.self.inside.acks c.self.invariant
    ∙ ap (λ (core : CoreState). length core.acks) c.self.view_is
