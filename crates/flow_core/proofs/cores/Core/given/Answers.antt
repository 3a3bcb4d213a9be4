use Rattle.std.proofs.Common.{◌≡◌, subst}
use Rattle.flow_core.specs.Cores.{CoreState, world_in}
use Rattle.flow_core.proofs.CoreLemmas.{acks-given}
use Rattle.flow_core.proofs.cores.Core.given.Goals as goal

pub returns-clause-taken : goal.returns-clause-taken
returns-clause-taken c =
    subst (λ (core : CoreState). (world_in core).acks ≡ core.acks) c.self.view_is
    (acks-given c.self.inside.flow c.self.inside.acks c.self.invariant)
