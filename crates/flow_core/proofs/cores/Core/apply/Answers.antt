use Rattle.std.proofs.Common.{ap, ◌∙◌}
use Rattle.flow_core.specs.World.{after_answer}
use Rattle.flow_core.specs.Cores.{CoreState, flow_in, world_in, out_in}
use Rattle.flow_core.proofs.CoreLemmas.{out-same, world-C, core-C}
use Rattle.flow_core.proofs.cores.Core.apply.Goals as goal

pub settle-requires : goal.settle-requires
settle-requires c = out-same c.self.inside.flow c.self.inside.acks c.self.invariant ∙ ap out_in c.self.view_is ∙ c.requires

pub invariant_of-self : goal.invariant_of-self
invariant_of-self c =
    core-C c.self.inside.flow c.self.inside.acks c.self.invariant c.settle.new.self c.settle.ensures c.args.answer.now
    (out-same c.self.inside.flow c.self.inside.acks c.self.invariant ∙ ap out_in c.self.view_is ∙ c.requires)

pub returns-clause-world : goal.returns-clause-world
returns-clause-world c =
    world-C c.self.inside.flow c.self.inside.acks c.self.invariant c.settle.new.self c.settle.ensures
    ∙ ap (λ (core : CoreState). after_answer (flow_in core) (world_in core)) c.self.view_is
