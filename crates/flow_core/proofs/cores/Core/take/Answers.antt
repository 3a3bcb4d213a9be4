use Rattle.std.proofs.Common.{ap, sym, ◌∙◌}
use Rattle.flow_core.specs.declared.letter.Letter.TheVariants.{T}
use Rattle.flow_core.specs.World.{after_take}
use Rattle.flow_core.specs.Words.{is_legal}
use Rattle.flow_core.specs.Cores.{CoreState, flow_in, world_in}
use Rattle.flow_core.proofs.CoreLemmas.{may-is, out-same, world-T, core-T}
use Rattle.flow_core.proofs.cores.Core.take.Goals as goal

pub take-requires : goal.take-requires
take-requires c =
    may-is c.self.inside.flow c.self.inside.acks c.self.invariant T
    (ap (λ (core : CoreState). is_legal (flow_in core) (world_in core) T) c.self.view_is ∙ sym c.may_take.ensures ∙ c.if-not-may_take.false)

pub invariant_of-self-2 : goal.invariant_of-self-2
invariant_of-self-2 c =
    core-T c.self.inside.flow c.self.inside.acks c.self.invariant c.take.new.self c.in_ok-ticket.ensures.ok
    (ap (λ (core : CoreState). is_legal (flow_in core) (world_in core) T) c.self.view_is ∙ sym c.may_take.ensures ∙ c.if-not-may_take.false)

pub returns-clause-world : goal.returns-clause-world
returns-clause-world c =
    world-T c.self.inside.flow c.self.inside.acks c.self.invariant c.take.new.self c.in_ok-ticket.ensures.ok
    ∙ ap (λ (core : CoreState). after_take (world_in core)) c.self.view_is

pub returns-clause-ticket : goal.returns-clause-ticket
returns-clause-ticket c =
    sym (out-same c.take.new.self c.self.inside.acks
    (core-T c.self.inside.flow c.self.inside.acks c.self.invariant c.take.new.self c.in_ok-ticket.ensures.ok
    (ap (λ (core : CoreState). is_legal (flow_in core) (world_in core) T) c.self.view_is ∙ sym c.may_take.ensures ∙ c.if-not-may_take.false)))
    ∙ c.in_ok-ticket.ensures.ticket
