use Rattle.std.proofs.Common.{ℕ, None, sym, ap, ◌∙◌}
use Rattle.circular_buffer.specs.Buffer.{Buffer}
use Rattle.flow_lists.specs.Outbox.{OutboxState}
use Rattle.flow_lists.proofs.OutboxLemmas.{owned-popped, lies-popped}
use Rattle.flow_lists.proofs.outbox.Outbox.pop.Goals as goal

pub returns-in-Some-clause-owned : goal.returns-in-Some-clause-owned
returns-in-Some-clause-owned g c =
    owned-popped (g.P.Slots.pool c.args.slots.now) (g.P.Slots.pool c.take_report.new.slots) c.in-Some.slot None
    c.self.inside.waiting.items c.args.self.now.slots c.pop_front.new.self.items
    (ap (λ (o : OutboxState). o.slots) c.self.view_is)
    (sym c.pop_front.ensures.value ∙ c.in-Some.is)
    (ap (λ (b : Buffer ℕ). b.items) c.pop_front.ensures.items)
    c.take_report.ensures.given c.requires.owned

pub returns-in-Some-clause-lost_first : goal.returns-in-Some-clause-lost_first
returns-in-Some-clause-lost_first g c = λ reports lies.
    lies-popped (g.P.Slots.pool c.args.slots.now) (g.P.Slots.pool c.take_report.new.slots) c.in-Some.slot None
    c.self.inside.waiting.items c.args.self.now.slots c.pop_front.new.self.items
    (ap (λ (o : OutboxState). o.slots) c.self.view_is)
    (sym c.pop_front.ensures.value ∙ c.in-Some.is)
    (ap (λ (b : Buffer ℕ). b.items) c.pop_front.ensures.items)
    reports c.take_report.ensures.given lies
