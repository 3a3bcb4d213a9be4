use Rattle.std.proofs.Common.{ℕ, None, sym, ap, ◌∙◌}
use Rattle.circular_buffer.specs.Buffer.{Buffer}
use Rattle.flow_lists.specs.Outbox.{OutboxState}
use Rattle.flow_lists.proofs.OutboxLemmas.{lies-popped}
use Rattle.flow_lists.proofs.outbox.Outbox.pop_into.Goals as goal

pub returns-clause-lost_first : goal.returns-clause-lost_first
returns-clause-lost_first g c = λ reports lies.
    lies-popped (g.P.Slots.pool c.args.slots.now) (g.P.Slots.pool c.take_content.new.slots) c.in-Some.slot None
    c.self.inside.waiting.items c.args.self.now.slots c.pop_front.new.self.items
    (ap (λ (o : OutboxState). o.slots) c.self.view_is)
    (sym c.pop_front.ensures.value ∙ c.in-Some.is)
    (ap (λ (b : Buffer ℕ). b.items) c.pop_front.ensures.items)
    reports c.take_content.ensures.given lies
