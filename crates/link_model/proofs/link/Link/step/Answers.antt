use Rattle.std.proofs.Common.{arith, ap}
use Rattle.link_model.proofs.link.Link.step.Goals as goal

pub invariant_of-self : goal.invariant_of-self
invariant_of-self c =
    let calls = ap (λ l. l.standing.calls) c.self.view_is in
    let sent = c.self.invariant.1.sent in (
      c.acknowledge.ensures.kept,
      record {
        calls = omega arith;
        sent = omega (arith, sent, c.send.ensures.sent, c.acknowledge.ensures.sent, c.acknowledge.ensures.calls);
        acked = c.acknowledge.ensures.acked;
      },
      c.by-most.ensures.kept,
    )
