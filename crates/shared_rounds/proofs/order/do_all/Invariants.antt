use Rattle.std.proofs.Common.{◌≡◌, map}
use Rattle.shared_rounds.specs.Orders.{FlowPart}
use Rattle.shared_rounds.specs.KnownFlows.{FlowRound}
use Rattle.shared_rounds.proofs.order.do_all.Given as goal

abbrev pub invariant-loop-part : goal.invariant-loop-part
invariant-loop-part g l =
    (map {B = FlowPart} (λ part. (part.acks.number, part.acks.acks)) l.parts
    ≡ map {B = FlowPart} (λ part. (part.acks.number, part.acks.acks)) l.fn.parts)
    × (map {B = FlowRound} (λ part. (part.acks.number, part.acks.round)) l.parts
    ≡ map {B = FlowRound} (λ part. (part.acks.number, part.acks.round)) l.fn.parts)
