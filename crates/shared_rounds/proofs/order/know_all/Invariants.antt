use Rattle.std.proofs.Common.{◌≡◌, length, map}
use Rattle.shared_rounds.specs.KnownFlows.{FlowRound, with_rounds}
use Rattle.shared_rounds.proofs.order.know_all.Given as goal

abbrev pub invariant-loop-part : goal.invariant-loop-part
invariant-loop-part g l =
    with_rounds (map {B = FlowRound} (λ part. (part.acks.number, part.acks.round)) l.rest) l.known
    ≡ with_rounds (map {B = FlowRound} (λ part. (part.acks.number, part.acks.round)) l.parts) l.fn.known

abbrev pub decreases-loop-part : goal.decreases-loop-part
decreases-loop-part g l = length l.rest
