use Rattle.std.proofs.Common.{◌≡◌, length, map}
use Rattle.shared_rounds.specs.KnownFlows.{FlowRound, with_rounds_back}
use Rattle.shared_rounds.proofs.desk.Desk.take_in_all.Given as goal

abbrev pub invariant-loop-part : goal.invariant-loop-part
invariant-loop-part g l =
    (l.self.link ≡ l.fn.self.link)
    × (with_rounds_back (map {B = FlowRound} (λ part. (part.acks.number, part.acks.round)) l.parts.items) l.self.known
    ≡ with_rounds_back (map {B = FlowRound} (λ part. (part.acks.number, part.acks.round)) l.fn.parts.items) l.fn.self.known)

abbrev pub decreases-loop-part : goal.decreases-loop-part
decreases-loop-part g l = length l.parts.items
