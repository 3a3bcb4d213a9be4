use Rattle.std.proofs.Common.{◌≡◌, ◌+◌, length}
use Rattle.shared_rounds.specs.KnownFlows.{AreKnown}
use Rattle.shared_rounds.proofs.flows.know_flows.Given as goal

abbrev pub invariant-loop-flow : goal.invariant-loop-flow
invariant-loop-flow g l =
    AreKnown l.known 0 × (length l.known ≡ l.number) × (l.number + length l.rest ≡ length l.flows)

abbrev pub decreases-loop-flow : goal.decreases-loop-flow
decreases-loop-flow g l = length l.rest
