use Rattle.std.proofs.Common.{◌≡◌, length}
use Rattle.shared_rounds.specs.Rounds.{none_left}
use Rattle.shared_rounds.proofs.flows.none_left.Given as goal

abbrev pub invariant-loop-ask : goal.invariant-loop-ask
invariant-loop-ask l = none_left l.rest ≡ none_left l.asks

abbrev pub decreases-loop-ask : goal.decreases-loop-ask
decreases-loop-ask l = length l.rest
