use Rattle.std.proofs.Common.{◌≡◌}
use Rattle.driven_flow.specs.Driven.{left_of}
use Rattle.driven_flow.specs.SessionHolds.{MayAnswer, IsOnWay}
use Rattle.driven_flow.proofs.running.run_on.Given as goal

abbrev pub invariant-loop-letter : goal.invariant-loop-letter
invariant-loop-letter l =
    MayAnswer l.flow l.answer × IsOnWay l.answer l.initial.flow l.flow × (l.flow.programs ≡ l.initial.flow.programs)

abbrev pub decreases-loop-letter : goal.decreases-loop-letter
decreases-loop-letter l = left_of l.flow
