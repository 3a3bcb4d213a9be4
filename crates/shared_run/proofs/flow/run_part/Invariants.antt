use Rattle.std.proofs.Common.{◌≤◌, length}
use Rattle.flow_core.specs.Readings.{over_codes}
use Rattle.shared_run.specs.RoundLetters.{round_part}
use Rattle.shared_run.specs.RoundFlows.{MayHear}
use Rattle.shared_run.proofs.RoundFlowLemmas.{GoesOn}
use Rattle.shared_run.proofs.flow.run_part.Given as goal

abbrev pub invariant-loop-ack : goal.invariant-loop-ack
invariant-loop-ack g l =
    MayHear g.F.GivenFlow.at l.left l.flow.flow l.flow.tally
    × GoesOn g.F.GivenFlow.at (round_part over_codes l.acks) (round_part over_codes l.left) l.fn.flow.flow l.fn.flow.tally l.flow.flow l.flow.tally
    × (length l.left ≤ length l.acks)

abbrev pub decreases-loop-ack : goal.decreases-loop-ack
decreases-loop-ack g l = length l.left
