use Rattle.flow_core.specs.Readings.{over_codes}
use Rattle.campaign_core.specs.BareLetters.{left_in}
use Rattle.shared_run.specs.RoundLetters.{after_settling}
use Rattle.shared_run.specs.RoundFlows.{HasHistory}
use Rattle.shared_run.proofs.RoundFlowLemmas.{GoesOn}
use Rattle.shared_run.proofs.flow.settle_all.Given as goal

abbrev pub invariant-loop : goal.invariant-loop
invariant-loop g l =
    HasHistory g.F.GivenFlow.at l.flow.flow l.flow.tally
    × GoesOn g.F.GivenFlow.at (after_settling l.at_end over_codes) (after_settling l.at_end over_codes) l.fn.flow.flow l.fn.flow.tally l.flow.flow l.flow.tally

abbrev pub decreases-loop : goal.decreases-loop
decreases-loop g l = left_in (g.F.GivenFlow.bare_of l.flow.flow)
