use Rattle.std.proofs.Common.{◌≡◌}
use Rattle.campaign_core.specs.BareLetters.{left_in}
use Rattle.campaign_gate.specs.CaseRuns.{IsOnWay}
use Rattle.campaign_gate.proofs.case_run.CaseRun.complete.Given as goal

abbrev pub invariant-loop-letter : goal.invariant-loop-letter
invariant-loop-letter g l =
    IsOnWay g.F.GivenFlow.at l.self.flow.flow l.self.flow.tally l.self.link
    × ((g.F.GivenFlow.bare_of l.self.flow.flow).case ≡ (g.F.GivenFlow.bare_of l.initial.self.flow.flow).case)

abbrev pub decreases-loop-letter : goal.decreases-loop-letter
decreases-loop-letter g l = left_in (g.F.GivenFlow.bare_of l.self.flow.flow)
