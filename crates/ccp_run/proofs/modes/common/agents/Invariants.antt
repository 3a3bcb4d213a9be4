use Rattle.std.proofs.Common.{◌≡◌, ◌++◌, length}
use Rattle.ccp_run.specs.Campaign.{case_agents}
use Rattle.ccp_run.proofs.modes.common.agents.Given as goal

abbrev pub invariant-loop-case : goal.invariant-loop-case
invariant-loop-case l = l.agents ++ case_agents l.left ≡ case_agents l.cases

abbrev pub decreases-loop-case : goal.decreases-loop-case
decreases-loop-case l = length l.left
