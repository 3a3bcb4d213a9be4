use Rattle.std.proofs.Common.{◌-◌, map, length}
use Rattle.campaign_gate.proofs.ShareLemmas.{AreMerged}
use Rattle.campaign_gate.proofs.workers.merge.Given as goal

abbrev pub invariant-loop-made : goal.invariant-loop-made
invariant-loop-made g l = AreMerged l.fn.workers.count (map g.M.CaseResult.of_case g.C.Campaign.cases) l.queues l.made

abbrev pub decreases-loop-made : goal.decreases-loop-made
decreases-loop-made g l = length (map g.M.CaseResult.of_case g.C.Campaign.cases) - length l.made
