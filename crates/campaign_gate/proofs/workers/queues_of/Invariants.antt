use Rattle.std.proofs.Common.{◌≡◌, ◌+◌, map, drop, length}
use Rattle.campaign_gate.specs.Shares.{shares_from}
use Rattle.campaign_gate.proofs.workers.queues_of.Given as goal

abbrev pub invariant-loop-part : goal.invariant-loop-part
invariant-loop-part g l =
    let all = map g.M.CaseResult.of_case g.C.Campaign.cases in
    (l.queues ≡ shares_from l.fn.workers.count 0 (length l.queues) all)
    × (l.parts ≡ drop (length l.queues) l.fn.parts)
    × (length l.queues + length l.parts ≡ l.fn.workers.count)

abbrev pub decreases-loop-part : goal.decreases-loop-part
decreases-loop-part g l = length l.parts
