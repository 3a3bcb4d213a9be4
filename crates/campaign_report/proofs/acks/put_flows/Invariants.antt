use Rattle.std.proofs.Common.{◌≡◌, ◌≤◌, ◌+◌, ◌++◌, length, map}
use Rattle.ccp_base.specs.Limits.{most_cases}
use Rattle.campaign_report.specs.AcksText.{flows_text}
use Rattle.campaign_report.proofs.acks.put_flows.Given as goal

abbrev pub invariant-loop-acks : goal.invariant-loop-acks
invariant-loop-acks g l =
    (l.text ++ flows_text l.flow l.left_names (map g.L.Label.word l.left_labels) l.left
    ≡ l.initial.text ++ flows_text 0 l.names (map g.L.Label.word l.labels) l.acks)
    × (l.flow + length l.left ≤ most_cases)

abbrev pub decreases-loop-acks : goal.decreases-loop-acks
decreases-loop-acks g l = length l.left
