use Rattle.std.proofs.Common.{◌≡◌, ◌≤◌, ◌+◌, ◌*◌, ◌++◌, ◌∷◌, [], drop}
use Rattle.ccp_base.specs.Limits.{primitive_count}
use Rattle.campaign_report.specs.AckLabels.{first_items, item_size, line_size}
use Rattle.campaign_report.proofs.ack_line.write_line.Given as goal

abbrev pub invariant-loop-number : goal.invariant-loop-number
invariant-loop-number l =
    (l.number ≤ primitive_count) × (item_size * l.number ≤ l.start) × (l.start + 1 ≤ line_size)
    × (first_items l.number l.values ++ drop l.start l.line ≡ first_items primitive_count l.values ++ 10 ∷ [])

abbrev pub decreases-loop-number : goal.decreases-loop-number
decreases-loop-number l = l.number
