use Rattle.std.proofs.Common.{◌≡◌, ◌≤◌, ◌+◌, length}
use Rattle.flow_core.specs.Words.{acks_in}
use Rattle.campaign_report.proofs.live.acks_in.Given as goal

abbrev pub invariant-loop-letter : goal.invariant-loop-letter
invariant-loop-letter l =
    (l.count + acks_in l.left ≡ acks_in l.word) × (l.count + length l.left ≤ length l.word)

abbrev pub decreases-loop-letter : goal.decreases-loop-letter
decreases-loop-letter l = length l.left
