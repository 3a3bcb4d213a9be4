use Rattle.std.proofs.Common.{◌≡◌, ◌++◌, length}
use Rattle.campaign_report.specs.AcksText.{ack_lines}
use Rattle.campaign_report.proofs.acks.put_acks.Given as goal

abbrev pub invariant-loop-ack : goal.invariant-loop-ack
invariant-loop-ack l = l.text ++ ack_lines l.left ≡ l.initial.text ++ ack_lines l.acks

abbrev pub decreases-loop-ack : goal.decreases-loop-ack
decreases-loop-ack l = length l.left
