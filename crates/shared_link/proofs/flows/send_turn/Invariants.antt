use Rattle.std.proofs.Common.{◌-◌}
use Rattle.shared_link.proofs.LackingLemmas.{TurnSoFar}
use Rattle.shared_link.proofs.flows.send_turn.Given as goal

abbrev pub invariant-loop-place : goal.invariant-loop-place
invariant-loop-place l = TurnSoFar l.case l.asks l.fn.flows l.fn.sending l.fn.lacking l.flows l.sending l.lacking l.kept l.place l.count

abbrev pub decreases-loop-place : goal.decreases-loop-place
decreases-loop-place l = l.count - l.place
