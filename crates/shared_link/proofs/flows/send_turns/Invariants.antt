use Rattle.std.proofs.Common.{◌≡◌, ℕ, ◌≤◌, List, length}
use Rattle.link_model.specs.Link.{GivenAck}
use Rattle.shared_link.specs.SharedRounds.{Sent}
use Rattle.shared_link.specs.Kept.{IsSending, Follows, AreReady, ArePrepared, TurnsMade}
use Rattle.shared_link.specs.KeptFlows.{AreLacking}
use Rattle.shared_link.proofs.flows.send_turns.Given as goal

abbrev pub invariant-loop-left : goal.invariant-loop-left
invariant-loop-left l =
    AreReady l.case l.sending.rounds l.flows
    × ArePrepared l.case l.sending.now l.asks (length l.flows) l.flows
    × IsSending l.case.trace l.sending
    × (l.sending.rounds ≡ l.fn.sending.rounds)
    × (l.sending.now ≡ l.fn.sending.now)
    × ((sent : List Sent) (givens : ℕ → List GivenAck) → Follows l.case l.fn.flows l.fn.sending sent givens
    → TurnsMade l.case l.asks l.flows l.sending l.left sent givens)
    × (l.count ≤ length l.lacking)
    × AreLacking l.flows (length l.flows) l.lacking 0 0 l.count

abbrev pub decreases-loop-left : goal.decreases-loop-left
decreases-loop-left l = l.left
