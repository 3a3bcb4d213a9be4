use Rattle.std.proofs.Common.{◌≡◌, length}
use Rattle.shared_rounds.proofs.desk.Desk.give_back_all.Given as goal

abbrev pub invariant-loop-part : goal.invariant-loop-part
invariant-loop-part g l = (l.self.link ≡ l.fn.self.link) × (l.self.known ≡ l.fn.self.known)

abbrev pub decreases-loop-part : goal.decreases-loop-part
decreases-loop-part g l = length l.parts.items
