use Rattle.std.proofs.Common.{◌≡◌, ◌≤◌, length}
use Rattle.run_audit.specs.ForcedWord.{forced_word, word_after}
use Rattle.run_audit.proofs.forced_word.forced_word.Given as goal

abbrev pub invariant-loop-mark : goal.invariant-loop-mark
invariant-loop-mark l =
    (word_after l.acks l.letters l.at l.left ≡ forced_word l.acks l.marks) × (l.at ≤ l.acks)

abbrev pub decreases-loop-mark : goal.decreases-loop-mark
decreases-loop-mark l = length l.left
