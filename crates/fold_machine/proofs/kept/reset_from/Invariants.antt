use Rattle.std.proofs.Common.{◌≡◌, ◌+◌, ◌≤◌, length}
use Rattle.fold_machine.specs.KeptWords.{reset_words}
use Rattle.fold_machine.proofs.kept.reset_from.Given as goal

abbrev pub invariant-loop-start : goal.invariant-loop-start
invariant-loop-start l = record {
  at : l.at + length l.left ≤ length l.words;
  words : reset_words l.left l.at l.words ≡ reset_words l.starts l.first l.initial.words;
}

abbrev pub decreases-loop-start : goal.decreases-loop-start
decreases-loop-start l = length l.left
