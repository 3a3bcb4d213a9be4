use Rattle.std.proofs.Common.{◌≡◌, length}
use Rattle.scene_members.proofs.open_case.same_texts.Given as goal

abbrev pub invariant-loop-first : goal.invariant-loop-first
invariant-loop-first l = record {
  apart : l.left ≡ l.right → l.these ≡ l.others;
  same : l.these ≡ l.others → l.left ≡ l.right;
}

abbrev pub decreases-loop-first : goal.decreases-loop-first
decreases-loop-first l = length l.left
