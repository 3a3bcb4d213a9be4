use Rattle.std.proofs.Common.{◌≡◌, ◌≤◌, ◌+◌, Ok, length}
use Rattle.ccp_base.specs.Limits.{most_acks}
use Rattle.ccp_base.specs.declared.parts.Separator.TheVariants.{LineFeed}
use Rattle.ccp_base.specs.Parts.{parts_of}
use Rattle.fold_run.specs.Acknowledgements.{with_lines}
use Rattle.fold_run.proofs.single_lines.put_lines_of.Given as goal

abbrev pub invariant-loop-single : goal.invariant-loop-single
invariant-loop-single g l = record {
  going : with_lines l.next (Ok l.acks) (parts_of LineFeed l.left) ≡ with_lines l.number (Ok l.initial.acks) (parts_of LineFeed l.text);
  few : length l.acks ≤ most_acks;
  room : l.next + length l.left ≤ l.number + length l.text;
  shorter : length l.left ≤ length l.text;
}

abbrev pub decreases-loop-single : goal.decreases-loop-single
decreases-loop-single g l = length l.left
