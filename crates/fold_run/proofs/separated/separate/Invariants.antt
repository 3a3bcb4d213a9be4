use Rattle.std.proofs.Common.{◌≡◌, ◌≤◌, ◌+◌, length}
use Rattle.std.specs.List.{position_or_len}
use Rattle.ccp_base.specs.declared.parts.Separator.TheVariants.{LineFeed}
use Rattle.ccp_base.specs.Parts.{parts_of}
use Rattle.fold_run.specs.Separated.{is_separator, after_lines}
use Rattle.fold_run.proofs.separated.separate.Given as goal

-- no line before the rest is a separator
abbrev pub invariant-loop-left : goal.invariant-loop-left
invariant-loop-left l = record {
  left : l.left ≡ after_lines l.before l.text;
  first : l.before + position_or_len is_separator (parts_of LineFeed l.left) ≡ position_or_len is_separator (parts_of LineFeed l.text);
  lines : l.before + length (parts_of LineFeed l.left) ≡ length (parts_of LineFeed l.text);
  room : l.before + length l.left ≤ length l.text;
}

abbrev pub decreases-loop-left : goal.decreases-loop-left
decreases-loop-left l = length l.left
