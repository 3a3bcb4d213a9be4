use Rattle.std.proofs.Common.{◌≡◌, ◌≤◌, ◌+◌, length}
use Rattle.ccp_base.specs.Limits.{most_text_bytes}
use Rattle.portus_lexer.specs.Strays.{stray_from, stray_of}
use Rattle.portus_lexer.proofs.stray.first_stray.Given as goal

abbrev pub invariant-loop-byte : goal.invariant-loop-byte
invariant-loop-byte l = record {
  going : stray_from l.commented l.place l.left ≡ stray_of l.text;
  lines : l.place.line + length l.left ≤ most_text_bytes + 1;
  columns : l.place.column + length l.left ≤ most_text_bytes + 1;
}

abbrev pub decreases-loop-byte : goal.decreases-loop-byte
decreases-loop-byte l = length l.left
