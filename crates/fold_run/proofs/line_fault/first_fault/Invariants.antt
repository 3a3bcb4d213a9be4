use Rattle.std.proofs.Common.{◌≡◌, ◌≤◌, ◌<◌, ◌+◌, ◌^◌, Ok, length}
use Rattle.ccp_base.specs.Limits.{most_acks}
use Rattle.ccp_base.specs.declared.parts.Separator.TheVariants.{LineFeed}
use Rattle.ccp_base.specs.Parts.{parts_of}
use Rattle.fold_run.specs.LineCount.{counted_lines}
use Rattle.fold_run.proofs.line_fault.first_fault.Given as goal

abbrev pub invariant-loop-rest : goal.invariant-loop-rest
invariant-loop-rest l = record {
  going : counted_lines l.number (Ok l.count) (parts_of LineFeed l.rest) ≡ counted_lines l.fn.next (Ok 0) (parts_of LineFeed l.fn.lines);
  few : l.count ≤ most_acks;
  room : l.number + length l.rest < 2 ^ 64;
}

abbrev pub decreases-loop-rest : goal.decreases-loop-rest
decreases-loop-rest l = length l.rest
