use Rattle.std.proofs.Common.{◌≡◌, ◌≤◌, ◌<◌, ◌+◌, ◌^◌, Ok, length}
use Rattle.ccp_base.specs.Limits.{most_acks}
use Rattle.ccp_base.specs.declared.parts.Separator.TheVariants.{LineFeed}
use Rattle.ccp_base.specs.Parts.{parts_of}
use Rattle.fold_run.specs.Acknowledgements.{with_lines, acks_of_lines}
use Rattle.fold_run.proofs.acks.kept_acks.Given as goal

abbrev pub invariant-loop-rest : goal.invariant-loop-rest
invariant-loop-rest l = record {
  going : with_lines l.number (Ok l.acks) (parts_of LineFeed l.rest) ≡ acks_of_lines l.fn.next (parts_of LineFeed l.fn.lines);
  few : length l.acks ≤ most_acks;
  room : l.number + length l.rest < 2 ^ 64;
}

abbrev pub decreases-loop-rest : goal.decreases-loop-rest
decreases-loop-rest l = length l.rest
