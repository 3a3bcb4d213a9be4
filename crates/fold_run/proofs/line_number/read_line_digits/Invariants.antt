use Rattle.std.proofs.Common.{◌≡◌, ◌<◌, ◌^◌, Some}
use Rattle.ccp_base.specs.declared.parts.Separator.TheVariants.{LineFeed}
use Rattle.ccp_base.specs.Numerals.{value_after}
use Rattle.fold_run.specs.FirstPart.{first_of, after_separator}
use Rattle.fold_run.proofs.line_number.read_line_digits.Given as goal

abbrev pub invariant-loop : goal.invariant-loop
invariant-loop l = record {
  number : value_after (Some l.number) (first_of LineFeed l.left) ≡ value_after (Some 0) (first_of LineFeed l.text);
  after : after_separator LineFeed l.left ≡ after_separator LineFeed l.text;
  fits : l.number < 2 ^ 64;
}
