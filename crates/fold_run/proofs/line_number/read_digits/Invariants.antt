use Rattle.std.proofs.Common.{◌≡◌, ◌<◌, ◌^◌, Some, length}
use Rattle.ccp_base.specs.declared.parts.Separator.TheVariants.{Blank}
use Rattle.ccp_base.specs.Numerals.{value_after}
use Rattle.fold_run.specs.FirstPart.{first_of, after_separator}
use Rattle.fold_run.proofs.line_number.read_digits.Given as goal

abbrev pub invariant-loop-byte : goal.invariant-loop-byte
invariant-loop-byte l = record {
  number : value_after (Some l.number) (first_of Blank l.left) ≡ value_after (Some l.before) (first_of Blank l.text);
  after : after_separator Blank l.left ≡ after_separator Blank l.text;
  fits : l.number < 2 ^ 64;
}

abbrev pub decreases-loop-byte : goal.decreases-loop-byte
decreases-loop-byte l = length l.left
