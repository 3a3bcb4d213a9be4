use Rattle.std.proofs.Common.{◌≡◌, ◌<◌, ◌^◌, Some}
use Rattle.ccp_base.specs.declared.parts.Separator.TheVariants.{Blank}
use Rattle.ccp_base.specs.Numerals.{value_after}
use Rattle.fold_run.specs.FirstPart.{first_of, after_separator}
use Rattle.fold_run.proofs.line_number.read_first_digits.Given as goal

abbrev pub invariant-loop : goal.invariant-loop
invariant-loop l = record {
  number : value_after (Some l.number) (first_of Blank l.left) ≡ value_after (Some 0) (first_of Blank l.text);
  after : after_separator Blank l.left ≡ after_separator Blank l.text;
  fits : l.number < 2 ^ 64;
}
