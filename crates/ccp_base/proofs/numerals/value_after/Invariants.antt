use Rattle.std.proofs.Common.{◌≡◌, Some, drop}
use Rattle.ccp_base.specs.Numerals.{value_after}
use Rattle.ccp_base.proofs.numerals.value_after.Given as goal

abbrev pub invariant-loop-byte : goal.invariant-loop-byte
invariant-loop-byte l = value_after (Some l.number) (drop l.byte-index l.digits) ≡ value_after (Some 0) l.digits
