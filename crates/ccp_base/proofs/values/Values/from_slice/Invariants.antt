use Rattle.std.proofs.Common.{◌≡◌, take}
use Rattle.ccp_base.proofs.values.Values.from_slice.Given as goal

abbrev pub invariant-loop-number : goal.invariant-loop-number
invariant-loop-number l = l.values ≡ take l.number-index l.numbers
