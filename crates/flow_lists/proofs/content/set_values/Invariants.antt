use Rattle.std.proofs.Common.{◌≡◌, take}
use Rattle.flow_lists.proofs.content.set_values.Given as goal

abbrev pub invariant-loop-number : goal.invariant-loop-number
invariant-loop-number l = l.values ≡ take l.number-index l.numbers
