use Rattle.std.proofs.Common.{◌≡◌, take}
use Rattle.shared_rounds.proofs.flows.collect_asks.Given as goal

abbrev pub invariant-loop-number : goal.invariant-loop-number
invariant-loop-number g l = l.asks.items ≡ take l.number (g.C.Course.asks l.round)
