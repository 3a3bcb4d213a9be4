use Rattle.std.proofs.Common.{◌≡◌, length}
use Rattle.shared_run.proofs.run.make_bells.Given as goal

abbrev pub invariant-loop-worker : goal.invariant-loop-worker
invariant-loop-worker l = length l.bells.items ≡ l._worker
