use Rattle.std.proofs.Common.{◌≡◌, length}
use Rattle.shared_rounds.proofs.worker_handle.start_workers.Given as goal

abbrev pub invariant-loop-worker : goal.invariant-loop-worker
invariant-loop-worker g l = length l.handles.items ≡ l.worker
