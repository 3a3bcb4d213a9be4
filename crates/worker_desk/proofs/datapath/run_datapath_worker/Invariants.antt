use Rattle.std.proofs.Common.{◌≡◌, None, ℕ, ◌+◌, ◌<◌, ◌≤◌, take, slice_index}
use Rattle.worker_desk.specs.Logs.{KnownLog}
use Rattle.worker_desk.specs.Serving.{Serves}
use Rattle.worker_desk.proofs.datapath.run_datapath_worker.Given as goal

abbrev pub invariant-loop-count : goal.invariant-loop-count
invariant-loop-count g l = record {
  few : l.count ≤ 64;
  free : g.D.LockDesk.held l.desk ≡ None;
  flows : (k : ℕ) → k < l.count → slice_index l.row k < g.D.LockDesk.flows l.desk;
  rest : (end : KnownLog)
      → Serves l.worker (take l.count l.row) (g.D.LockDesk.log l.desk) end
      → Serves l.worker (take l.initial.count l.initial.row) (g.D.LockDesk.log l.initial.desk) end;
}

abbrev pub decreases-loop-count : goal.decreases-loop-count
decreases-loop-count g l = g.D.LockDesk.coming l.desk + l.count
