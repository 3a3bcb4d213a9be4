use Rattle.std.proofs.Common.{None, ◌≡◌, ℕ, ◌+◌, ◌-◌, ◌<◌, ◌≤◌, ◌++◌, take, drop, slice_index}
use Rattle.worker_desk.specs.Logs.{KnownLog}
use Rattle.worker_desk.specs.Serving.{Serves}
use Rattle.worker_desk.proofs.datapath.round.Given as goal

abbrev pub invariant-loop-place : goal.invariant-loop-place
invariant-loop-place g l = record {
  within : l.kept ≤ l.place;
  free : g.D.LockDesk.held l.desk ≡ None;
  flows : (k : ℕ) → k < l.count → slice_index l.row k < g.D.LockDesk.flows l.desk;
  same : g.D.LockDesk.flows l.desk ≡ g.D.LockDesk.flows l.initial.desk;
  coming : g.D.LockDesk.coming l.desk + l.kept ≤ g.D.LockDesk.coming l.initial.desk;
  rest : (end : KnownLog)
      → Serves l.worker (take (l.count - l.place) (drop l.place l.row) ++ take l.kept l.row) (g.D.LockDesk.log l.desk) end
      → Serves l.worker (take l.count l.initial.row) (g.D.LockDesk.log l.initial.desk) end;
}
