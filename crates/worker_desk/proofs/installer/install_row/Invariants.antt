use Rattle.std.proofs.Common.{◌≡◌, None, take}
use Rattle.worker_desk.specs.Equipping.{tasks_at, Equips}
use Rattle.worker_desk.proofs.installer.install_row.Given as goal

abbrev pub invariant-loop-place : goal.invariant-loop-place
invariant-loop-place g l = record {
  free : g.D.LockDesk.held l.desk ≡ None;
  same : g.D.LockDesk.flows l.desk ≡ g.D.LockDesk.flows l.initial.desk;
  equips : Equips l.worker (tasks_at l.step (take l.place l.row)) (g.D.LockDesk.log l.initial.desk) (g.D.LockDesk.log l.desk);
}
