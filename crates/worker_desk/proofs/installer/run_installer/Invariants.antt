use Rattle.std.proofs.Common.{◌≡◌, None}
use Rattle.worker_desk.specs.Serving.{flows_of_worker}
use Rattle.worker_desk.specs.Equipping.{tasks, Equips}
use Rattle.worker_desk.proofs.installer.run_installer.Given as goal

abbrev pub invariant-loop-step : goal.invariant-loop-step
invariant-loop-step g l = record {
  free : g.D.LockDesk.held l.desk ≡ None;
  same : g.D.LockDesk.flows l.desk ≡ g.D.LockDesk.flows l.initial.desk;
  equips : Equips l.worker (tasks (flows_of_worker l.first l.workers l.flows) l.step) (g.D.LockDesk.log l.initial.desk) (g.D.LockDesk.log l.desk);
}
