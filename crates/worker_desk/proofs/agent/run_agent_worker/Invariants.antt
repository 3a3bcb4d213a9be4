use Rattle.std.proofs.Common.{◌≡◌, None}
use Rattle.worker_desk.specs.Logs.{KnownLog}
use Rattle.worker_desk.specs.Attending.{Attends}
use Rattle.worker_desk.proofs.agent.run_agent_worker.Given as goal

abbrev pub invariant-loop-flow : goal.invariant-loop-flow
invariant-loop-flow g l = record {
  free : g.D.LockDesk.held l.desk ≡ None;
  same : g.D.LockDesk.flows l.desk ≡ g.D.LockDesk.flows l.initial.desk;
  rest : (end : KnownLog)
      → Attends l.worker (g.D.LockDesk.flows l.initial.desk) (g.D.LockDesk.log l.desk) end
      → Attends l.worker (g.D.LockDesk.flows l.initial.desk) (g.D.LockDesk.log l.initial.desk) end;
}

abbrev pub decreases-loop-flow : goal.decreases-loop-flow
decreases-loop-flow g l = g.D.LockDesk.coming l.desk
