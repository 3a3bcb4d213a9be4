use Rattle.std.proofs.Common.{◌≡◌, ◌-◌}
use Rattle.worker_desk.proofs.CasesLemmas.{HasCome}
use Rattle.worker_desk.proofs.cases.run_cases.Given as goal

abbrev pub invariant-loop-case : goal.invariant-loop-case
invariant-loop-case g l = record {
  come : HasCome l.worker l.workers.count (g.D.GatedDesk.results l.initial.desk) l.case
      (g.D.GatedDesk.log l.initial.desk) (g.D.GatedDesk.log l.desk)
      (g.D.GatedDesk.made l.initial.desk) (g.D.GatedDesk.made l.desk);
  same : g.D.GatedDesk.results l.desk ≡ g.D.GatedDesk.results l.initial.desk;
}

abbrev pub decreases-loop-case : goal.decreases-loop-case
decreases-loop-case g l = l.cases - l.case
