use Rattle.std.proofs.Common.{rules, ap, ◌∙◌, ◌+◌, ◌<◌, ◌++◌, length, List}
use Rattle.worker_desk.proofs.CasesLemmas.{come-first, come-next, come-stops}
use Rattle.worker_desk.proofs.cases.run_cases.Goals as goal

pub loop-case-init : goal.loop-case-init
loop-case-init g c = record {
  come = come-first c.args.worker c.args.workers.count (g.D.GatedDesk.results c.args.desk.now)
      (g.D.GatedDesk.log c.args.desk.now) (g.D.GatedDesk.made c.args.desk.now) (search rules);
  same = search rules;
}

pub returns-in_err-run_between_points-clause-stops :
    goal.returns-in_err-run_between_points-clause-stops
returns-in_err-run_between_points-clause-stops g c =
    let results = g.D.GatedDesk.results c.args.desk.now in
    let within : c.loop-case.case < length results = search rules in
    let stops = come-stops c.args.worker c.args.workers.count results c.loop-case.case
    (g.D.GatedDesk.log c.args.desk.now) (g.D.GatedDesk.log c.loop-case.desk) (g.D.GatedDesk.log c.run_between_points.new.desk)
    (g.D.GatedDesk.made c.args.desk.now) (g.D.GatedDesk.made c.loop-case.desk)
    within c.loop-case.invariant.come c.in_err-run_between_points.ensures.begun in
    search rules

pub loop-case-preserved : goal.loop-case-preserved
loop-case-preserved g c =
    let results = g.D.GatedDesk.results c.args.desk.now in
    let within : c.loop-case.case < length results = search rules in
    let below : c.loop-case.case < c.case_count-cases.result = search rules in
    record {
      come = come-next c.args.worker c.args.workers.count results c.loop-case.case (c.loop-case.case + c.count-case.result)
          (g.D.GatedDesk.log c.args.desk.now) (g.D.GatedDesk.log c.loop-case.desk) (g.D.GatedDesk.log c.run_between_points.new.desk)
          (g.D.GatedDesk.made c.args.desk.now) (g.D.GatedDesk.made c.loop-case.desk) (g.D.GatedDesk.made c.run_between_points.new.desk)
          (search rules) within (search rules) c.loop-case.invariant.come c.in_ok-run_between_points.ensures.ended
          (c.in_ok-run_between_points.ensures.made
          ∙ ap (λ (all : List _). g.D.GatedDesk.made c.loop-case.desk ++ g.D.GatedDesk.results_of all c.loop-case.case) c.loop-case.invariant.same
          ∙ ap (λ (one : List _). g.D.GatedDesk.made c.loop-case.desk ++ one) (c.case_count-cases.ensures.each c.loop-case.case below));
      same = search rules;
    }
