use Rattle.std.proofs.Common.{◌≡◌, None, List, ℕ, length, ap, sym, ◌∙◌, subst}
use Rattle.ccp_base.specs.FieldReg.{Pair, first_bad_pair}
use Rattle.reg_code.specs.declared.code.Code.{Code}
use Rattle.fold_machine.specs.MachineState.{Fits}
use Rattle.flow_core.specs.Readings.{code_at}
use Rattle.flow_core.specs.Runnings.{RunningSummary, running_by, step_start, started_env}
use Rattle.flow_core.proofs.bare.start_program.Goals as goal

pub start-requires-clause-good : goal.start-requires-clause-good
start-requires-clause-good c =
    let case = c.args.case.now in
    subst (λ (k : Code). first_bad_pair (length k.controls) c.values-values.result ≡ None) (sym c.code.ensures)
    (subst (λ (vs : List Pair). first_bad_pair (length (code_at case c.args.program).controls) vs ≡ None) (sym c.values-values.ensures.values) c.requires.good)

pub returns-clause-runs : goal.returns-clause-runs
returns-clause-runs c =
    let case = c.args.case.now in
    let started = c.start.ensures in
    record {
      running = started.running;
      fits =
          subst (λ (n : ℕ). Fits c.start.new.self.machine (code_at case n)) (sym (ap (λ (s : RunningSummary). s.program) started.step))
          (subst (Fits c.start.new.self.machine) c.code.ensures started.fits);
      size = started.size ∙ c.requires.runs.size;
    }

pub returns-clause-step : goal.returns-clause-step
returns-clause-step c =
    let s = c.args.running.now in
    c.start.ensures.step
    ∙ (λ i. step_start c.args.program (started_env (c.code.ensures i) (c.values-values.ensures.values i) s.machine.kept.cwnd s.machine.kept.rate s.time) (running_by s))
