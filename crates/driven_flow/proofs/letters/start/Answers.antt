use Rattle.std.proofs.Common.{◌≡◌, None, length, ap, sym, ◌∙◌, subst}
use Rattle.ccp_base.specs.FieldReg.{first_bad_pair}
use Rattle.reg_code.specs.declared.code.Code.{Code}
use Rattle.flow_core.specs.Runnings.{RunningSummary, running_by, step_start, started_env}
use Rattle.driven_flow.specs.Driven.{is_known}
use Rattle.driven_flow.proofs.StepLemmas.{runs-started}
use Rattle.driven_flow.proofs.letters.start.Goals as goal

pub start-requires-clause-good : goal.start-requires-clause-good
start-requires-clause-good c =
    subst (λ (k : Code). first_bad_pair (length k.controls) c.args.values.now ≡ None) (sym c.code_of-code.ensures) c.requires.good

pub returns-clause-present : goal.returns-clause-present
returns-clause-present c = ap (λ (r : RunningSummary). is_known c.args.programs.now r.program) c.start.ensures.step ∙ c.requires.known

pub returns-clause-runs : goal.returns-clause-runs
returns-clause-runs c =
    let started = c.start.ensures in
    runs-started c.args.programs.now c.args.case.now c.code_of-code.result.now.code c.args.program c.args.running.now c.start.new.self c.requires.runs c.code_of-code.ensures
    (ap (λ (r : RunningSummary). r.program) started.step) started.running started.fits started.size

pub returns-clause-step : goal.returns-clause-step
returns-clause-step c =
    let s = c.args.running.now in
    c.start.ensures.step
    ∙ (λ i. step_start c.args.program (started_env (c.code_of-code.ensures i) c.args.values.now s.machine.kept.cwnd s.machine.kept.rate s.time) (running_by s))
