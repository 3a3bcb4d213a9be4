use Rattle.std.proofs.Common.{◌≡◌, None, List, ℕ, length, ap, sym, ◌∙◌, subst}
use Rattle.ccp_base.specs.FieldReg.{Pair, first_bad_pair}
use Rattle.ccp_base.specs.declared.course.Course.{Course}
use Rattle.reg_code.specs.declared.code.Code.{Code}
use Rattle.fold_machine.specs.MachineState.{Fits}
use Rattle.agent_core.specs.Agents.{opening_change, course_of, values_of}
use Rattle.flow_core.specs.Readings.{code_at}
use Rattle.flow_core.specs.Runnings.{RunningSummary, running_at_start, started_env}
use Rattle.flow_core.proofs.ValueLemmas.{good-values}
use Rattle.flow_core.proofs.bare.open_running.Goals as goal

pub open-requires-clause-good : goal.open-requires-clause-good
open-requires-clause-good c =
    let case = c.args.case.now in
    let good = good-values case case.agent (record { ss_same = case.ss_role; ca_same = case.ca_role }) 0 (opening_change case.agent) in
    let code : code_at case (course_of case.agent).ss.number ≡ c.code.result.now.code =
    ap (λ (course : Course). code_at case course.ss.number) (sym c.course-program.ensures) ∙ sym c.code.ensures in
    let values : values_of case.agent (opening_change case.agent) ≡ c.values-values.result = sym (ap (values_of case.agent) c.begin.ensures) ∙ sym c.values-values.ensures.values in
    subst (λ (k : Code). first_bad_pair (length k.controls) c.values-values.result ≡ None) code
    (subst (λ (vs : List Pair). first_bad_pair (length (code_at case (course_of case.agent).ss.number).controls) vs ≡ None) values good)

pub returns : goal.returns
returns c =
    let case = c.args.case.now in
    let opened = c.in_ok-running.ensures in
    let code = c.code.ensures ∙ ap (λ (course : Course). code_at case course.ss.number) c.course-program.ensures in
    let values = c.values-values.ensures.values ∙ ap (values_of case.agent) c.begin.ensures in
    let program = ap (λ (s : RunningSummary). s.program) opened.start in
    record {
      runs = record {
        running = opened.running;
        fits =
            subst (λ (n : ℕ). Fits c.in_ok-running.running.machine (code_at case n)) (sym program)
            (subst (Fits c.in_ok-running.running.machine) c.code.ensures opened.fits);
        size = opened.size;
      };
      start = opened.start ∙ (λ i. running_at_start (c.course-program.ensures i).ss.number (started_env (code i) (values i) 0 0 0));
    }
