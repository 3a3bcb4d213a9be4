use Rattle.std.proofs.Common.{◌≡◌, None, length, ap, sym, ◌∙◌, subst}
use Rattle.ccp_base.specs.FieldReg.{first_bad_pair}
use Rattle.reg_code.specs.declared.code.Code.{Code}
use Rattle.fold_machine.specs.MachineState.{Fits}
use Rattle.flow_core.specs.Runnings.{RunningSummary}
use Rattle.driven_flow.specs.Driven.{is_known}
use Rattle.driven_flow.proofs.StepLemmas.{runs-updated}
use Rattle.driven_flow.proofs.letters.update.Goals as goal

pub update-requires-clause-fits : goal.update-requires-clause-fits
update-requires-clause-fits c = subst (Fits c.args.running.now.machine) (sym c.code_of-code.ensures) c.requires.runs.fits

pub update-requires-clause-good : goal.update-requires-clause-good
update-requires-clause-good c =
    subst (λ (k : Code). first_bad_pair (length k.controls) c.args.values.now ≡ None) (sym c.code_of-code.ensures) c.requires.good

pub returns-clause-present : goal.returns-clause-present
returns-clause-present c = ap (λ (r : RunningSummary). is_known c.args.programs.now r.program) c.update.ensures.step ∙ c.requires.present

pub returns-clause-runs : goal.returns-clause-runs
returns-clause-runs c =
    let updated = c.update.ensures in
    runs-updated c.args.programs.now c.args.case.now c.code_of-code.result.now.code c.args.running.now c.update.new.self c.requires.runs c.code_of-code.ensures
    (ap (λ (r : RunningSummary). r.program) updated.step) updated.running updated.fits updated.size
