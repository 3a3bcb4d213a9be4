use Rattle.std.proofs.Common.{sym, ◌∙◌, subst}
use Rattle.fold_machine.specs.MachineState.{Fits}
use Rattle.flow_core.specs.Cores.{acked_as}
use Rattle.flow_core.specs.Readings.{by_code}
use Rattle.flow_core.specs.Runnings.{running_by, outcome_for}
use Rattle.driven_flow.proofs.StepLemmas.{step-heard, is-heard}
use Rattle.driven_flow.proofs.letters.hear.Goals as goal

pub ack-requires-clause-fits : goal.ack-requires-clause-fits
ack-requires-clause-fits g c = subst (Fits c.args.running.now.machine) (sym c.code_of-code.ensures) c.requires.driven.runs.fits

pub returns-clause-driven : goal.returns-clause-driven
returns-clause-driven g c =
    is-heard c.args.programs.now c.args.case.now c.args.running.now c.requires.driven c.args.ack.now c.code_of-code.result.now.code c.code_of-code.ensures
    c.ack.new.self c.ack.ensures.step c.requires.left c.ack.ensures.running c.ack.ensures.fits c.ack.ensures.size

pub returns-clause-step : goal.returns-clause-step
returns-clause-step g c =
    step-heard c.args.programs.now c.args.case.now c.args.running.now c.requires.driven c.args.ack.now c.code_of-code.result.now.code c.code_of-code.ensures
    c.ack.new.self c.ack.ensures.step

pub returns-clause-acked : goal.returns-clause-acked
returns-clause-acked g c =
    c.ack.ensures.acked
    ∙ (λ i. acked_as (outcome_for (by_code (c.code_of-code.ensures i)) (c.requires.driven.runs.size i) c.args.ack.now (running_by c.args.running.now)).0)
