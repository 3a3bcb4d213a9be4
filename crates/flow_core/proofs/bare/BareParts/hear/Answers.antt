use Rattle.std.proofs.Common.{◌+◌, sym, ◌∙◌, subst}
use Rattle.fold_machine.specs.MachineState.{Fits}
use Rattle.flow_core.specs.Cores.{acked_as}
use Rattle.flow_core.specs.Readings.{by_code}
use Rattle.flow_core.specs.Runnings.{running_by, outcome_for, instructions_for}
use Rattle.flow_core.proofs.BareLemmas.{step-heard, is-heard}
use Rattle.flow_core.proofs.bare.BareParts.hear.Goals as goal

pub ack-requires-clause-fits : goal.ack-requires-clause-fits
ack-requires-clause-fits g c = subst (Fits c.args.self.now.running.machine) (sym c.code.ensures) c.requires.parts.runs.fits

pub returns-clause-parts : goal.returns-clause-parts
returns-clause-parts g c =
    is-heard c.args.self.now c.requires.parts c.args.ack.now c.code.result.now.code c.code.ensures c.ack.new.self c.ack.ensures.step
    c.requires.left c.ack.ensures.running c.ack.ensures.fits c.ack.ensures.size

pub returns-clause-step : goal.returns-clause-step
returns-clause-step g c =
    step-heard c.args.self.now c.requires.parts c.args.ack.now c.code.result.now.code c.code.ensures c.ack.new.self c.ack.ensures.step

pub returns-clause-acked : goal.returns-clause-acked
returns-clause-acked g c =
    let s = c.args.self.now in
    c.ack.ensures.acked
    ∙ (λ i. acked_as (outcome_for (by_code (c.code.ensures i)) (c.requires.parts.runs.size i) c.args.ack.now (running_by s.running)).0)

pub returns-clause-steps : goal.returns-clause-steps
returns-clause-steps g c =
    let s = c.args.self.now in
    c.ack.ensures.steps
    ∙ (λ i. c.args.steps.now + instructions_for (c.code.ensures i) (c.requires.parts.runs.size i) c.args.ack.now (running_by s.running))
