use Rattle.std.proofs.Common.{ap, sym, ◌∙◌, subst}
use Rattle.fold_machine.specs.MachineState.{MachineState}
use Rattle.flow_core.specs.Runnings.{IsRunning, running_by}
use Rattle.flow_core.proofs.RunningLemmas.{is-updated, step-updated}
use Rattle.flow_core.proofs.running.Running.update.Goals as goal

pub returns-clause-running : goal.returns-clause-running
returns-clause-running c =
    let s = c.args.self.now in
    subst (λ (m : MachineState). IsRunning (record s { machine = m })) (sym c.in-Ok.ensures.updated) (is-updated s c.args.values.now c.requires.running)

pub returns-clause-step : goal.returns-clause-step
returns-clause-step c =
    let s = c.args.self.now in
    ap (λ (m : MachineState). running_by (record s { machine = m })) c.in-Ok.ensures.updated ∙ step-updated s c.args.values.now
