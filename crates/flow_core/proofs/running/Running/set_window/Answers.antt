use Rattle.std.proofs.Common.{ap, sym, ◌∙◌, subst}
use Rattle.agent_core.specs.Agents.{window_pair}
use Rattle.fold_machine.specs.MachineState.{MachineState, Fits}
use Rattle.flow_core.specs.Runnings.{IsRunning, running_by}
use Rattle.flow_core.proofs.RunningLemmas.{is-updated, step-updated}
use Rattle.flow_core.proofs.running.Running.set_window.Goals as goal

pub returns-clause-running : goal.returns-clause-running
returns-clause-running c =
    let s = c.args.self.now in
    subst (λ (m : MachineState). IsRunning (record s { machine = m })) (sym c.set_cwnd.ensures) (is-updated s (window_pair c.args.cwnd) c.requires)

pub returns-clause-fits : goal.returns-clause-fits
returns-clause-fits c = λ code fits.
    subst (λ (m : MachineState). Fits m code) (sym c.set_cwnd.ensures)
    (record { started = fits.started; kept = record { reports = fits.kept.reports; controls = fits.kept.controls } })

pub returns-clause-step : goal.returns-clause-step
returns-clause-step c =
    let s = c.args.self.now in
    ap (λ (m : MachineState). running_by (record s { machine = m })) c.set_cwnd.ensures ∙ step-updated s (window_pair c.args.cwnd)
