use Rattle.std.proofs.Common.{None, sym, ◌+◌, subst}
use Rattle.flow_core.specs.Runnings.{IsRunning}
use Rattle.flow_core.proofs.RunningLemmas.{is-closed}
use Rattle.flow_core.proofs.running.Running.close.Goals as goal

pub returns-clause-running : goal.returns-clause-running
returns-clause-running c =
    let s = c.args.self.now in
    subst IsRunning (sym (λ i. record s { taken = None; answered = s.answered + 1; told = s.told + c.reports_told.ensures.told i }))
    (is-closed s c.requires.running c.requires.out)

pub returns-clause-frame : goal.returns-clause-frame
returns-clause-frame c =
    let s = c.args.self.now in
    λ i. record s { taken = None; answered = s.answered + 1; told = s.told + c.reports_told.ensures.told i }
