use Rattle.std.proofs.Common.{ap, sym, ◌∙◌, subst}
use Rattle.flow_core.specs.declared.running.Running.{Running}
use Rattle.flow_core.specs.Runnings.{IsRunning, running_by}
use Rattle.flow_core.proofs.RunningLemmas.{is-started, step-started}
use Rattle.flow_core.proofs.running.Running.start.Goals as goal

pub returns-clause-running : goal.returns-clause-running
returns-clause-running c =
    subst IsRunning (sym c.begin_epoch.ensures.frame)
    (is-started c.args.self.now c.args.code.now.code c.args.program c.args.values.now c.requires.running c.requires.epoch)

pub returns-clause-size : goal.returns-clause-size
returns-clause-size c = ap (λ (s : Running). s.outbox.size) c.begin_epoch.ensures.frame

pub returns-clause-step : goal.returns-clause-step
returns-clause-step c =
    ap running_by c.begin_epoch.ensures.frame ∙ step-started c.args.self.now c.args.code.now.code c.args.program c.args.values.now
