use Rattle.ccp_base.specs.declared.exchange.Told.TheVariants as said
use Rattle.flow_core.proofs.RunningLemmas.{step-opened, is-opened}
use Rattle.flow_core.proofs.running.Running.open.Goals as goal

pub returns-clause-running : goal.returns-clause-running
returns-clause-running c =
    is-opened c.args.code.now.code c.args.program c.args.values.now c.args.cwnd c.args.slots c.in_ok-machine.machine c.opening.result c.in_ok-outbox.outbox
    (said.Report c.no_report.result) c.in_ok-machine.ensures.started c.opening.ensures c.in_ok-outbox.ensures

pub returns-clause-start : goal.returns-clause-start
returns-clause-start c =
    step-opened c.args.code.now.code c.args.program c.args.values.now c.args.cwnd c.args.slots c.in_ok-machine.machine c.opening.result c.in_ok-outbox.outbox
    (said.Report c.no_report.result) c.in_ok-machine.ensures.started c.opening.ensures c.in_ok-outbox.ensures
