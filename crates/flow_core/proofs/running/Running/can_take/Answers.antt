use Rattle.flow_core.proofs.RunningLemmas.{can-tell}
use Rattle.flow_core.proofs.running.Running.can_take.Goals as goal

pub returns : goal.returns
returns c =
    let s = c.args.self.now in
    can-tell s.machine.further s.outbox.slots s.outbox.untold c.is_empty.result c.is_empty.ensures
