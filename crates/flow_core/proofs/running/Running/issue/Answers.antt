use Rattle.flow_core.specs.Runnings.{reports_in}
use Rattle.flow_core.proofs.RunningLemmas.{tells-some, is-issued, step-issued, fits-framed}
use Rattle.flow_core.proofs.running.Running.issue.Goals as goal

pub pop_content-requires-clause-some : goal.pop_content-requires-clause-some
pop_content-requires-clause-some c =
    let s = c.args.self.now in
    tells-some s.machine.further s.outbox.slots s.outbox.untold c.requires.some

pub returns-clause-running : goal.returns-clause-running
returns-clause-running c =
    let s = c.args.self.now in
    let lies = c.requires.running.lies in
    let reports = reports_in s.machine.further s.outbox.slots in
    let pop = c.pop_content.ensures in
    is-issued s c.pop_content.new.machine c.pop_content.new.outbox c.pop_content.new.content pop.machine
    (pop.told reports lies) (pop.lost_first reports lies) pop.untold
    c.requires.running c.requires.none_out c.requires.some pop.words pop.as_many pop.size

pub returns-clause-fits : goal.returns-clause-fits
returns-clause-fits c = λ code. fits-framed c.args.self.now.machine c.pop_content.new.machine code c.pop_content.ensures.machine

pub returns-clause-step : goal.returns-clause-step
returns-clause-step c =
    let s = c.args.self.now in
    let lies = c.requires.running.lies in
    let reports = reports_in s.machine.further s.outbox.slots in
    let pop = c.pop_content.ensures in
    step-issued s c.pop_content.new.machine c.pop_content.new.outbox c.pop_content.new.content pop.machine
    (pop.told reports lies) (pop.lost_first reports lies) pop.untold
