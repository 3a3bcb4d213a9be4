use Rattle.open_flow.specs.States.{world_of}
use Rattle.open_flow.proofs.RunLemmas.{running-step}
use Rattle.open_flow.proofs.state.State.running_epoch.Goals as goal

pub returns-clause-present : goal.returns-clause-present
returns-clause-present c =
    let s = c.args.self.now in
    running-step s.entries.items s.running (world_of s).present c.requires.keeps.runs
