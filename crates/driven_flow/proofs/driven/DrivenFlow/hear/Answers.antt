use Rattle.flow_core.specs.declared.letter.Letter.TheVariants.{A}
use Rattle.driven_flow.proofs.StateLemmas.{world-next, left-next}
use Rattle.driven_flow.proofs.driven.DrivenFlow.hear.Goals as goal

pub returns-clause-world : goal.returns-clause-world
returns-clause-world c =
    world-next c.hear_in_ledger.result c.args.self.now c.hear_in_ledger.new.self A c.hear_in_ledger.ensures.ok

pub returns-clause-fewer : goal.returns-clause-fewer
returns-clause-fewer c =
    left-next c.hear_in_ledger.result c.args.self.now c.hear_in_ledger.new.self A tt c.requires c.hear_in_ledger.ensures.ok
