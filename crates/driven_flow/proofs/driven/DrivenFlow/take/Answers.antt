use Rattle.flow_core.specs.declared.letter.Letter.TheVariants.{T}
use Rattle.driven_flow.proofs.StateLemmas.{world-next, left-next}
use Rattle.driven_flow.proofs.driven.DrivenFlow.take.Goals as goal

pub returns-clause-world : goal.returns-clause-world
returns-clause-world c =
    world-next c.take_told.result c.args.self.now c.take_told.new.self T c.take_told.ensures.ok

pub returns-clause-fewer : goal.returns-clause-fewer
returns-clause-fewer c =
    left-next c.take_told.result c.args.self.now c.take_told.new.self T tt c.requires c.take_told.ensures.ok
