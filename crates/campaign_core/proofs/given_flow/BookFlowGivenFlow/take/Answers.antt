use Rattle.flow_core.specs.declared.letter.Letter.TheVariants.{T}
use Rattle.campaign_core.proofs.GivenFlowLemmas.{book-may, book-makes-T}
use Rattle.campaign_core.proofs.given_flow.BookFlowGivenFlow.take.Goals as goal

pub take-requires : goal.take-requires
take-requires c = book-may T c.args.self.now c.requires

pub returns-in-Ok : goal.returns-in-Ok
returns-in-Ok c = book-makes-T c.args.self.now c.take.new.self c.in-Ok.ensures.ok
