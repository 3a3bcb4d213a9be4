use Rattle.flow_core.specs.declared.letter.Letter.TheVariants.{A}
use Rattle.campaign_core.proofs.GivenFlowLemmas.{book-may, book-makes-A}
use Rattle.campaign_core.proofs.given_flow.BookFlowGivenFlow.hear.Goals as goal

pub hear-requires : goal.hear-requires
hear-requires c = book-may A c.args.self.now c.requires

pub returns-clause-made : goal.returns-clause-made
returns-clause-made c = book-makes-A c.args.self.now c.hear.new.self c.args.ack.now c.hear.ensures.ok

pub returns-clause-unread : goal.returns-clause-unread
returns-clause-unread c = λ whole got. book-makes-A c.args.self.now c.hear.new.self whole (c.hear.ensures.unread whole got)
