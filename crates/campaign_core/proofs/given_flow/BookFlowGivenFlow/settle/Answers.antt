use Rattle.campaign_core.proofs.GivenFlowLemmas.{book-makes-C}
use Rattle.campaign_core.proofs.given_flow.BookFlowGivenFlow.settle.Goals as goal

pub returns : goal.returns
returns c = book-makes-C c.args.self.now c.settle.new.self c.settle.ensures
