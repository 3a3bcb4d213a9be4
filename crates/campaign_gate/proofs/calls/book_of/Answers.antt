use Rattle.campaign_gate.proofs.BookLemmas.{flow-idle, campaign-book}
use Rattle.campaign_gate.proofs.calls.book_of.Goals as goal

pub finish-requires : goal.finish-requires
finish-requires c = flow-idle c.args.flow c.requires

pub returns-clause-book : goal.returns-clause-book
returns-clause-book c = campaign-book c.args.flow c.finish.result c.requires c.finish.ensures
