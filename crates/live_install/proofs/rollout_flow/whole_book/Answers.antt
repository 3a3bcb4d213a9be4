use Rattle.live_install.proofs.WholeLemmas.{whole}
use Rattle.live_install.proofs.rollout_flow.whole_book.Goals as goal

pub returns-clause-whole : goal.returns-clause-whole
returns-clause-whole c =
    whole c.args.cell c.finish.result c.finish.ensures.case c.finish.ensures.word c.requires c.finish.ensures.legal c.finish.ensures.book
