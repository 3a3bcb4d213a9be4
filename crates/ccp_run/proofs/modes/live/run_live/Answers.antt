use Rattle.ccp_run.proofs.LiveLemmas.{live_told}
use Rattle.ccp_run.proofs.modes.live.run_live.Goals as goal

pub returns-clause-tells : goal.returns-clause-tells
returns-clause-tells g c =
    live_told c.args.scene.programs c.requires.numbered c.args.scene.cases c.requires.coded c.args.wire c.books_of-books.result c.books_output.result
    c.books_of-books.ensures c.books_output.ensures.books c.books_output.ensures.text c.books_output.ensures.ran
