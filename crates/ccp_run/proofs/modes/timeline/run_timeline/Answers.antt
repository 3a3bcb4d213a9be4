use Rattle.ccp_run.proofs.TimelineLemmas.{timeline_told}
use Rattle.ccp_run.proofs.modes.timeline.run_timeline.Goals as goal

pub returns-clause-tells : goal.returns-clause-tells
returns-clause-tells g c =
    timeline_told c.args.scene.programs c.requires.numbered c.args.scene.cases c.requires.coded c.args.wire c.books-books.ensures.source
    c.books-books.result c.books_output.result c.books-books.ensures.books c.books_output.ensures.books c.books_output.ensures.text c.books_output.ensures.ran
