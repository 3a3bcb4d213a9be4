use Rattle.std.proofs.Common.{◌∙◌, Ok, ap, sym}
use Rattle.std.proofs.lemmas.Result.{IfOk-weaker}
use Rattle.ccp_run.proofs.modes.common.books_output.Goals as goal

pub returns-in-Ok-clause-books : goal.returns-in-Ok-clause-books
returns-in-Ok-clause-books c =
    IfOk-weaker c.shown_books.result _ _ (λ output same. c.in-Ok.is ∙ ap Ok (sym same)) c.shown_books.ensures.books
