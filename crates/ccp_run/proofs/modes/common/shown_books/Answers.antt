use Rattle.std.proofs.Common.{◌∙◌, List, ap, subst, sym}
use Rattle.std.specs.List.{All}
use Rattle.flow_core.specs.declared.book.Book.{Book}
use Rattle.ccp_run.specs.Live.{IsRightBook, books_written}
use Rattle.ccp_run.proofs.modes.common.shown_books.Goals as goal

pub returns-in-Ok-clause-text : goal.returns-in-Ok-clause-text
returns-in-Ok-clause-text c = λ right.
    let programs = c.args.programs in
    let kept = c.with_books.ensures.books in
    c.with_books.ensures.text
    ∙ c.in-Ok.ensures.live (subst (λ (books : List Book). All (IsRightBook programs) books) kept right)
    ∙ ap (λ (books : List Book). books_written c.args.wire programs books) (sym kept)
