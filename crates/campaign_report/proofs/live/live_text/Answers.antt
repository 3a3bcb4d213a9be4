use Rattle.std.proofs.Common.{rules, ◌≡◌, ◌∙◌}
use Rattle.campaign_report.specs.BookText.{books_text}
use Rattle.campaign_report.proofs.BookLemmas.{books-live}
use Rattle.campaign_report.proofs.live.live_text.Goals as goal

pub returns-clause-live : goal.returns-clause-live
returns-clause-live c = λ told.
    let text : c.put_books.new.text ≡ books_text c.args.programs.now c.args.books.now = search rules in
    text ∙ books-live c.args.programs.now c.args.books.now told
