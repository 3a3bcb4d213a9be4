use Rattle.std.proofs.Common.{◌≡◌, ◌∙◌, rules}
use Rattle.live_install.specs.BookText.{books_text}
use Rattle.live_install.proofs.BookLemmas.{books-rollout}
use Rattle.live_install.proofs.text.rollout_text.Goals as goal

pub returns-clause-rollout : goal.returns-clause-rollout
returns-clause-rollout c told =
    let put : c.put_books.new.text ≡ books_text c.args.books.now = search rules in
    put ∙ books-rollout c.args.books.now told
