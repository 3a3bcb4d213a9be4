use Rattle.std.proofs.Common.{◌≡◌, ◌++◌, length}
use Rattle.campaign_report.specs.BookText.{books_text}
use Rattle.campaign_report.proofs.live.put_books.Given as goal

abbrev pub invariant-loop-book : goal.invariant-loop-book
invariant-loop-book l =
    l.text ++ books_text l.programs l.left ≡ l.initial.text ++ books_text l.programs l.books

abbrev pub decreases-loop-book : goal.decreases-loop-book
decreases-loop-book l = length l.left
