use Rattle.std.proofs.Common.{◌≡◌, ◌++◌, length}
use Rattle.live_install.specs.BookText.{books_text}
use Rattle.live_install.proofs.text.put_books.Given as goal

abbrev pub invariant-loop-book : goal.invariant-loop-book
invariant-loop-book l = l.text ++ books_text l.left ≡ l.initial.text ++ books_text l.books

abbrev pub decreases-loop-book : goal.decreases-loop-book
decreases-loop-book l = length l.left
