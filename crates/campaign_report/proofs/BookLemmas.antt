-- The text of a book with the state after its word is its flow's part of the live text.
use Rattle.std.specs.Prelude.{◌≡◌, ℕ, suc, ◌+◌, List, [], ◌∷◌, ◌++◌, length, map, codes, decimal, refl}
use Rattle.std.specs.List.{All}
use Rattle.std.proofs.Common.{ap, sym, ◌∙◌, arith}
use Rattle.ccp_base.specs.declared.exchange.Told.{Told}
use Rattle.ccp_base.specs.declared.exchange.Told.TheVariants.{Report, Fault}
use Rattle.ccp_base.specs.declared.place.Place.{Place}
use Rattle.ccp_base.specs.Text.{◌⧺◌}
use Rattle.portus_core.specs.Epoch.{Track}
use Rattle.reg_compiler.specs.declared.built.Built.{Built}
use Rattle.flow_core.specs.declared.book.Book.{Book}
use Rattle.flow_core.specs.declared.book.EpochLine.{EpochLine}
use Rattle.flow_core.specs.declared.book.TicketLine.{TicketLine}
use Rattle.flow_core.specs.declared.case.Case.{Case}
use Rattle.flow_core.specs.Books.{ticket_line, epoch_line}
use Rattle.flow_core.specs.LiveText.{Account, Sources, account_of, account_text, answer_text, end_of, epoch_lines, fault_lines, fields_at, flow_line, last_line, live_text, flow_part, report_count, reports_told, sources_of, ticket_lines, told_text}
use Rattle.flow_core.specs.Readings.{Flow}
use Rattle.flow_core.specs.Words.{acks_in}
use Rattle.flow_core.specs.World.{Era, Answered, World, told_as, track_of}
use Rattle.flow_core.proofs.LinkWordLemmas.{length-world}
use Rattle.campaign_report.specs.BookText.{account_in, book_text, books_text, end_in, last_program}
use Rattle.campaign_report.specs.BooksRead.{answered_of, content_of, flows_of, IsBookRead, IsBookReadAs, read_flow, read_world}

last_program-present : (program : ℕ) (past : List Era) (present : Era) → last_program program (map epoch_line (past ++ present ∷ [])) ≡ present.program
last_program-present program [] present = refl
last_program-present program (era ∷ rest) present = last_program-present era.program rest present

module _ (programs : List (ℕ × Built)) (case : Case) (flow : Flow Place) where
  abbrev texts : Sources
  texts = sources_of programs

  -- a fault's place isn't shown with its ticket
  told-shown : (told : Told) (answer : List ℕ) → told_text texts told answer ≡ told_text texts (told_as flow (content_of programs case told)) answer
  told-shown (Report report) answer = refl
  told-shown (Fault notice) answer = refl

  count-shown : (told : Told) → reports_told told ≡ reports_told (told_as flow (content_of programs case told))
  count-shown (Report report) = refl
  count-shown (Fault notice) = refl

  -- the lines of tickets with their faults' places
  abbrev shown : List TicketLine → List TicketLine
  shown tickets = map (ticket_line flow) (map (answered_of programs case) tickets)

  tickets-shown : (number : ℕ) (tickets : List TicketLine) → ticket_lines texts number tickets ≡ ticket_lines texts number (shown tickets)
  tickets-shown number [] = refl
  tickets-shown number (ticket ∷ rest) =
      λ i. (codes "ticket " ⧺ decimal number ⧺ codes " " ⧺ told-shown ticket.told (answer_text ticket) i) ⧺ tickets-shown (number + 1) rest i

  counts-shown : (tickets : List TicketLine) → report_count tickets ≡ report_count (shown tickets)
  counts-shown [] = refl
  counts-shown (ticket ∷ rest) = λ i. count-shown ticket.told i + counts-shown rest i

  -- an account with these tickets
  abbrev with_tickets : Account → List TicketLine → Account
  with_tickets account tickets = record account { tickets = tickets }

  account-shown : (account : Account) (tickets : List TicketLine)
      → account_text texts case (with_tickets account tickets) ≡ account_text texts case (with_tickets account (shown tickets))
  account-shown account tickets =
      λ i. flow_line case.flow case.name case.agent
      ⧺ epoch_lines 0 account.epochs
      ⧺ fault_lines account.faults
      ⧺ tickets-shown 0 tickets i
      ⧺ last_line (fields_at texts account.program) (counts-shown tickets i) account.held (length account.faults) account.end

-- a book that has a state of its flow, whose word has as many acknowledgements as the state
module _ (programs : List (ℕ × Built)) (book : Book) (w : World Place) (told : IsBookReadAs programs book w) (all : acks_in book.word ≡ length w.acks) where
  abbrev flow : Flow Place
  flow = read_flow programs book

  abbrev track : Track
  track = track_of flow w

  ends : end_in book ≡ end_of (length w.acks) track
  ends =
      λ i. record {
        acks = all i;
        first = told.first i;
        stopped = told.stopped i;
        cwnd = (told.registers i).cwnd;
        rate = (told.registers i).rate;
        fields = (told.registers i).fields;
      }

  -- the book's account, with its tickets as they stand in the book
  abbrev account : Account
  account = record (account_of flow w) { tickets = book.tickets }

  accounts : account_in programs book ≡ account
  accounts =
      let program = ap (λ (es : List EpochLine). last_program 0 es) told.epochs ∙ last_program-present 0 w.past w.present in
      λ i. record {
        epochs = told.epochs i;
        faults = told.faults i;
        tickets = book.tickets;
        held = told.held i;
        program = program i;
        end = ends i;
      }

  -- its text is the flow's part with this state
  pub book-part-as : book_text programs book ≡ flow_part (sources_of programs) book.case w
  book-part-as =
      ap (λ (a : Account). account_text (sources_of programs) book.case a) accounts
      ∙ account-shown programs book.case flow (account_of flow w) book.tickets
      ∙ ap (λ (ts : List (Answered Place)). account_text (sources_of programs) book.case (record (account_of flow w) { tickets = map (ticket_line flow) ts })) told.tickets

book-part : (programs : List (ℕ × Built)) (book : Book) → IsBookRead programs book
    → book_text programs book ≡ flow_part (sources_of programs) book.case (read_world programs book)
book-part programs book told =
    book-part-as programs book (read_world programs book) told (sym (length-world (read_flow programs book) book.case.link book.word))

-- and so are those of books in order
pub books-live : (programs : List (ℕ × Built)) (books : List Book) → All (IsBookRead programs) books
    → books_text programs books ≡ live_text (sources_of programs) (flows_of books)
books-live programs [] told = refl
books-live programs (book ∷ rest) told =
    let flow_part = book-part programs book (told 0 book (omega arith)) in
    let parts = books-live programs rest (λ k d h. told (suc k) d (omega (arith, h))) in
    λ i. flow_part i ⧺ parts i
