-- The books of a live run show what their words mean over the sources of the programs.
use Rattle.std.proofs.Common.{◌≡◌, ◌∙◌, ℕ, suc, ◌+◌, Bool, Result, Ok, Err, List, [], ◌∷◌, ◌++◌, map, ap, sym, subst, refl, arith}
use Rattle.std.specs.Prelude.{IfOk}
use Rattle.std.specs.List.{All}
use Rattle.std.proofs.lemmas.Result.{IfOk-at_ok}
use Rattle.std.proofs.lemmas.List.Elements.{All-cons, All-nil}
use Rattle.ccp_base.specs.declared.exchange.Notice.{Notice}
use Rattle.ccp_base.specs.declared.place.Place.{Place}
use Rattle.portus_core.specs.Programs.{Form}
use Rattle.portus_core.specs.Epoch.{Track}
use Rattle.reg_compiler.specs.declared.built.Built.{Built}
use Rattle.reg_compiler.specs.Simulation.{Simulates}
use Rattle.flow_core.specs.declared.book.Book.{Book}
use Rattle.flow_core.specs.declared.book.TicketLine.{TicketLine}
use Rattle.flow_core.specs.declared.case.Case.{Case}
use Rattle.flow_core.specs.Books.{ticket_line, epoch_line, IsBookOf}
use Rattle.flow_core.specs.Lift.{Placing, place_in, map_failure, map_content, map_answered, map_world}
use Rattle.flow_core.specs.LiveText.{source_at}
use Rattle.flow_core.specs.Readings.{Flow, over_codes}
use Rattle.flow_core.specs.Words.{world}
use Rattle.flow_core.specs.World.{Failure, Content, of_report, of_failure, Answered, World, notice_of, told_as, track_of}
use Rattle.flow_core.proofs.LiftLemmas.{link-lift, legal-lift, complete-lift}
use Rattle.scene_core.specs.CasePlans.{AreFlowsFrom}
use Rattle.flow_table.specs.NumberedCases.{AreNumbered}
use Rattle.flow_table.specs.WholeBooks.{IsWholeBook}
use Rattle.agent_loop.specs.LiveBooks.{AreBooksOf}
use Rattle.campaign_gate.proofs.LiftedRowLemmas.{track-lifts}
use Rattle.campaign_report.specs.BookText.{placed_failure, program_places}
use Rattle.campaign_report.specs.BooksRead.{content_of, answered_of, read_flow, read_world, IsBookRead, IsBookReadAs}
use Rattle.scenario_json.specs.Cases.{IsCoded, AreNumberedFrom}
use Rattle.reg_compiler.specs.Sources.{sources_of}
use Rattle.run_ending.specs.declared.outcome.ModeOutput.{ModeOutput}
use Rattle.ccp_run.specs.Live.{IsRightBook, TellsLive, book_cases, books_written}
use Rattle.ccp_run.proofs.CodedLemmas.{simulated}

-- ---- the flow numbers of the cases, as a table of flows requires them

pub flows_numbered : (flow : ℕ) (cases : List Case) → AreFlowsFrom flow cases
    → AreNumbered (λ (case : Case). case.flow) flow cases
flows_numbered flow [] flows = flows
flows_numbered flow (case ∷ rest) flows = (flows.0, flows_numbered (flow + 1) rest flows.1)

-- ---- what a book over codes shows, with the places of instructions

module _ (programs : List (ℕ × Built)) (case : Case) where
  abbrev codes : Flow ℕ
  codes = over_codes case

  abbrev pub place : Placing
  place = place_in case (program_places programs case.ss.role.number) (program_places programs case.ca.role.number)

  faults-placed : (failures : List (Failure ℕ)) → map (placed_failure programs case) (map (notice_of codes) failures) ≡ map (map_failure place) failures
  faults-placed [] = refl
  faults-placed (failure ∷ rest) = ap (λ (fs : List (Failure Place)). map_failure place failure ∷ fs) (faults-placed rest)

  told-placed : (told : Content ℕ) → content_of programs case (told_as codes told) ≡ map_content place told
  told-placed (of_report report) = refl
  told-placed (of_failure failure) = refl

  tickets-placed : (tickets : List (Answered ℕ)) → map (answered_of programs case) (map (ticket_line codes) tickets) ≡ map (map_answered place) tickets
  tickets-placed [] = refl
  tickets-placed (ticket ∷ rest) =
      λ i. record { told = told-placed ticket.told i; taken = ticket.taken; answered = ticket.answered; reply = ticket.reply } ∷ tickets-placed rest i

-- a book of a state over codes shows the state over sources that it stands for
module _ (programs : List (ℕ × Built)) (book : Book) (w : World ℕ) (v : World Place) (is : IsBookOf (over_codes book.case) w book)
    (worlds : map_world (place programs book.case) w ≡ v) (tracks : track_of (over_codes book.case) w ≡ track_of (read_flow programs book) v) where
  pub read_as : IsBookReadAs programs book v
  read_as = record {
    tickets = ap (λ (ts : List TicketLine). map (answered_of programs book.case) ts) is.tickets
        ∙ tickets-placed programs book.case w.answered ∙ ap (λ (s : World Place). s.answered) worlds;
    epochs = is.epochs ∙ ap (λ (s : World Place). map epoch_line (s.past ++ s.present ∷ [])) worlds;
    faults = ap (λ (ns : List Notice). map (placed_failure programs book.case) ns) is.faults
        ∙ faults-placed programs book.case w.faults ∙ ap (λ (s : World Place). s.faults) worlds;
    held = is.held ∙ ap (λ (s : World Place). s.held) worlds;
    first = is.first ∙ ap (λ (t : Track). t.first) tracks;
    registers = is.registers ∙ ap (λ (t : Track). t.env) tracks;
    stopped = is.stopped ∙ ap (λ (t : Track). t.is_stopped) tracks;
  }

module _ (programs : List (ℕ × Built)) (numbered : AreNumberedFrom 0 programs) (book : Book) (whole : IsWholeBook book) (coded : IsCoded programs book.case) where
  abbrev case : Case
  case = book.case

  abbrev ss : Form
  ss = source_at (sources_of programs) case.ss.role.number

  abbrev ca : Form
  ca = source_at (sources_of programs) case.ca.role.number

  abbrev ss_places : List Place
  ss_places = program_places programs case.ss.role.number

  abbrev ca_places : List Place
  ca_places = program_places programs case.ca.role.number

  ss_simulates : Simulates ss case.ss.code.code ss_places
  ss_simulates = simulated programs numbered case.ss.role.number case.ss coded.ss

  ca_simulates : Simulates ca case.ca.code.code ca_places
  ca_simulates = simulated programs numbered case.ca.role.number case.ca coded.ca

  abbrev by_code : World ℕ
  by_code = world (over_codes case) case.link book.word

  worlds : map_world (place programs case) by_code ≡ read_world programs book
  worlds = link-lift case ss ca ss_places ca_places ss_simulates ca_simulates case.link book.word

  tracks : track_of (over_codes case) by_code ≡ track_of (read_flow programs book) (read_world programs book)
  tracks = track-lifts case ss ca ss_places ca_places ss_simulates ca_simulates book.word

  told : IsBookRead programs book
  told = read_as programs book by_code (read_world programs book) whole.told worlds tracks

  right_book : IsRightBook programs book
  right_book = record {
    legal = sym (legal-lift case ss ca ss_places ca_places ss_simulates ca_simulates case.link book.word) ∙ whole.legal;
    complete = sym (complete-lift case ss ca ss_places ca_places ss_simulates ca_simulates case.link book.word) ∙ whole.complete;
    read = told;
  }

-- each book of coded cases shows the meaning of its word
pub right_books : (programs : List (ℕ × Built)) → AreNumberedFrom 0 programs → (books : List Book) → All IsWholeBook books
    → All (IsCoded programs) (book_cases books) → All (IsRightBook programs) books
right_books programs numbered [] whole coded = All-nil (IsRightBook programs)
right_books programs numbered (book ∷ rest) whole coded =
    All-cons (IsRightBook programs) book rest
    (right_book programs numbered book (whole 0 book (omega arith)) (coded 0 book.case (omega arith)))
    (right_books programs numbered rest (λ k d h. whole (suc k) d (omega (arith, h))) (λ k d h. coded (suc k) d (omega (arith, h))))

-- what each book shows, even if its word isn't legal and complete
pub books_read : (programs : List (ℕ × Built)) (books : List Book) → All (IsRightBook programs) books → All (IsBookRead programs) books
books_read programs books told = λ k d h. (told k d h).read

-- the output of the books of coded cases, if there was memory for it
pub live_told : {E : Type 0} (programs : List (ℕ × Built)) → AreNumberedFrom 0 programs → (cases : List Case) → All (IsCoded programs) cases
    → (wire : Bool) (books : Result (List Book) E) (made : Result ModeOutput E) → IfOk books (AreBooksOf cases) → IfOk made (λ o. books ≡ Ok o.books)
    → IfOk made (λ o. All (IsRightBook programs) o.books → o.text ≡ books_written wire programs o.books) → IfOk made (λ o. o.ran ≡ 0)
    → IfOk made (TellsLive wire programs cases)
live_told programs numbered cases coded wire books (Ok output) are kept text ran =
    let is : AreBooksOf cases output.books = IfOk-at_ok (AreBooksOf cases) kept are in
    let right : All (IsRightBook programs) output.books =
    right_books programs numbered output.books is.1 (subst (λ (cs : List Case). All (IsCoded programs) cs) (sym is.0) coded) in
    record { books = is.0; right = right; written = text right; idle = ran }
live_told programs numbered cases coded wire books (Err error) are kept text ran = tt
