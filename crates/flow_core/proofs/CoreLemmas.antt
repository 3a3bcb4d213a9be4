-- One more letter at the word's end: what holds of a flow and its acknowledgements holds of both after it.
use Rattle.std.specs.Prelude.{◌≡◌, ℕ, ◌+◌, ◌<◌, ◌≤◌, true, ◌&&◌, nat_le, is_some, Option, Some, None, option_map, List, [], ◌∷◌, length, refl}
use Rattle.std.proofs.Common.{ap, sym, ◌∙◌, subst, arith, length-append}
use Rattle.std.proofs.lemmas.Bool.{lt-ltb}
use Rattle.std.proofs.lemmas.List.{map-append}
use Rattle.std.proofs.lemmas.Option.{none-some}
use Rattle.ccp_base.specs.declared.ack.Ack.{Ack}
use Rattle.agent_core.specs.declared.ticket.Ticket.{Ticket}
use Rattle.flow_core.specs.declared.running.Issued.{Issued}
use Rattle.flow_core.specs.declared.book.Book.{Book}
use Rattle.flow_core.specs.declared.case.Case.{Case}
use Rattle.flow_core.specs.declared.letter.Letter.{Letter}
use Rattle.flow_core.specs.declared.letter.Letter.TheVariants.{T, C}
use Rattle.flow_core.specs.Readings.{over_codes}
use Rattle.flow_core.specs.World.{Taken, World, after_ack, after_take, after_answer}
use Rattle.flow_core.specs.Words.{is_legal, legal_over}
use Rattle.flow_core.specs.WordLaws.{acks_in, acks_in-A, acks_in-T, acks_in-C, world_over-append, legal_over-append}
use Rattle.flow_lists.specs.ReservedLists.{ReservedState}
use Rattle.flow_core.specs.Books.{ticket_of, out_ticket, epoch_line, IsBookOf}
use Rattle.flow_core.specs.Cores.{CoreState, flow_in, world_in, out_in}
use Rattle.flow_core.specs.States.{issued_as}
use Rattle.flow_core.specs.Summaries.{Summary, summary, may_make}
use Rattle.flow_core.specs.Bares.{told_ticket}
use Rattle.flow_core.specs.BookFlows.{BookFlowState, book_flow_of, book_heard, book_taken, book_answered, EndsAs}
use Rattle.flow_core.specs.Journals.{with_item, core_by, IsCore}
use Rattle.flow_core.proofs.BookFlowLemmas.{book-A, book-T, book-C}
use Rattle.flow_core.proofs.SummaryLemmas.{summary-legal}
use Rattle.flow_core.proofs.WordLemmas.{acks-of-world_over, world_over-A, legal_over-A}

-- ---- the ticket that is out

module _ (case : Case) (w : World ℕ) where
  ticket-mapped : (out : Option (Taken ℕ))
      → option_map (λ (issued : Issued). record { flow = case.flow; number = length w.answered; before = w.agent; told = issued.told }) (option_map (issued_as (over_codes case)) out)
      ≡ option_map (λ (ticket : Taken ℕ). ticket_of (over_codes case) w ticket.told) out
  ticket-mapped None = refl
  ticket-mapped (Some ticket) = refl

  -- it is that of the state
  pub ticket-same : told_ticket case (summary (over_codes case) w) ≡ out_ticket (over_codes case) w
  ticket-same = ticket-mapped w.out

out-some : (case : Case) (s : Summary) (ticket : Ticket) (out : Option Issued) → told_ticket case (record s { out = out }) ≡ Some ticket
    → is_some out ≡ true
out-some case s ticket None none = absurd (none-some ticket none)
out-some case s ticket (Some issued) some = refl

-- ---- the book

-- the book of a flow after a history is that of its state
pub book-ends : (core : CoreState) (book : Book) → EndsAs (book_flow_of core) book → IsBookOf (flow_in core) (world_in core) book
book-ends core book ends = record {
  tickets = ends.tickets;
  epochs = ends.epochs ∙ sym (map-append epoch_line (world_in core).past ((world_in core).present ∷ []));
  faults = ends.faults;
  held = ends.held;
  first = ends.first;
  registers = ends.registers;
  stopped = ends.stopped;
}

-- ---- before the first letter

pub core-opened : (case : Case) (flow : BookFlowState) (acks : ReservedState Ack) → flow ≡ book_flow_of (record { case = case; acks = []; word = [] })
    → acks.items ≡ [] → case.acks ≤ acks.room → IsCore flow acks
core-opened case flow acks is none room = record {
  after = is ∙ (λ i. book_flow_of (record { case = (sym is i).bare.case; acks = sym none i; word = (sym is i).word }));
  legal = λ i. legal_over (over_codes (is i).bare.case) (none i) (is i).word;
  all = (λ i. acks_in (is i).word) ∙ sym (ap (λ (xs : List Ack). length xs) none);
  room = subst (λ (c : Case). c.acks ≤ acks.room) (sym (ap (λ (f : BookFlowState). f.bare.case) is)) room;
}

module _ (flow : BookFlowState) (acks : ReservedState Ack) (core : IsCore flow acks) where
  abbrev now : CoreState
  now = core_by flow acks.items

  -- ---- what the flow without its history has

  pub acks-given : (world_in (core_by flow acks.items)).acks ≡ acks.items
  acks-given = acks-of-world_over (flow_in now) acks.items flow.word core.all

  pub summary-is : flow.bare.summary ≡ summary (flow_in (core_by flow acks.items)) (world_in (core_by flow acks.items))
  summary-is = ap (λ (f : BookFlowState). f.bare.summary) core.after

  pub count-is : flow.bare.summary.acks ≡ length acks.items
  count-is = ap (λ (s : Summary). s.acks) summary-is ∙ ap (λ (xs : List Ack). length xs) acks-given

  pub may-is : (letter : Letter) → is_legal (flow_in (core_by flow acks.items)) (world_in (core_by flow acks.items)) letter ≡ true
      → may_make (over_codes flow.bare.case) flow.bare.summary letter ≡ true
  may-is letter can =
      ap (λ (s : Summary). may_make (flow_in now) s letter) summary-is ∙ sym (summary-legal (flow_in now) letter (world_in now)) ∙ can

  pub out-same : told_ticket flow.bare.case flow.bare.summary ≡ out_in (core_by flow acks.items)
  out-same = ap (told_ticket flow.bare.case) summary-is ∙ ticket-same flow.bare.case (world_in now)

  pub ends-as : (book : Book) → EndsAs flow book → IsBookOf (flow_in (core_by flow acks.items)) (world_in (core_by flow acks.items)) book
  ends-as book ends = book-ends now book (subst (λ (f : BookFlowState). EndsAs f book) core.after ends)

  -- ---- A

  module _ (ack : Ack) (new : BookFlowState) (next : ReservedState Ack) (heard : new ≡ book_heard ack flow) (put : next ≡ with_item ack acks) where
    grown-A : world_in (core_by (book_heard ack flow) (with_item ack acks).items) ≡ after_ack (flow_in now) ack (world_in now)
    grown-A = world_over-A (flow_in now) acks.items ack flow.word core.all

    pub world-A : world_in (core_by new next.items) ≡ after_ack (flow_in (core_by flow acks.items)) ack (world_in (core_by flow acks.items))
    world-A = (λ i. world_in (core_by (heard i) (put i).items)) ∙ grown-A

    pub core-A : length acks.items < flow.bare.case.acks → IsCore new next
    core-A left =
        let literal : IsCore (book_heard ack flow) (with_item ack acks) = record {
          after = ap (book_heard ack) core.after ∙ book-A now core.all ack;
          legal =
              let old = ap (λ (xs : List Ack). length xs) acks-given in
              legal_over-A (flow_in now) acks.items ack flow.word core.all
              ∙ (λ i. core.legal i && lt-ltb (length (world_in now).acks) flow.bare.case.acks (omega (arith, old, left)) i);
          all = acks_in-A flow.word ∙ ap (λ (n : ℕ). n + 1) core.all ∙ sym (length-append acks.items (ack ∷ []));
          room = core.room;
        } in
        subst (λ (f : BookFlowState). IsCore f next) (sym heard) (subst (IsCore (book_heard ack flow)) (sym put) literal)

  -- ---- T

  module _ (new : BookFlowState) (taken : new ≡ book_taken flow) where
    pub world-T : world_in (core_by new acks.items) ≡ after_take (world_in (core_by flow acks.items))
    world-T = (λ i. world_in (core_by (taken i) acks.items)) ∙ world_over-append (flow_in now) acks.items flow.word T

    pub core-T : is_legal (flow_in (core_by flow acks.items)) (world_in (core_by flow acks.items)) T ≡ true → IsCore new acks
    core-T can =
        let literal : IsCore (book_taken flow) acks = record {
          after = ap book_taken core.after ∙ book-T now;
          legal =
              legal_over-append (flow_in now) acks.items flow.word T (ap (λ (n : ℕ). nat_le n (length acks.items)) (acks_in-T flow.word))
              ∙ (λ i. core.legal i && can i);
          all = acks_in-T flow.word ∙ core.all;
          room = core.room;
        } in
        subst (λ (f : BookFlowState). IsCore f acks) (sym taken) literal

  -- ---- C

  module _ (new : BookFlowState) (answered : new ≡ book_answered flow) where
    pub world-C : world_in (core_by new acks.items) ≡ after_answer (flow_in (core_by flow acks.items)) (world_in (core_by flow acks.items))
    world-C = (λ i. world_in (core_by (answered i) acks.items)) ∙ world_over-append (flow_in now) acks.items flow.word C

    pub core-C : (ticket : Ticket) → told_ticket flow.bare.case flow.bare.summary ≡ Some ticket → IsCore new acks
    core-C ticket out =
        let may = out-some flow.bare.case flow.bare.summary ticket flow.bare.summary.out out in
        let can = summary-legal (flow_in now) C (world_in now) ∙ ap (λ (s : Summary). may_make (flow_in now) s C) (sym summary-is) ∙ may in
        let literal : IsCore (book_answered flow) acks = record {
          after = ap book_answered core.after ∙ book-C now;
          legal =
              legal_over-append (flow_in now) acks.items flow.word C (ap (λ (n : ℕ). nat_le n (length acks.items)) (acks_in-C flow.word))
              ∙ (λ i. core.legal i && can i);
          all = acks_in-C flow.word ∙ core.all;
          room = core.room;
        } in
        subst (λ (f : BookFlowState). IsCore f acks) (sym answered) literal
