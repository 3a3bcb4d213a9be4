-- A flow that keeps what its book needs, after one more letter: it is as after the longer history, and its journal has as
-- many faults and letters as it says.
use Rattle.std.specs.Prelude.{◌≡◌, ℕ, ◌+◌, ◌<◌, Bool, true, is_some, is_none, if◌then◌else◌, Option, Some, None, option_map, List, [], ◌∷◌, ◌++◌, length, map, refl}
use Rattle.std.proofs.Common.{ap, sym, ◌∙◌, subst, arith, length-append, append-nil}
use Rattle.std.proofs.lemmas.Bool.{lt-ltb, le-ltb, true≢false, and_parts}
use Rattle.std.proofs.lemmas.List.{map-append, length-map}
use Rattle.std.proofs.lemmas.Option.{none-some}
use Rattle.ccp_base.specs.declared.ack.Ack.{Ack}
use Rattle.ccp_base.specs.declared.arithmetic.FaultKind.{FaultKind}
use Rattle.ccp_base.specs.declared.exchange.Notice.{Notice}
use Rattle.ccp_base.specs.declared.exchange.Report.{Report}
use Rattle.ccp_base.specs.declared.exchange.Reply.{Reply}
use Rattle.ccp_base.specs.declared.exchange.Reply.TheVariants.{Nothing, Update, Change}
use Rattle.ccp_base.specs.declared.exchange.Told.{Told}
use Rattle.portus_core.specs.declared.env.Env.{Env}
use Rattle.portus_core.specs.Epoch.{Outcome, quiet, reported, held, failed, stopped}
use Rattle.link_model.specs.Rated.{rated}
use Rattle.agent_core.specs.declared.agent.Agent.{Agent}
use Rattle.agent_core.specs.declared.ticket.Ticket.{Ticket}
use Rattle.agent_core.specs.Agents.{replied}
use Rattle.fold_machine.specs.declared.acked.Acked.{Acked}
use Rattle.flow_core.specs.declared.running.Issued.{Issued}
use Rattle.flow_core.specs.declared.book.EpochLine.{EpochLine}
use Rattle.flow_core.specs.declared.book.TicketLine.{TicketLine}
use Rattle.flow_core.specs.declared.case.Case.{Case}
use Rattle.flow_core.specs.declared.journal.Journal.{Journal}
use Rattle.flow_core.specs.declared.letter.Letter.{Letter}
use Rattle.flow_core.specs.declared.letter.Letter.TheVariants.{A, T, C}
use Rattle.flow_core.specs.Readings.{Flow, over_codes}
use Rattle.flow_core.specs.ReadsRates.{case_reads_rates}
use Rattle.flow_core.specs.World.{Failure, Content, Taken, Answered, World, track_of, failures_met, after_ack, takeable, with_taken, after_take, with_reply, notice_of, told_as, with_turn, answer_applied, after_answer}
use Rattle.flow_core.specs.WordLaws.{acks_in, world_over-append}
use Rattle.flow_core.specs.Books.{ticket_line, epoch_line}
use Rattle.flow_core.specs.Cores.{CoreState, flow_in, world_in, with_ack, acked_as}
use Rattle.flow_core.specs.States.{issued_as, some_count}
use Rattle.flow_core.specs.Runnings.{notice_after, next_telling, with_told, can_tell}
use Rattle.flow_core.specs.Summaries.{Summary, running_of, on_running, summary, outcome_at, step_ack, step_take, step_reply, step_turn, step_out, step_answer, may_make}
use Rattle.flow_core.specs.Bares.{BareState, InRange, told_ticket}
use Rattle.flow_core.specs.BookFlows.{BookFlowState, book_flow_at, book_flow_of, grown_by, new_notice, answered_line, begun_line, line_after, book_heard, book_taken, book_answered}
use Rattle.flow_core.specs.Journals.{with_item, with_some, journal_ack, journal_take, journal_answer, journal_line, taken_at, HasSpareRoom, HaveLineRoom, HasLines, book_flow_by, letter_count, IsBookFlow}
use Rattle.flow_core.proofs.BothLemmas.{none-left}
use Rattle.flow_core.proofs.RateLemmas.{outcome-rated, step-rated}
use Rattle.flow_core.proofs.SummaryLemmas.{summary-ack, summary-take, summary-turned}
use Rattle.flow_core.proofs.WordLemmas.{world_over-A}

-- ---- a letter, in each state

module _ (case : Case) where
  abbrev reading : Flow ℕ
  reading = over_codes case

  abbrev epoch_lines : World ℕ → List EpochLine
  epoch_lines w = map epoch_line w.past ++ epoch_line w.present ∷ []

  -- the flow of the state, but with this summary
  abbrev summed_at : World ℕ → List Letter → Summary → BookFlowState
  summed_at w word s = record (book_flow_at case w word) { bare = record { case = case; summary = s } }

  -- ---- A

  faults-met : (program epoch at : ℕ) (ack : Ack) (met : Outcome (FaultKind × ℕ) × Env) (untold : Option Notice) (notices : List Notice)
      → grown_by (new_notice (acked_as met.0) (notice_after reading.number reading.index (failures_met program epoch at ack met) untold)) notices
      ≡ notices ++ map (notice_of reading) (failures_met program epoch at ack met)
  faults-met program epoch at ack (quiet, env) untold notices = sym (append-nil notices)
  faults-met program epoch at ack (reported fields, env) untold notices = sym (append-nil notices)
  faults-met program epoch at ack (held, env) untold notices = sym (append-nil notices)
  faults-met program epoch at ack (failed fault, env) untold notices = refl
  faults-met program epoch at ack (stopped, env) untold notices = sym (append-nil notices)

  state-A : (ack : Ack) (w : World ℕ) (word : List Letter)
      → book_heard ack (book_flow_at case w word) ≡ book_flow_at case (after_ack reading ack w) (word ++ A ∷ [])
  state-A ack w word =
      let met = outcome_at reading ack (summary reading w) in
      let failures = failures_met w.present.program (length w.past) (track_of reading w).count ack met in
      let faults =
      faults-met w.present.program (length w.past) (track_of reading w).count ack met (option_map (notice_of reading) w.untold) (map (notice_of reading) w.faults)
      ∙ sym (map-append (notice_of reading) w.faults failures) in
      λ i. record (summed_at (after_ack reading ack w) (word ++ A ∷ []) (sym (summary-ack reading ack w) i)) { faults = faults i }

  -- ---- T

  -- a taking adds no line
  state-taken : (taken : Option (Content ℕ × (List Report × Option (Failure ℕ)))) (w : World ℕ) (word : List Letter)
      → summed_at w word (summary reading (with_taken taken w)) ≡ book_flow_at case (with_taken taken w) word
  state-taken None w word = refl
  state-taken (Some taken) w word = refl

  state-T : (w : World ℕ) (word : List Letter) → book_taken (book_flow_at case w word) ≡ book_flow_at case (after_take w) (word ++ T ∷ [])
  state-T w word =
      ap (summed_at w (word ++ T ∷ [])) (sym (summary-take reading w)) ∙ state-taken (takeable w.waiting w.untold) w (word ++ T ∷ [])

  -- ---- C

  -- the lines of the epochs, with that of the one that began after the epoch with this number, if one did
  abbrev begun_at : World ℕ → Summary → List EpochLine
  begun_at w s = grown_by (line_after (length w.past) s) (epoch_lines w)

  -- no epoch began
  begun-none : (w : World ℕ) (s : Summary) → s.epoch ≡ length w.past → begun_at w s ≡ epoch_lines w
  begun-none w s same =
      ap (λ (begun : Bool). grown_by (if begun then Some (begun_line s) else None) (epoch_lines w)) (le-ltb (length w.past) s.epoch (omega (arith, same)))

  -- a reply adds the line of the epoch that it begins, if it begins one
  state-reply : (agent : Agent) (reply : Reply) (w : World ℕ) (word : List Letter)
      → record (summed_at w word (summary reading (with_reply reading agent reply w))) { epochs = begun_at w (summary reading (with_reply reading agent reply w)) }
      ≡ book_flow_at case (with_reply reading agent reply w) word
  state-reply agent Nothing w word = λ i. record (book_flow_at case w word) { epochs = begun-none w (summary reading w) refl i }
  state-reply agent (Update cwnd) w word =
      let next = with_reply reading agent (Update cwnd) w in
      λ i. record (book_flow_at case next word) { epochs = begun-none w (summary reading next) refl i }
  state-reply agent (Change program cwnd cap) w word =
      let next = with_reply reading agent (Change program cwnd cap) w in
      let epochs =
      ap (λ (begun : Bool). grown_by (if begun then Some (begun_line (summary reading next)) else None) (epoch_lines w))
      (lt-ltb (length w.past) (length (w.past ++ w.present ∷ [])) (omega (arith, length-append w.past (w.present ∷ []))))
      ∙ ap (λ (lines : List EpochLine). lines ++ begun_line (summary reading next) ∷ []) (sym (map-append epoch_line w.past (w.present ∷ []))) in
      λ i. record (book_flow_at case next word) { epochs = epochs i }

  -- the lines of the tickets, with that of one that is answered now with this reply
  abbrev answered_at : World ℕ → Taken ℕ → Reply → List TicketLine
  answered_at w ticket reply =
      map (ticket_line reading) w.answered
      ++ record { told = told_as reading ticket.told; taken = ticket.taken; answered = length w.acks; reply = reply } ∷ []

  state-turn : (ticket : Taken ℕ) (turn : Agent × Reply) (w : World ℕ) (word : List Letter)
      → record (summed_at w word (summary reading (with_turn reading ticket turn w))) {
        tickets = answered_at w ticket turn.1;
        epochs = begun_at w (summary reading (with_turn reading ticket turn w));
      }
      ≡ book_flow_at case (with_turn reading ticket turn w) word
  state-turn ticket turn w word =
      let line : Answered ℕ = record { told = ticket.told; taken = ticket.taken; answered = length w.acks; reply = turn.1 } in
      let closed : World ℕ = record w { agent = turn.0; out = None; answered = w.answered ++ line ∷ [] } in
      let next = summary reading (with_turn reading ticket turn w) in
      (λ i. record (summed_at w word next) { tickets = sym (map-append (ticket_line reading) w.answered (line ∷ [])) i; epochs = begun_at w next })
      ∙ state-reply w.agent turn.1 closed word

  state-out : (out : Option (Taken ℕ)) (w : World ℕ) (word : List Letter)
      → record (summed_at w word (step_out reading (option_map (issued_as reading) out) (summary reading w))) {
        tickets = grown_by (option_map (answered_line (summary reading w)) (option_map (issued_as reading) out)) (map (ticket_line reading) w.answered);
        epochs = begun_at w (step_out reading (option_map (issued_as reading) out) (summary reading w));
      }
      ≡ book_flow_at case (answer_applied reading out w) word
  state-out None w word = λ i. record (book_flow_at case w word) { epochs = begun-none w (summary reading w) refl i }
  state-out (Some ticket) w word =
      let turn = replied w.agent (told_as reading ticket.told) in
      (λ i. record (summed_at w word (sym (summary-turned reading ticket turn w) i)) {
        tickets = answered_at w ticket turn.1;
        epochs = begun_at w (sym (summary-turned reading ticket turn w) i);
      })
      ∙ state-turn ticket turn w word

  state-C : (w : World ℕ) (word : List Letter) → book_answered (book_flow_at case w word) ≡ book_flow_at case (after_answer reading w) (word ++ C ∷ [])
  state-C w word = state-out w.out w (word ++ C ∷ [])

-- ---- a letter, after a history

module _ (core : CoreState) where
  pub book-A : acks_in core.word ≡ length core.acks → (ack : Ack) → book_heard ack (book_flow_of core) ≡ book_flow_of (with_ack core ack)
  book-A all ack =
      state-A core.case ack (world_in core) core.word
      ∙ ap (λ (w : World ℕ). book_flow_at core.case w (core.word ++ A ∷ [])) (sym (world_over-A (flow_in core) core.acks ack core.word all))

  pub book-T : book_taken (book_flow_of core) ≡ book_flow_of (record core { word = core.word ++ T ∷ [] })
  book-T =
      state-T core.case (world_in core) core.word
      ∙ ap (λ (w : World ℕ). book_flow_at core.case w (core.word ++ T ∷ [])) (sym (world_over-append (flow_in core) core.acks core.word T))

  pub book-C : book_answered (book_flow_of core) ≡ book_flow_of (record core { word = core.word ++ C ∷ [] })
  book-C =
      state-C core.case (world_in core) core.word
      ∙ ap (λ (w : World ℕ). book_flow_at core.case w (core.word ++ C ∷ [])) (sym (world_over-append (flow_in core) core.acks core.word C))

-- without its rates an acknowledgement does the same, if no program of the case reads one
pub book-rated : (s : BookFlowState) (whole : Ack) → book_heard (rated (case_reads_rates s.bare.case) whole) s ≡ book_heard whole s
book-rated s whole =
    let next = step-rated s.bare.case whole s.bare.summary in
    let met = outcome-rated s.bare.case whole s.bare.summary in
    λ i. record s {
      bare = record s.bare { summary = next i };
      word = s.word ++ A ∷ [];
      faults = grown_by (new_notice (acked_as (met i).0) (next i).untold) s.faults;
    }

-- ---- counts of letters and of faults

count-told : (waiting : List Report) (untold : Option Notice) (s : Summary) → s.out ≡ None → is_some (next_telling waiting untold) ≡ true
    → letter_count (on_running (with_told (next_telling waiting untold)) s) ≡ letter_count s + 1
count-told [] None s none some = absurd (true≢false (sym some))
count-told [] (Some notice) s none some = let none = ap some_count none in omega (arith, none)
count-told (report ∷ rest) untold s none some = let none = ap some_count none in omega (arith, none)

-- what can be taken is a report that waits or an untold notice
some-waits : (waiting : List Report) (untold : Option Notice) → is_some (next_telling waiting untold) ≡ true → 0 < length waiting + some_count untold
some-waits [] None some = absurd (true≢false (sym some))
some-waits [] (Some notice) some = omega arith
some-waits (report ∷ rest) untold some = omega arith

-- a taking is no fault
faults-told : (told : Option (Told × (List Report × Option Notice))) (s : Summary) → (on_running (with_told told) s).faults ≡ s.faults
faults-told None s = refl
faults-told (Some told) s = refl

-- a reply makes no letter and no fault, and takes no ticket
record Adds (before now : Summary) : Type 0 where
  letters : letter_count now ≡ letter_count before
  out : now.out ≡ before.out
  faults : now.faults ≡ before.faults

reply-adds : (flow : Flow ℕ) (agent : Agent) (reply : Reply) (s : Summary) → Adds s (step_reply flow agent reply s)
reply-adds flow agent Nothing s = record { letters = refl; out = refl; faults = refl }
reply-adds flow agent (Update cwnd) s = record { letters = refl; out = refl; faults = refl }
reply-adds flow agent (Change program cwnd cap) s = record { letters = refl; out = refl; faults = refl }

-- the ticket that is out is closed by one letter
record Closes (before now : Summary) : Type 0 where
  letters : letter_count now ≡ letter_count before + 1
  out : now.out ≡ None
  faults : now.faults ≡ before.faults

turn-closes : (flow : Flow ℕ) (issued : Issued) (turn : Agent × Reply) (s : Summary) → s.out ≡ Some issued → Closes s (step_turn flow issued turn s)
turn-closes flow issued turn s out =
    let closed : Summary = record s { agent = turn.0; out = None; answered = s.answered + 1; told = (step_turn flow issued (turn.0, Nothing) s).told } in
    let one = ap some_count out in
    let more : letter_count closed ≡ letter_count s + 1 = omega (arith, one) in
    let adds = reply-adds flow s.agent turn.1 closed in
    record { letters = adds.letters ∙ more; out = adds.out; faults = adds.faults }

answer-closes : (case : Case) (s : Summary) (ticket : Ticket) → told_ticket case s ≡ Some ticket → Closes s (step_answer (over_codes case) s)
answer-closes case s ticket is = by s.out refl where
  by : (out : Option Issued) → s.out ≡ out → Closes s (step_out (over_codes case) out s)
  by None none = absurd (none-some ticket (sym (ap (λ (o : Option Issued). told_ticket case (record s { out = o })) none) ∙ is))
  by (Some issued) some = turn-closes (over_codes case) issued (replied s.agent issued.told) s some

-- ---- the journal

-- the line of the answer to the ticket that is out
line-out : (case : Case) (s : Summary) (ticket : Ticket) (out : Option Issued) → told_ticket case (record s { out = out }) ≡ Some ticket
    → option_map (answered_line s) out ≡ Some (journal_line ticket (taken_at (record s { out = out })) s.acks)
line-out case s ticket None none = absurd (none-some ticket none)
line-out case s ticket (Some issued) is = ap (option_map (λ (t : Ticket). journal_line t issued.taken s.acks)) is

-- whatever is out has its room if there is room
lines-any : (out : Option Issued) (j : Journal) → HaveLineRoom j.tickets j.epochs → HasLines out j.tickets j.epochs
lines-any None j room = tt
lines-any (Some issued) j room = room

-- a book flow and its journal
module _ (bare : BareState) (j : Journal) where
  abbrev s : Summary
  s = bare.summary

  -- ---- A

  module _ (ack : Ack) (new : BareState) (next : Journal) (acked : Acked) (fault : Option Notice)
      (step : new ≡ record bare { summary = step_ack (over_codes bare.case) ack bare.summary })
      (is : acked ≡ acked_as (outcome_at (over_codes bare.case) ack bare.summary).0)
      (found : fault ≡ new_notice acked new.summary.untold) (put : next ≡ journal_ack fault j) where
    abbrev met : Outcome (FaultKind × ℕ) × Env
    met = outcome_at (over_codes bare.case) ack s

    abbrev heard : Summary
    heard = step_ack (over_codes bare.case) ack s

    -- the journal, by the definition of the fault
    journal-is : next ≡ journal_ack (new_notice (acked_as met.0) heard.untold) j
    journal-is = put ∙ ap (λ (f : Option Notice). journal_ack f j) (found ∙ (λ i. new_notice (is i) (step i).summary.untold))

    pub put-A : book_flow_by new next ≡ book_heard ack (book_flow_by bare j)
    put-A = λ i. book_flow_by (step i) (journal-is i)

    pub whole-A : (reads_rates : Bool) → IsBookFlow bare reads_rates j → IsBookFlow new reads_rates next
    whole-A reads_rates whole =
        let failures = failures_met s.program s.epoch s.track.count ack met in
        let notices = map (notice_of (over_codes bare.case)) failures in
        let literal : IsBookFlow (record bare { summary = heard }) reads_rates (journal_ack (new_notice (acked_as met.0) heard.untold) j) = record {
          rates = whole.rates;
          faults =
              ap (λ (xs : List Notice). length xs) (faults-met bare.case s.program s.epoch s.track.count ack met s.untold j.faults.items)
              ∙ length-append j.faults.items notices
              ∙ (λ i. whole.faults i + length-map failures (notice_of (over_codes bare.case)) i);
          letters = omega (arith, length-append j.word.items (A ∷ []), whole.letters);
          rooms = record { faults = whole.rooms.faults; word = whole.rooms.word };
          lines = whole.lines;
        } in
        subst (λ (b : BareState). IsBookFlow b reads_rates next) (sym step)
        (subst (IsBookFlow (record bare { summary = heard }) reads_rates) (sym journal-is) literal)

  -- ---- T

  module _ (may : may_make (over_codes bare.case) bare.summary T ≡ true) (room_for : Journal)
      (framed : room_for ≡ record j { tickets = room_for.tickets; epochs = room_for.epochs })
      (same_tickets : room_for.tickets.items ≡ j.tickets.items) (same_epochs : room_for.epochs.items ≡ j.epochs.items) where
    reserved : (reads_rates : Bool) → IsBookFlow bare reads_rates j → HasLines s.out room_for.tickets room_for.epochs
        → IsBookFlow bare reads_rates room_for
    reserved reads_rates whole lines = subst (IsBookFlow bare reads_rates) (sym framed) (record {
      rates = whole.rates;
      faults = whole.faults;
      letters = whole.letters;
      rooms = record { faults = whole.rooms.faults; word = whole.rooms.word };
      lines = lines;
    })

    none-out : s.out ≡ None
    none-out = none-left s.out (can_tell (running_of s)) may

    pub room-T : (reads_rates : Bool) → IsBookFlow bare reads_rates j → InRange bare.case bare.summary → HasSpareRoom room_for.word
    room-T reads_rates whole range =
        let none = ap some_count none-out in
        let waits = some-waits s.waiting s.untold (and_parts (is_none s.out) (can_tell (running_of s)) may).1 in
        let few : length j.word.items < j.word.room = omega (arith, none, waits, whole.letters, whole.rooms.word, range.counts.tickets, range.acks) in
        subst (λ (k : Journal). HasSpareRoom k.word) (sym framed) few

    -- memory ran out
    pub whole-refused : (reads_rates : Bool) → IsBookFlow bare reads_rates j → IsBookFlow bare reads_rates room_for
    whole-refused reads_rates whole =
        reserved reads_rates whole (subst (λ (out : Option Issued). HasLines out room_for.tickets room_for.epochs) (sym none-out) tt)

    pub put-refused : book_flow_by bare room_for ≡ book_flow_by bare j
    put-refused = λ i. record {
      bare = bare;
      word = (framed i).word.items;
      tickets = same_tickets i;
      epochs = same_epochs i;
      faults = (framed i).faults.items;
    }

    module _ (new : BareState) (next : Journal) (step : new ≡ record bare { summary = step_take bare.summary }) (put : next ≡ journal_take room_for) where
      pub put-T : book_flow_by new next ≡ book_taken (book_flow_by bare j)
      put-T = (λ i. book_flow_by (step i) (put i)) ∙ ap book_taken put-refused

      pub whole-T : (reads_rates : Bool) → IsBookFlow bare reads_rates j → HaveLineRoom room_for.tickets room_for.epochs
          → IsBookFlow new reads_rates next
      whole-T reads_rates whole room =
          let before = reserved reads_rates whole (lines-any s.out room_for room) in
          let more = count-told s.waiting s.untold s none-out (and_parts (is_none s.out) (can_tell (running_of s)) may).1 in
          let literal : IsBookFlow (record bare { summary = step_take s }) reads_rates (journal_take room_for) = record {
            rates = before.rates;
            faults = before.faults ∙ sym (faults-told (next_telling s.waiting s.untold) s);
            letters = length-append room_for.word.items (T ∷ []) ∙ ap (λ (n : ℕ). n + 1) before.letters ∙ sym more;
            rooms = record { faults = before.rooms.faults; word = before.rooms.word };
            lines = lines-any (step_take s).out room_for room;
          } in
          subst (λ (b : BareState). IsBookFlow b reads_rates next) (sym step)
          (subst (IsBookFlow (record bare { summary = step_take s }) reads_rates) (sym put) literal)

  -- ---- C

  module _ (ticket : Ticket) (out : told_ticket bare.case bare.summary ≡ Some ticket) (new : BareState) (next : Journal)
      (step : new ≡ record bare { summary = step_answer (over_codes bare.case) bare.summary })
      (put : next ≡ journal_answer (journal_line ticket (taken_at bare.summary) bare.summary.acks) (line_after bare.summary.epoch new.summary) j) where
    abbrev answered : Summary
    answered = step_answer (over_codes bare.case) s

    abbrev line : TicketLine
    line = journal_line ticket (taken_at s) s.acks

    journal-answered : next ≡ journal_answer line (line_after s.epoch answered) j
    journal-answered = put ∙ ap (λ (b : BareState). journal_answer line (line_after s.epoch b.summary) j) step

    pub put-C : book_flow_by new next ≡ book_answered (book_flow_by bare j)
    put-C =
        (λ i. book_flow_by (step i) (journal-answered i))
        ∙ (λ i. record (book_answered (book_flow_by bare j)) {
          tickets = grown_by (sym (line-out bare.case s ticket s.out out) i) j.tickets.items;
        })

    pub whole-C : (reads_rates : Bool) → IsBookFlow bare reads_rates j → IsBookFlow new reads_rates next
    whole-C reads_rates whole =
        let closes = answer-closes bare.case s ticket out in
        let begun = line_after s.epoch answered in
        let literal : IsBookFlow (record bare { summary = answered }) reads_rates (journal_answer line begun j) = record {
          rates = whole.rates;
          faults = whole.faults ∙ sym closes.faults;
          letters = length-append j.word.items (C ∷ []) ∙ ap (λ (n : ℕ). n + 1) whole.letters ∙ sym closes.letters;
          rooms = record { faults = whole.rooms.faults; word = whole.rooms.word };
          lines = subst (λ (o : Option Issued). HasLines o (with_item line j.tickets) (with_some begun j.epochs)) (sym closes.out) tt;
        } in
        subst (λ (b : BareState). IsBookFlow b reads_rates next) (sym step)
        (subst (IsBookFlow (record bare { summary = answered }) reads_rates) (sym journal-answered) literal)
