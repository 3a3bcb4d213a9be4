-- The marks of a flow's tickets are those along its word.
use Rattle.std.proofs.Common.{◌≡◌, ℕ, ◌+◌, ◌<◌, ◌≤◌, true, not, nat_lt, is_none, is_some, Option, Some, None, List, [], ◌∷◌, ◌++◌, length, map, refl, ap, sym, subst, ◌∙◌, arith, append_assoc, append-nil, length-append}
use Rattle.std.proofs.lemmas.Bool.{and_parts, ltb-true, ltb-false, not-true}
use Rattle.std.proofs.option.Match.{None-if_not_some}
use Rattle.link_model.specs.declared.link_case.LinkCase.{LinkCase}
use Rattle.ccp_base.specs.declared.exchange.Reply.{Reply}
use Rattle.ccp_base.specs.declared.exchange.Reply.TheVariants.{Nothing, Update, Change}
use Rattle.ccp_base.specs.declared.exchange.Report.{Report}
use Rattle.agent_core.specs.declared.agent.Agent.{Agent}
use Rattle.agent_core.specs.Agents.{replied}
use Rattle.flow_core.specs.declared.letter.Letter.{Letter}
use Rattle.flow_core.specs.declared.letter.Letter.TheVariants.{A, T, C}
use Rattle.flow_core.specs.Readings.{Flow}
use Rattle.flow_core.specs.World.{World, Content, Failure, Taken, Answered, takeable, with_reply, with_taken, answer_applied, after_answer, opening, told_as}
use Rattle.flow_core.specs.Words.{from_link, after_letter, world_from, world, legal_from, legal, is_legal, can_take, is_complete, is_still}
use Rattle.flow_core.specs.Books.{ticket_line}
use Rattle.run_audit.specs.declared.mark.Mark.{Mark}
use Rattle.flow_core.specs.declared.book.TicketLine.{TicketLine}
use Rattle.run_audit.specs.ForcedWord.{forced_word}
use Rattle.run_audit.specs.Marks.{marks_at, ticket_marks}
use Rattle.run_audit.proofs.ForcedLemmas.{acks_in, marks_along, forced, AreWithin, along-within}

none_out : {Y : Type 0} (o : Option Y) → is_none o ≡ true → o ≡ None
none_out o is = None-if_not_some o (not-true (is_some o) is)

module _ {X : Type 0} (flow : Flow X) (link : LinkCase) where
  -- the marks of answered tickets, then that of the one that is out
  abbrev answered_marks : List (Answered X) → List Mark
  answered_marks tickets = ticket_marks (map (ticket_line flow) tickets)

  abbrev out_marks : Option (Taken X) → List Mark
  out_marks None = []
  out_marks (Some ticket) = record { at = ticket.taken; letter = T } ∷ []

  abbrev world_marks : World X → List Mark
  world_marks w = answered_marks w.answered ++ out_marks w.out

  answered-more : (tickets more : List (Answered X)) → answered_marks (tickets ++ more) ≡ answered_marks tickets ++ answered_marks more
  answered-more [] more = refl
  answered-more (ticket ∷ rest) more = ap (λ ms. marks_at ticket.taken ticket.answered ++ ms) (answered-more rest more)

  abbrev step : World X → Letter → World X
  step w letter = after_letter flow (from_link flow link) w letter

  reply-acks : (agent : Agent) (reply : Reply) (w : World X) → (with_reply flow agent reply w).acks ≡ w.acks
  reply-acks agent Nothing w = refl
  reply-acks agent (Update cwnd) w = refl
  reply-acks agent (Change program cwnd cap) w = refl

  reply-answered : (agent : Agent) (reply : Reply) (w : World X) → (with_reply flow agent reply w).answered ≡ w.answered
  reply-answered agent Nothing w = refl
  reply-answered agent (Update cwnd) w = refl
  reply-answered agent (Change program cwnd cap) w = refl

  reply-out : (agent : Agent) (reply : Reply) (w : World X) → (with_reply flow agent reply w).out ≡ w.out
  reply-out agent Nothing w = refl
  reply-out agent (Update cwnd) w = refl
  reply-out agent (Change program cwnd cap) w = refl

  -- ---- one letter

  turn : (ticket : Taken X) (w : World X) → w.out ≡ Some ticket
      → ((after_answer flow w).acks ≡ w.acks)
      × ((after_answer flow w).answered ≡ w.answered ++ record { told = ticket.told; taken = ticket.taken; answered = length w.acks; reply = (replied w.agent (told_as flow ticket.told)).1 } ∷ [])
      × ((after_answer flow w).out ≡ None)
  turn ticket w is =
      let turned = replied w.agent (told_as flow ticket.told) in
      let told : World X = record w {
        agent = turned.0;
        out = None;
        answered = w.answered ++ record { told = ticket.told; taken = ticket.taken; answered = length w.acks; reply = turned.1 } ∷ [];
      } in
      let same : after_answer flow w ≡ with_reply flow w.agent turned.1 told = ap (λ o. answer_applied flow o w) is in (
        ap (λ (v : World X). v.acks) same ∙ reply-acks w.agent turned.1 told,
        ap (λ (v : World X). v.answered) same ∙ reply-answered w.agent turned.1 told,
        ap (λ (v : World X). v.out) same ∙ reply-out w.agent turned.1 told,
      )

  -- nothing is out, and something can be taken
  taken-marks : (w : World X) (o : Option (Content X × (List Report × Option (Failure X)))) → is_some o ≡ true → w.out ≡ None
      → world_marks (with_taken o w) ≡ world_marks w ++ record { at = length w.acks; letter = T } ∷ []
  taken-marks w None some none = absurd (cc)
  taken-marks w (Some taken) some none =
      sym (ap (λ (ms : List Mark). ms ++ record { at = length w.acks; letter = T } ∷ [])
      (ap (λ (o : Option (Taken X)). answered_marks w.answered ++ out_marks o) none ∙ append-nil (answered_marks w.answered)))

  taken-acks : (w : World X) (o : Option (Content X × (List Report × Option (Failure X)))) → (with_taken o w).acks ≡ w.acks
  taken-acks w None = refl
  taken-acks w (Some taken) = refl

  answer-marks : (w : World X) (o : Option (Taken X)) → w.out ≡ o → is_some o ≡ true
      → (world_marks (after_answer flow w) ≡ world_marks w ++ record { at = length w.acks; letter = C } ∷ []) × ((after_answer flow w).acks ≡ w.acks)
  answer-marks w None is some = absurd (cc)
  answer-marks w (Some ticket) is some =
      let (acks, answered, out) = turn ticket w is in
      let line : Answered X = record { told = ticket.told; taken = ticket.taken; answered = length w.acks; reply = (replied w.agent (told_as flow ticket.told)).1 } in (
        ap (λ (o : Option (Taken X)). answered_marks (after_answer flow w).answered ++ out_marks o) out
            ∙ append-nil (answered_marks (after_answer flow w).answered)
            ∙ ap answered_marks answered
            ∙ answered-more w.answered (line ∷ [])
            ∙ sym (append_assoc (answered_marks w.answered) (record { at = ticket.taken; letter = T } ∷ []) (record { at = length w.acks; letter = C } ∷ []))
            ∙ sym (ap (λ (o : Option (Taken X)). (answered_marks w.answered ++ out_marks o) ++ record { at = length w.acks; letter = C } ∷ []) is),
        acks,
      )

  -- ---- a word

  one_more : (marks more : List Mark) (at : ℕ) (letter : Letter) → (marks ++ record { at = at; letter = letter } ∷ []) ++ more ≡ marks ++ record { at = at; letter = letter } ∷ more
  one_more marks more at letter = append_assoc marks (record { at = at; letter = letter } ∷ []) more

  pub along_word : (word : List Letter) (w : World X) → legal_from flow (from_link flow link) w word ≡ true
      → (world_marks (world_from flow (from_link flow link) w word) ≡ world_marks w ++ marks_along (length w.acks) word)
      × (length (world_from flow (from_link flow link) w word).acks ≡ length w.acks + acks_in word)
      × (length w.acks ≤ flow.acks → length (world_from flow (from_link flow link) w word).acks ≤ flow.acks)
  along_word [] w legal = (sym (append-nil (world_marks w)), omega arith, λ below. below)
  along_word (A ∷ rest) w legal =
      let parts = and_parts (is_legal flow w A) (legal_from flow (from_link flow link) (step w A) rest) legal in
      let below : length w.acks < flow.acks = ltb-true (length w.acks) flow.acks parts.0 in
      let (marks, acks, within) = along_word rest (step w A) parts.1 in
      let more : length (step w A).acks ≡ length w.acks + 1 = length-append w.acks _ in (
        marks ∙ ap (λ n. world_marks w ++ marks_along n rest) more,
        omega (arith, acks, more),
        λ _. within (omega (arith, more, below)),
      )
  along_word (T ∷ rest) w legal =
      let parts = and_parts (is_legal flow w T) (legal_from flow (from_link flow link) (step w T) rest) legal in
      let now = and_parts (is_none w.out) (can_take w) parts.0 in
      let (marks, acks, within) = along_word rest (step w T) parts.1 in
      let same : length (step w T).acks ≡ length w.acks = ap length (taken-acks w (takeable w.waiting w.untold)) in
      let first : world_marks (step w T) ≡ world_marks w ++ record { at = length w.acks; letter = T } ∷ [] = taken-marks w (takeable w.waiting w.untold) now.1 (none_out w.out now.0) in (
        marks ∙ ap (λ n. world_marks (step w T) ++ marks_along n rest) same ∙ ap (λ ms. ms ++ marks_along (length w.acks) rest) first ∙ one_more (world_marks w) (marks_along (length w.acks) rest) (length w.acks) T,
        omega (arith, acks, same),
        λ below. within (omega (arith, same, below)),
      )
  along_word (C ∷ rest) w legal =
      let parts = and_parts (is_legal flow w C) (legal_from flow (from_link flow link) (step w C) rest) legal in
      let (first, acked) = answer-marks w w.out refl parts.0 in
      let (marks, acks, within) = along_word rest (step w C) parts.1 in
      let same : length (step w C).acks ≡ length w.acks = ap length acked in (
        marks ∙ ap (λ n. world_marks (step w C) ++ marks_along n rest) same ∙ ap (λ ms. ms ++ marks_along (length w.acks) rest) first ∙ one_more (world_marks w) (marks_along (length w.acks) rest) (length w.acks) C,
        omega (arith, acks, same),
        λ below. within (omega (arith, same, below)),
      )

  abbrev ended : List Letter → World X
  ended word = world flow link word

  -- the tickets of a legal and complete word
  abbrev pub tickets_of : List Letter → List TicketLine
  tickets_of word = map (ticket_line flow) (ended word).answered

  module _ (word : List Letter) (is : legal flow link word ≡ true) (full : is_complete flow (ended word) ≡ true) where
    still : (not (nat_lt (length (ended word).acks) flow.acks) ≡ true) × (is_still (ended word) ≡ true)
    still = and_parts (not (nat_lt (length (ended word).acks) flow.acks)) (is_still (ended word)) full

    none_left : (ended word).out ≡ None
    none_left = none_out (ended word).out (and_parts (is_none (ended word).out) (not (can_take (ended word))) still.1).0

    all_in : flow.acks ≤ length (ended word).acks
    all_in = ltb-false (length (ended word).acks) flow.acks (not-true (nat_lt (length (ended word).acks) flow.acks) still.0)

    alike : ticket_marks (tickets_of word) ≡ marks_along 0 word
    alike =
        sym (append-nil (ticket_marks (tickets_of word)))
        ∙ sym (ap (λ (o : Option (Taken X)). answered_marks (ended word).answered ++ out_marks o) none_left)
        ∙ (along_word word (opening flow) is).0

    count : acks_in word ≡ flow.acks
    count =
        let (marks, acks, within) = along_word word (opening flow) is in
        omega (arith, acks, within, all_in)

    pub forced_tickets : forced_word flow.acks (ticket_marks (tickets_of word)) ≡ Some word
    forced_tickets = ap (forced_word flow.acks) alike ∙ forced flow.acks word count

    pub tickets-within : AreWithin flow.acks (ticket_marks (tickets_of word))
    tickets-within = subst (λ (ms : List Mark). AreWithin flow.acks ms) (sym alike) (along-within flow.acks 0 word (omega (arith, count)))
