-- After each legal letter the answered tickets, the one that is out and the reports that wait are all reports that the
-- flow's epochs made.
use Rattle.std.specs.Prelude.{◌≡◌, ℕ, ◌+◌, Bool, true, false, not, ◌&&◌, is_some, is_none, Option, Some, None, List, [], ◌∷◌, ◌++◌, length, map, refl}
use Rattle.std.proofs.Common.{arith, ap, sym, ◌∙◌, append_assoc, append-nil}
use Rattle.std.proofs.lemmas.Bool.{and_parts}
use Rattle.ccp_base.specs.declared.ack.Ack.{Ack}
use Rattle.ccp_base.specs.declared.exchange.Report.{Report}
use Rattle.ccp_base.specs.declared.exchange.Reply.{Reply}
use Rattle.ccp_base.specs.declared.exchange.Reply.TheVariants.{Nothing, Update, Change}
use Rattle.ccp_base.specs.RunningEpochs.{Reporter}
use Rattle.portus_core.specs.Epoch.{Event, acknowledged, updated, Reading, Track, track_at, after_event, after}
use Rattle.portus_core.specs.Reports.{reports, reports_at}
use Rattle.agent_core.specs.declared.agent.Agent.{Agent}
use Rattle.agent_core.specs.Agents.{replied, values_of}
use Rattle.flow_core.specs.declared.letter.Letter.{Letter}
use Rattle.flow_core.specs.declared.letter.Letter.TheVariants.{A, T, C}
use Rattle.flow_core.specs.Readings.{Flow}
use Rattle.flow_core.specs.World.{Failure, Content, of_report, of_failure, Era, Taken, Answered, World, track_of, has_room, after_ack, takeable, with_taken, after_take, with_reply, told_as, with_turn, answer_applied}
use Rattle.flow_core.specs.Words.{Giving, with_given, after_letter, world_from, is_legal, legal_from}
use Rattle.flow_core.specs.Books.{ticket_line}
use Rattle.flow_core.specs.LiveText.{report_count, reports_told}
use Rattle.campaign_core.specs.ReportsMade.{era_reports, reports_from, reports_made, reports_of, reports_answered}

-- ---- one more event, epoch or ticket

events-append : {F : Type 0} (reading : Reading F) (epoch : Reporter) (events : List Event) (event : Event) (track : Track)
    → reports reading epoch (events ++ event ∷ []) track
    ≡ reports reading epoch events track ++ reports_at reading epoch event (after reading events track)
events-append reading epoch [] event track = append-nil (reports_at reading epoch event track)
events-append reading epoch (first ∷ rest) event track =
    ap (λ (xs : List Report). reports_at reading epoch first track ++ xs)
    (events-append reading epoch rest event (after_event reading first track))
    ∙ sym (append_assoc (reports_at reading epoch first track) (reports reading epoch rest (after_event reading first track))
    (reports_at reading epoch event (after reading rest (after_event reading first track))))

eras-append : {X : Type 0} (flow : Flow X) (number : ℕ) (eras : List Era) (era : Era)
    → reports_from flow number (eras ++ era ∷ []) ≡ reports_from flow number eras ++ era_reports flow (number + length eras) era
eras-append flow number [] era =
    let same : number ≡ number + 0 = omega arith in
    append-nil (era_reports flow number era) ∙ ap (λ (n : ℕ). era_reports flow n era) same
eras-append flow number (first ∷ rest) era =
    let same : (number + 1) + length rest ≡ number + length (first ∷ rest) = omega arith in
    ap (λ (xs : List Report). era_reports flow number first ++ xs)
    (eras-append flow (number + 1) rest era ∙ ap (λ (n : ℕ). reports_from flow (number + 1) rest ++ era_reports flow n era) same)
    ∙ sym (append_assoc (era_reports flow number first) (reports_from flow (number + 1) rest) (era_reports flow (number + length (first ∷ rest)) era))

tickets-append : {X : Type 0} (tickets : List (Answered X)) (ticket : Answered X)
    → reports_answered (tickets ++ ticket ∷ []) ≡ reports_answered tickets ++ reports_of ticket.told
tickets-append [] ticket = append-nil (reports_of ticket.told)
tickets-append (first ∷ rest) ticket =
    ap (λ (xs : List Report). reports_of first.told ++ xs) (tickets-append rest ticket)
    ∙ sym (append_assoc (reports_of first.told) (reports_answered rest) (reports_of ticket.told))

regroup : (a b c d : List Report) → a ++ (b ++ (c ++ d)) ≡ (a ++ (b ++ c)) ++ d
regroup a b c d = ap (λ (xs : List Report). a ++ xs) (sym (append_assoc b c d)) ∙ sym (append_assoc a (b ++ c) d)

-- the report of the ticket that is out
abbrev pub reports_out : {X : Type 0} → Option (Taken X) → List Report
reports_out None = []
reports_out (Some ticket) = reports_of ticket.told

-- ---- a letter

module _ {X : Type 0} (flow : Flow X) where
  -- the reports that were answered, that are out and that wait
  abbrev pub reports_kept : World X → List Report
  reports_kept w = reports_answered w.answered ++ (reports_out w.out ++ w.waiting)

  -- they are those that the epochs made
  abbrev pub KeepsMade : World X → Type 0
  KeepsMade w = reports_kept w ≡ reports_made flow w

  -- the reports of one more event of the present epoch come last
  event-made : (event : Event) (w : World X)
      → reports_made flow (record w { present = record w.present { events = w.present.events ++ event ∷ [] } })
      ≡ reports_made flow w
      ++ reports_at (flow.reading w.present.program) (record { flow = flow.number; program = w.present.program; number = length w.past }) event (track_of flow w)
  event-made event w =
      let reading = flow.reading w.present.program in
      let epoch : Reporter = record { flow = flow.number; program = w.present.program; number = length w.past } in
      let begun = track_at w.present.at w.present.first in
      ap (λ (xs : List Report). reports_from flow 0 w.past ++ xs) (events-append reading epoch w.present.events event begun)
      ∙ sym (append_assoc (reports_from flow 0 w.past) (reports reading epoch w.present.events begun) (reports_at reading epoch event (track_of flow w)))

  pub ack-made : (ack : Ack) (w : World X) → KeepsMade w → KeepsMade (after_ack flow ack w)
  ack-made ack w kept =
      let event = acknowledged ack (has_room flow w) in
      let new = reports_at (flow.reading w.present.program) (record { flow = flow.number; program = w.present.program; number = length w.past }) event (track_of flow w) in
      regroup (reports_answered w.answered) (reports_out w.out) w.waiting new
      ∙ ap (λ (xs : List Report). xs ++ new) kept
      ∙ sym (event-made event w)

  given-made : (given : Option Ack) (w : World X) → KeepsMade w → KeepsMade (with_given flow given w)
  given-made None w kept = kept
  given-made (Some ack) w kept = ack-made ack w kept

  taken-kept : (waiting : List Report) (untold : Option (Failure X)) (w : World X)
      → reports_kept (after_take (record w { waiting = waiting; untold = untold; out = None }))
      ≡ reports_kept (record w { waiting = waiting; untold = untold; out = None })
  taken-kept (report ∷ rest) untold w = refl
  taken-kept [] (Some failure) w = refl
  taken-kept [] None w = refl

  taken-made : (taken : Option (Content X × (List Report × Option (Failure X)))) (w : World X)
      → reports_made flow (with_taken taken w) ≡ reports_made flow w
  taken-made None w = refl
  taken-made (Some taken) w = refl

  take-made : (w : World X) → w.out ≡ None → KeepsMade w → KeepsMade (after_take w)
  take-made w none kept =
      let same : w ≡ record w { out = None } = λ i. record w { out = none i } in
      ap (λ (v : World X). reports_kept (after_take v)) same
      ∙ taken-kept w.waiting w.untold w
      ∙ ap reports_kept (sym same)
      ∙ kept
      ∙ sym (taken-made (takeable w.waiting w.untold) w)

  reply-kept : (agent : Agent) (reply : Reply) (w : World X) → reports_kept (with_reply flow agent reply w) ≡ reports_kept w
  reply-kept agent Nothing w = refl
  reply-kept agent (Update cwnd) w = refl
  reply-kept agent (Change program cwnd cap_value) w = refl

  reply-made : (agent : Agent) (reply : Reply) (w : World X) → reports_made flow (with_reply flow agent reply w) ≡ reports_made flow w
  reply-made agent Nothing w = refl
  reply-made agent (Update cwnd) w =
      event-made (updated (values_of agent (Update cwnd))) w ∙ append-nil (reports_made flow w)
  reply-made agent (Change program cwnd cap_value) w =
      let number : 0 + length w.past ≡ length w.past = omega arith in
      append-nil (reports_from flow 0 (w.past ++ w.present ∷ []))
      ∙ eras-append flow 0 w.past w.present
      ∙ ap (λ (n : ℕ). reports_from flow 0 w.past ++ era_reports flow n w.present) number

  turn-made : (ticket : Taken X) (turn : Agent × Reply) (w : World X) → w.out ≡ Some ticket → KeepsMade w → KeepsMade (with_turn flow ticket turn w)
  turn-made ticket turn w out kept =
      let line : Answered X = record { told = ticket.told; taken = ticket.taken; answered = length w.acks; reply = turn.1 } in
      let turned : World X = record w { agent = turn.0; out = None; answered = w.answered ++ line ∷ [] } in
      reply-kept w.agent turn.1 turned
      ∙ ap (λ (xs : List Report). xs ++ w.waiting) (tickets-append w.answered line)
      ∙ append_assoc (reports_answered w.answered) (reports_of ticket.told) w.waiting
      ∙ ap (λ (o : Option (Taken X)). reports_answered w.answered ++ (reports_out o ++ w.waiting)) (sym out)
      ∙ kept
      ∙ sym (reply-made w.agent turn.1 turned)

  answer-made : (out : Option (Taken X)) (w : World X) → w.out ≡ out → KeepsMade w → KeepsMade (answer_applied flow out w)
  answer-made None w is kept = kept
  answer-made (Some ticket) w is kept = turn-made ticket (replied w.agent (told_as flow ticket.told)) w is kept

  none-out : (out : Option (Taken X)) (can : Bool) → (is_none out && can) ≡ true → out ≡ None
  none-out None can legal = refl
  none-out (Some ticket) can legal = absurd (let wrong : false ≡ true = legal in (cc))

  pub letter-made : (giving : Giving X) (letter : Letter) (w : World X) → is_legal flow w letter ≡ true → KeepsMade w
      → KeepsMade (after_letter flow giving w letter)
  letter-made giving A w legal kept = given-made (giving w) w kept
  letter-made giving T w legal kept = take-made w (none-out w.out (is_some (takeable w.waiting w.untold)) legal) kept
  letter-made giving C w legal kept = answer-made w.out w refl kept

  -- ---- a word

  pub word-made : (giving : Giving X) (word : List Letter) (w : World X) → legal_from flow giving w word ≡ true → KeepsMade w
      → KeepsMade (world_from flow giving w word)
  word-made giving [] w legal kept = kept
  word-made giving (letter ∷ rest) w legal kept =
      let next = after_letter flow giving w letter in
      let (here, later) = and_parts (is_legal flow w letter) (legal_from flow giving next rest) legal in
      word-made giving rest next later (letter-made giving letter w here kept)

  -- a complete word leaves none
  pub none-left : (more : Bool) (out : Option (Taken X)) (waiting : List Report) (untold : Option (Failure X))
      → (not more && (is_none out && not (is_some (takeable waiting untold)))) ≡ true → reports_out out ++ waiting ≡ []
  none-left true out waiting untold done = absurd (let wrong : false ≡ true = done in (cc))
  none-left false (Some ticket) waiting untold done = absurd (let wrong : false ≡ true = done in (cc))
  none-left false None (report ∷ rest) untold done = absurd (let wrong : false ≡ true = done in (cc))
  none-left false None [] untold done = refl

  -- ---- the row

  told-length : (told : Content X) (rest : List Report) → length (reports_of told ++ rest) ≡ reports_told (told_as flow told) + length rest
  told-length (of_report report) rest = omega arith
  told-length (of_failure failure) rest = omega arith

  pub count-length : (tickets : List (Answered X)) → report_count (map (ticket_line flow) tickets) ≡ length (reports_answered tickets)
  count-length [] = refl
  count-length (ticket ∷ rest) =
      ap (λ (n : ℕ). reports_told (told_as flow ticket.told) + n) (count-length rest)
      ∙ sym (told-length ticket.told (reports_answered rest))
