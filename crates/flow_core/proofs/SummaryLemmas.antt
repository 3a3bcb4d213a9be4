-- The summary after a letter is determined by the summary before it.
use Rattle.std.specs.Prelude.{◌≡◌, ◌+◌, not, ◌&&◌, nat_lt, is_some, Option, Some, None, option_map, List, [], ◌∷◌, ◌++◌, length, map, refl}
use Rattle.std.proofs.Common.{ap, ◌∙◌, arith, length-append}
use Rattle.std.proofs.lemmas.List.{map-append}
use Rattle.ccp_base.specs.declared.ack.Ack.{Ack}
use Rattle.ccp_base.specs.declared.exchange.Report.{Report}
use Rattle.ccp_base.specs.declared.exchange.Reply.{Reply}
use Rattle.ccp_base.specs.declared.exchange.Reply.TheVariants.{Nothing, Update, Change}
use Rattle.portus_core.specs.Epoch.{acknowledged, updated, heard, after_outcome, with_values}
use Rattle.portus_core.proofs.EventLaws.{after-append}
use Rattle.agent_core.specs.declared.agent.Agent.{Agent}
use Rattle.agent_core.specs.Agents.{replied, values_of}
use Rattle.flow_core.specs.declared.book.TicketLine.{TicketLine}
use Rattle.flow_core.specs.declared.letter.Letter.{Letter}
use Rattle.flow_core.specs.declared.letter.Letter.TheVariants.{A, T, C}
use Rattle.flow_core.specs.Readings.{Flow}
use Rattle.flow_core.specs.World.{Failure, Taken, Answered, World, track_of, time_of, failures_met, untold_after, has_room, after_ack, takeable, with_taken, after_take, with_reply, notice_of, told_as, with_turn, answer_applied, after_answer}
use Rattle.flow_core.specs.Words.{is_legal, is_still, is_complete}
use Rattle.flow_core.specs.Books.{ticket_line}
use Rattle.flow_core.specs.LiveText.{reports_told, report_count}
use Rattle.flow_core.specs.States.{issued_as}
use Rattle.flow_core.specs.Runnings.{notice_after, next_telling, with_told}
use Rattle.flow_core.specs.Summaries.{summary, on_running, step_ack, step_take, step_reply, step_turn, step_out, step_answer, may_make, is_idle, is_done}
use Rattle.flow_core.proofs.MappedLemmas.{some-mapped, none-mapped}

-- the time of the last one of a list
pub time-append : (acks : List Ack) (ack : Ack) → time_of (acks ++ ack ∷ []) ≡ ack.now
time-append [] ack = refl
time-append (first ∷ []) ack = refl
time-append (first ∷ next ∷ rest) ack = time-append (next ∷ rest) ack

pub count-append : (lines : List TicketLine) (line : TicketLine) → report_count (lines ++ line ∷ []) ≡ report_count lines + reports_told line.told
count-append [] line = omega arith
count-append (first ∷ rest) line = omega (arith, count-append rest line)

module _ {X : Type 0} (flow : Flow X) where
  -- ---- A

  untold-met : (failures : List (Failure X)) (untold : Option (Failure X))
      → option_map (notice_of flow) (untold_after failures untold) ≡ notice_after flow.number flow.index failures (option_map (notice_of flow) untold)
  untold-met [] untold = refl
  untold-met (failure ∷ rest) untold = refl

  pub summary-ack : (ack : Ack) (w : World X) → summary flow (after_ack flow ack w) ≡ step_ack flow ack (summary flow w)
  summary-ack ack w =
      let track = track_of flow w in
      let met = heard (flow.reading w.present.program) track.is_stopped track.env ack (has_room flow w) in
      let failures = failures_met w.present.program (length w.past) track.count ack met in
      let next = after_ack flow ack w in
      let tracked : track_of flow next ≡ after_outcome met track =
      after-append (flow.reading w.present.program) w.present.events (acknowledged ack (has_room flow w) ∷ []) _ in
      λ i. record (summary flow next) {
        track = tracked i;
        acks = length-append w.acks (ack ∷ []) i;
        time = time-append w.acks ack i;
        untold = untold-met failures w.untold i;
        faults = length-append w.faults failures i;
      }

  -- ---- T

  summary-taken : (waiting : List Report) (untold : Option (Failure X)) (w : World X)
      → summary flow (with_taken (takeable waiting untold) w) ≡ on_running (with_told (next_telling waiting (option_map (notice_of flow) untold))) (summary flow w)
  summary-taken (report ∷ rest) untold w = refl
  summary-taken [] (Some failure) w = refl
  summary-taken [] None w = refl

  pub summary-take : (w : World X) → summary flow (after_take w) ≡ step_take (summary flow w)
  summary-take w = summary-taken w.waiting w.untold w

  -- ---- C

  summary-obeyed : (agent : Agent) (reply : Reply) (w : World X) → summary flow (with_reply flow agent reply w) ≡ step_reply flow agent reply (summary flow w)
  summary-obeyed agent Nothing w = refl
  summary-obeyed agent (Update cwnd) w =
      let next = with_reply flow agent (Update cwnd) w in
      let track = track_of flow w in
      let tracked : track_of flow next ≡ record track { env = with_values (values_of agent (Update cwnd)) track.env } =
      after-append (flow.reading w.present.program) w.present.events (updated (values_of agent (Update cwnd)) ∷ []) _ in
      λ i. record (summary flow w) { track = tracked i }
  summary-obeyed agent (Change program cwnd cap) w =
      let next = with_reply flow agent (Change program cwnd cap) w in
      λ i. record (summary flow next) { epoch = length-append w.past (w.present ∷ []) i }

  pub summary-turned : (ticket : Taken X) (turn : Agent × Reply) (w : World X)
      → summary flow (with_turn flow ticket turn w) ≡ step_turn flow (issued_as flow ticket) turn (summary flow w)
  summary-turned ticket turn w =
      let line : Answered X = record { told = ticket.told; taken = ticket.taken; answered = length w.acks; reply = turn.1 } in
      let closed : World X = record w { agent = turn.0; out = None; answered = w.answered ++ line ∷ [] } in
      let told : report_count (map (ticket_line flow) closed.answered)
      ≡ report_count (map (ticket_line flow) w.answered) + reports_told (told_as flow ticket.told) =
      ap report_count (map-append (ticket_line flow) w.answered (line ∷ []))
      ∙ count-append (map (ticket_line flow) w.answered) (ticket_line flow line) in
      summary-obeyed w.agent turn.1 closed
      ∙ (λ i. step_reply flow w.agent turn.1 (record (summary flow closed) { answered = length-append w.answered (line ∷ []) i; told = told i }))

  summary-applied : (out : Option (Taken X)) (w : World X)
      → summary flow (answer_applied flow out w) ≡ step_out flow (option_map (issued_as flow) out) (summary flow w)
  summary-applied None w = refl
  summary-applied (Some ticket) w = summary-turned ticket (replied w.agent (told_as flow ticket.told)) w

  pub summary-answer : (w : World X) → summary flow (after_answer flow w) ≡ step_answer flow (summary flow w)
  summary-answer w = summary-applied w.out w

  -- ---- what depends on the summary alone

  can-told : (waiting : List Report) (untold : Option (Failure X)) → is_some (takeable waiting untold) ≡ is_some (next_telling waiting (option_map (notice_of flow) untold))
  can-told (report ∷ rest) untold = refl
  can-told [] (Some failure) = refl
  can-told [] None = refl

  pub summary-legal : (letter : Letter) (w : World X) → is_legal flow w letter ≡ may_make flow (summary flow w) letter
  summary-legal A w = refl
  summary-legal T w = λ i. none-mapped (issued_as flow) w.out i && can-told w.waiting w.untold i
  summary-legal C w = some-mapped (issued_as flow) w.out

  pub summary-still : (w : World X) → is_still w ≡ is_idle (summary flow w)
  summary-still w = λ i. none-mapped (issued_as flow) w.out i && not (can-told w.waiting w.untold i)

  pub summary-complete : (w : World X) → is_complete flow w ≡ is_done flow (summary flow w)
  summary-complete w = λ i. not (nat_lt (length w.acks) flow.acks) && summary-still w i
