-- A flow's report counts no more acknowledgements than the flow has.
use Rattle.std.specs.Prelude.{◌≡◌, ℕ, Bool, ◌+◌, ◌≤◌, IfSome, Option, Some, None, option_map, List, [], ◌∷◌, ◌++◌, length, slice_get, refl}
use Rattle.std.specs.List.{AllByRecursion}
use Rattle.std.proofs.Common.{arith, sym, subst, length-append}
use Rattle.ccp_base.specs.Limits.{most_acks}
use Rattle.ccp_base.specs.FieldReg.{Pair}
use Rattle.ccp_base.specs.declared.ack.Ack.{Ack}
use Rattle.ccp_base.specs.declared.arithmetic.FaultKind.{FaultKind}
use Rattle.ccp_base.specs.declared.exchange.Report.{Report}
use Rattle.portus_core.specs.declared.env.Env.{Env}
use Rattle.portus_core.specs.Epoch.{Event, acknowledged, updated, Outcome, quiet, reported, held, failed, stopped, Track, heard, after_outcome, after_event}
use Rattle.portus_core.proofs.EventLaws.{after-append}
use Rattle.flow_core.specs.declared.letter.Letter.{Letter}
use Rattle.flow_core.specs.declared.letter.Letter.TheVariants.{A, T, C}
use Rattle.flow_core.specs.Readings.{Flow}
use Rattle.flow_core.specs.World.{World, Content, of_report, of_failure, Failure, Taken, track_of, with_met, after_ack, has_room, takeable, with_taken, told_as, with_event}
use Rattle.flow_core.specs.Words.{Giving, with_given, from_link}
use Rattle.driven_flow.specs.Driven.{Given, with_values_given, with_answer, answered_by, after_letter, world_from, begun, DrivenState, flow_by, world_by, told_out}
use Rattle.driven_flow.specs.Session.{IsShort}
use Rattle.driven_flow.proofs.StateLemmas.{shut}

abbrev ReportWithin : ℕ → Report → Type 0
ReportWithin n report = (report.first ≤ n) × (report.end ≤ n)

module _ {X : Type 0} where
  abbrev UntoldWithin : ℕ → Option (Failure X) → Type 0
  UntoldWithin n None = Unit {0}
  UntoldWithin n (Some failure) = failure.at ≤ n

  abbrev ContentWithin : ℕ → Content X → Type 0
  ContentWithin n (of_report report) = ReportWithin n report
  ContentWithin n (of_failure failure) = failure.at ≤ n

  abbrev OutWithin : ℕ → Option (Taken X) → Type 0
  OutWithin n None = Unit {0}
  OutWithin n (Some ticket) = ContentWithin n ticket.told

  untold-more : (n : ℕ) (untold : Option (Failure X)) → UntoldWithin n untold → UntoldWithin (n + 1) untold
  untold-more n None within = tt
  untold-more n (Some failure) within = omega (arith, within)

  content-more : (n : ℕ) (content : Content X) → ContentWithin n content → ContentWithin (n + 1) content
  content-more n (of_report report) within = let first = within.0 in let end = within.1 in (omega (arith, first), omega (arith, end))
  content-more n (of_failure failure) within = omega (arith, within)

  out-more : (n : ℕ) (out : Option (Taken X)) → OutWithin n out → OutWithin (n + 1) out
  out-more n None within = tt
  out-more n (Some ticket) within = content-more n ticket.told within

reports-more : (n : ℕ) (reports : List Report) → AllByRecursion (ReportWithin n) reports → AllByRecursion (ReportWithin (n + 1)) reports
reports-more n [] all = tt
reports-more n (report ∷ rest) all =
    let first = all.0.0 in
    let end = all.0.1 in
    ((omega (arith, first), omega (arith, end)), reports-more n rest all.1)

reports-last : (n : ℕ) (reports : List Report) (report : Report) → AllByRecursion (ReportWithin n) reports → ReportWithin n report
    → AllByRecursion (ReportWithin n) (reports ++ report ∷ [])
reports-last n [] report all within = (within, tt)
reports-last n (first ∷ rest) report all within = (all.0, reports-last n rest report all.1 within)

reports-none : (n : ℕ) (reports : List Report) → AllByRecursion (ReportWithin n) reports → AllByRecursion (ReportWithin n) (reports ++ [])
reports-none n [] all = tt
reports-none n (first ∷ rest) all = (all.0, reports-none n rest all.1)

-- a report or notice over `n` acknowledgements, where the present epoch's unreported span begins at `first`
record Within {X : Type 0} (n count first : ℕ) (waiting : List Report) (untold : Option (Failure X)) (out : Option (Taken X)) : Type 0 where
  counted : count ≡ n
  span : first ≤ n
  waits : AllByRecursion (ReportWithin n) waiting
  notice : UntoldWithin n untold
  ticket : OutWithin n out

module _ {X : Type 0} (flow : Flow X) where
  abbrev IsWithin : World X → Type 0
  IsWithin w = Within (length w.acks) (track_of flow w).count (track_of flow w).first w.waiting w.untold w.out

  -- ---- an acknowledgement

  within-event : (event : Event) (w : World X)
      → track_of flow (record w { present = with_event event w.present }) ≡ after_event (flow.reading w.present.program) event (track_of flow w)
  within-event event w = after-append (flow.reading w.present.program) w.present.events (event ∷ []) _

  within-outcome : (ack : Ack) (room : Bool) (outcome : Outcome (FaultKind × X)) (env : Env) (w : World X) → IsWithin w
      → Within (length w.acks + 1) (after_outcome (outcome, env) (track_of flow w)).count (after_outcome (outcome, env) (track_of flow w)).first
      (with_met flow ack room (track_of flow w) (outcome, env) w).waiting (with_met flow ack room (track_of flow w) (outcome, env) w).untold w.out
  within-outcome ack room quiet env w is =
      let n = length w.acks in
      let counted = is.counted in
      let span = is.span in
      record {
        counted = omega (arith, counted);
        span = omega (arith, span);
        waits = reports-none (n + 1) w.waiting (reports-more n w.waiting is.waits);
        notice = untold-more n w.untold is.notice;
        ticket = out-more n w.out is.ticket;
      }
  within-outcome ack room held env w is =
      let n = length w.acks in
      let counted = is.counted in
      let span = is.span in
      record {
        counted = omega (arith, counted);
        span = omega (arith, span);
        waits = reports-none (n + 1) w.waiting (reports-more n w.waiting is.waits);
        notice = untold-more n w.untold is.notice;
        ticket = out-more n w.out is.ticket;
      }
  within-outcome ack room stopped env w is =
      let n = length w.acks in
      let counted = is.counted in
      let span = is.span in
      record {
        counted = omega (arith, counted);
        span = omega (arith, span);
        waits = reports-none (n + 1) w.waiting (reports-more n w.waiting is.waits);
        notice = untold-more n w.untold is.notice;
        ticket = out-more n w.out is.ticket;
      }
  within-outcome ack room (failed fault) env w is =
      let n = length w.acks in
      let counted = is.counted in
      let span = is.span in
      record {
        counted = omega (arith, counted);
        span = omega (arith, span);
        waits = reports-none (n + 1) w.waiting (reports-more n w.waiting is.waits);
        notice = omega (arith, counted);
        ticket = out-more n w.out is.ticket;
      }
  within-outcome ack room (reported fields) env w is =
      let n = length w.acks in
      let counted = is.counted in
      let span = is.span in
      record {
        counted = omega (arith, counted);
        span = omega (arith, counted);
        waits = reports-last (n + 1) w.waiting _ (reports-more n w.waiting is.waits) (omega (arith, span), omega (arith, counted));
        notice = untold-more n w.untold is.notice;
        ticket = out-more n w.out is.ticket;
      }

  within-ack : (ack : Ack) (w : World X) → IsWithin w → IsWithin (after_ack flow ack w)
  within-ack ack w is =
      let room = has_room flow w in
      let track = track_of flow w in
      let met = heard (flow.reading w.present.program) track.is_stopped track.env ack room in
      let v = after_ack flow ack w in
      let grown : track_of flow v ≡ after_outcome met track = within-event (acknowledged ack room) w in
      let count : length v.acks ≡ length w.acks + 1 = length-append w.acks (ack ∷ []) in
      subst (λ (n : ℕ). Within n (track_of flow v).count (track_of flow v).first v.waiting v.untold v.out) (sym count)
      (subst (λ (t : Track). Within (length w.acks + 1) t.count t.first v.waiting v.untold v.out) (sym grown)
      (within-outcome ack room met.0 met.1 w is))

  -- ---- a taking

  within-taken : (waiting : List Report) (untold : Option (Failure X)) (w : World X) → w.waiting ≡ waiting → w.untold ≡ untold → IsWithin w
      → IsWithin (with_taken (takeable waiting untold) w)
  within-taken (report ∷ rest) untold w waits notice is =
      let n = length w.acks in
      let all = subst (AllByRecursion (ReportWithin n)) waits is.waits in
      record {
        counted = is.counted;
        span = is.span;
        waits = all.1;
        notice = subst (UntoldWithin n) notice is.notice;
        ticket = all.0;
      }
  within-taken [] (Some failure) w waits notice is = record {
    counted = is.counted;
    span = is.span;
    waits = tt;
    notice = tt;
    ticket = subst (UntoldWithin (length w.acks)) notice is.notice;
  }
  within-taken [] None w waits notice is = is

  -- ---- an answer

  within-values : (program : Option ℕ) (values : List Pair) (w : World X) → IsWithin w → IsWithin (with_values_given flow program values w)
  within-values None [] w is = is
  within-values None (pair ∷ rest) w is =
      let v = with_values_given flow None (pair ∷ rest) w in
      let grown : track_of flow v ≡ after_event (flow.reading w.present.program) (updated (pair ∷ rest)) (track_of flow w) =
      within-event (updated (pair ∷ rest)) w in
      subst (λ (t : Track). Within (length w.acks) t.count t.first w.waiting w.untold w.out) (sym grown) (record {
        counted = is.counted;
        span = is.span;
        waits = is.waits;
        notice = is.notice;
        ticket = is.ticket;
      })
  within-values (Some program) values w is = record {
    counted = refl;
    span = omega arith;
    waits = is.waits;
    notice = tt;
    ticket = is.ticket;
  }

  within-answer : (given : Given) (out : Option (Taken X)) (w : World X) → IsWithin w → IsWithin (with_answer flow given out w)
  within-answer given None w is = is
  within-answer given (Some ticket) w is = within-values given.program given.values (shut flow ticket w) (record {
    counted = is.counted;
    span = is.span;
    waits = is.waits;
    notice = is.notice;
    ticket = tt;
  })

  within-answered : (given : Option Given) (w : World X) → IsWithin w → IsWithin (answered_by flow given w)
  within-answered None w is = is
  within-answered (Some given) w is = within-answer given w.out w is

  -- ---- a word

  within-heard : (ack : Option Ack) (w : World X) → IsWithin w → IsWithin (with_given flow ack w)
  within-heard None w is = is
  within-heard (Some ack) w is = within-ack ack w is

  within-letter : (giving : Giving X) (answers : List Given) (letter : Letter) (w : World X) → IsWithin w
      → IsWithin (after_letter flow giving answers w letter)
  within-letter giving answers A w is = within-heard (giving w) w is
  within-letter giving answers T w is = within-taken w.waiting w.untold w refl refl is
  within-letter giving answers C w is = within-answered (slice_get answers (length w.answered)) w is

  within-word : (giving : Giving X) (answers : List Given) (word : List Letter) (w : World X) → IsWithin w
      → IsWithin (world_from flow giving answers w word)
  within-word giving answers [] w is = is
  within-word giving answers (letter ∷ rest) w is =
      within-word giving answers rest (after_letter flow giving answers w letter) (within-letter giving answers letter w is)

  -- ---- reports and notices

  told-content : (n : ℕ) (content : Content X) → n ≤ most_acks → ContentWithin n content → IsShort (told_as flow content)
  told-content n (of_report report) few within =
      let first = within.0 in
      let end = within.1 in
      (omega (arith, few, first), omega (arith, few, end))
  told-content n (of_failure failure) few within = omega (arith, few, within)

  told-out : (n : ℕ) (out : Option (Taken X)) → n ≤ most_acks → OutWithin n out
      → IfSome (option_map (λ (ticket : Taken X). told_as flow ticket.told) out) IsShort
  told-out n None few within = tt
  told-out n (Some ticket) few within = told-content n ticket.told few within

within-begun : (d : DrivenState) → IsWithin (flow_by d) (begun (flow_by d) d.case.link.mss d.program d.values)
within-begun d = record { counted = refl; span = omega arith; waits = tt; notice = tt; ticket = tt }

-- the report or notice of the open ticket, if the flow has at most `most_acks` acknowledgements
pub told-short : (d : DrivenState) → length (world_by d).acks ≤ most_acks → IfSome (told_out (flow_by d) (world_by d)) IsShort
told-short d few =
    let flow = flow_by d in
    let is = within-word flow (from_link flow d.case.link) d.answers d.word (begun flow d.case.link.mss d.program d.values) (within-begun d) in
    told-out flow (length (world_by d).acks) (world_by d).out few is.ticket
