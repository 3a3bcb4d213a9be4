-- What is kept after an answer is that of the state after it.
use Rattle.std.specs.Prelude.{◌≡◌, ℕ, ◌+◌, ◌≤◌, Option, Some, None, option_map, List, [], ◌∷◌, ◌++◌, length, map, refl}
use Rattle.std.proofs.Common.{ap, sym, ◌∙◌, subst, arith, length-append, append-nil}
use Rattle.std.proofs.lemmas.List.{map-append}
use Rattle.ccp_base.specs.declared.exchange.Reply.{Reply}
use Rattle.ccp_base.specs.declared.exchange.Reply.TheVariants.{Nothing, Update, Change}
use Rattle.ccp_base.specs.declared.place.Place.{Place}
use Rattle.link_model.specs.Standing.{LinkState, Stands}
use Rattle.agent_core.specs.declared.agent.Agent.{Agent}
use Rattle.agent_core.specs.Agents.{course_of, replied}
use Rattle.agent_core.specs.RoleLaws.{AreRoles}
use Rattle.agent_core.proofs.ReplyLemmas.{roles-kept}
use Rattle.flow_core.specs.declared.running.Issued.{Issued}
use Rattle.flow_core.specs.declared.book.TicketLine.{TicketLine}
use Rattle.flow_core.specs.Readings.{Flow}
use Rattle.flow_core.specs.World.{Failure, Taken, World, with_reply, answer_applied, after_answer, told_as}
use Rattle.flow_core.specs.States.{issued_as, some_count}
use Rattle.flow_core.specs.Books.{ticket_line, epoch_line}
use Rattle.flow_core.specs.LiveText.{reports_told, report_count}
use Rattle.flow_core.specs.Summaries.{Summary, summary, step_reply, step_turn, step_out, step_answer}
use Rattle.flow_core.proofs.SummaryLemmas.{count-append, summary-answer}
use Rattle.source_flow.specs.declared.source_case.SourceCase.{SourceCase}
use Rattle.source_flow.specs.declared.state.State.{State}
use Rattle.source_flow.specs.SourceAccounts.{failure_of}
use Rattle.source_flow.specs.SourceStates.{flow_over_sources, summary_in, IsAt, IsSourceSound}
use Rattle.source_flow.specs.SourceSteps.{answered_line, epochs_started, Obeys}
use Rattle.source_flow.proofs.EpochLineLemmas.{epoch_lines-last, epoch_lines-more}

-- ---- what an answer appends to the lists of a state

-- the lists that it leaves
abbrev lists_left : World Place → List (Failure Place) × List ℕ
lists_left w = (w.faults, w.windows)

-- the reply to the ticket that is out
abbrev reply_to : Agent → Option Issued → Reply
reply_to agent None = Nothing
reply_to agent (Some issued) = (replied agent issued.told).1

abbrev lines_closed : Agent → ℕ → Option Issued → List TicketLine
lines_closed agent acks None = []
lines_closed agent acks (Some issued) = answered_line issued acks (replied agent issued.told).1 ∷ []

module _ (flow : Flow Place) where
  reply-frame : (agent : Agent) (reply : Reply) (w : World Place)
      → with_reply flow agent reply w
      ≡ record w { past = (with_reply flow agent reply w).past; present = (with_reply flow agent reply w).present; untold = (with_reply flow agent reply w).untold }
  reply-frame agent Nothing w = refl
  reply-frame agent (Update cwnd) w = refl
  reply-frame agent (Change program cwnd cap_value) w = refl

  reply-epochs : (agent : Agent) (reply : Reply) (w : World Place)
      → map epoch_line ((with_reply flow agent reply w).past ++ (with_reply flow agent reply w).present ∷ [])
      ≡ map epoch_line (w.past ++ w.present ∷ []) ++ epochs_started reply (summary flow (with_reply flow agent reply w))
  reply-epochs agent Nothing w = sym (append-nil (map epoch_line (w.past ++ w.present ∷ [])))
  reply-epochs agent (Update cwnd) w =
      epoch_lines-last w.past (with_reply flow agent (Update cwnd) w).present w.present refl
      ∙ sym (append-nil (map epoch_line (w.past ++ w.present ∷ [])))
  reply-epochs agent (Change program cwnd cap_value) w = epoch_lines-more w.past w.present (with_reply flow agent (Change program cwnd cap_value) w).present

  answer-same : (out : Option (Taken Place)) (w : World Place) → lists_left (answer_applied flow out w) ≡ lists_left w
  answer-same None w = refl
  answer-same (Some ticket) w = ap lists_left (reply-frame w.agent (replied w.agent (told_as flow ticket.told)).1 _)

  answer-tickets : (out : Option (Taken Place)) (w : World Place)
      → map (ticket_line flow) (answer_applied flow out w).answered
      ≡ map (ticket_line flow) w.answered ++ lines_closed w.agent (length w.acks) (option_map (issued_as flow) out)
  answer-tickets None w = sym (append-nil (map (ticket_line flow) w.answered))
  answer-tickets (Some ticket) w =
      ap (λ (v : World Place). map (ticket_line flow) v.answered) (reply-frame w.agent (replied w.agent (told_as flow ticket.told)).1 _)
      ∙ map-append (ticket_line flow) w.answered _

  answer-epochs : (out : Option (Taken Place)) (w : World Place)
      → map epoch_line ((answer_applied flow out w).past ++ (answer_applied flow out w).present ∷ [])
      ≡ map epoch_line (w.past ++ w.present ∷ []) ++ epochs_started (reply_to w.agent (option_map (issued_as flow) out)) (summary flow (answer_applied flow out w))
  answer-epochs None w = sym (append-nil (map epoch_line (w.past ++ w.present ∷ [])))
  answer-epochs (Some ticket) w = reply-epochs w.agent (replied w.agent (told_as flow ticket.told)).1 _

  -- a reply starts one epoch at most, and leaves no notice that wasn't untold
  reply-range : (agent : Agent) (reply : Reply) (s : Summary)
      → ((step_reply flow agent reply s).epoch ≤ s.epoch + 1) × (some_count (step_reply flow agent reply s).untold ≤ some_count s.untold)
  reply-range agent Nothing s = (omega arith, omega arith)
  reply-range agent (Update cwnd) s = (omega arith, omega arith)
  reply-range agent (Change program cwnd cap_value) s = (omega arith, omega arith)

-- ---- the ticket is closed, and the reply obeyed

module _ (source : SourceCase) (s : State) (issued : Issued) (agent : Agent) (reply : Reply) (closed new : State)
    (out : s.out ≡ Some issued)
    (turned : (agent, reply) ≡ replied s.agent issued.told)
    (tickets : closed.tickets ≡ s.tickets ++ answered_line issued s.acks reply ∷ [])
    (framed : closed ≡ record s { agent = agent; out = None; tickets = closed.tickets })
    (obeys : Obeys source s.agent reply closed new) where
  abbrev flow : Flow Place
  flow = flow_over_sources source

  abbrev line : TicketLine
  line = answered_line issued s.acks reply

  -- what the reply leaves
  framed-new : new ≡ record s { agent = agent; out = None; tickets = closed.tickets; present = new.present; untold = new.untold; epochs = new.epochs }
  framed-new = obeys.frame ∙ (λ i. record (framed i) { present = new.present; untold = new.untold; epochs = new.epochs })

  step-closed : summary_in closed ≡ record (summary_in s) { agent = agent; out = None; answered = length s.tickets + 1; told = report_count s.tickets + reports_told issued.told }
  step-closed =
      ap summary_in framed
      ∙ (λ i. record (summary_in s) {
        agent = agent;
        out = None;
        answered = (ap length tickets ∙ length-append s.tickets (line ∷ [])) i;
        told = (ap report_count tickets ∙ count-append s.tickets line) i;
      })

  step-settled : summary_in new ≡ step_answer flow (summary_in s)
  step-settled =
      obeys.step
      ∙ ap (step_reply flow s.agent reply) step-closed
      ∙ ap (λ (turn : Agent × Reply). step_turn flow issued turn (summary_in s)) turned
      ∙ ap (λ (o : Option Issued). step_out flow o (summary_in s)) (sym out)

  pub at-settled : (w : World Place) → IsAt flow s w → IsAt flow new (after_answer flow w)
  at-settled w at =
      let kept : summary_in new ≡ summary flow (after_answer flow w) = step-settled ∙ ap (step_answer flow) at.kept ∙ sym (summary-answer flow w) in
      record {
        kept = kept;
        tickets =
            ap (λ (p : State). p.tickets) framed-new
            ∙ tickets
            ∙ (λ i. s.tickets ++ answered_line issued s.acks (turned i).1 ∷ [])
            ∙ (λ i. s.tickets ++ lines_closed s.agent s.acks (sym out i))
            ∙ (λ i. at.tickets i ++ lines_closed (at.kept i).agent (at.kept i).acks (at.kept i).out)
            ∙ sym (answer-tickets flow w.out w);
        epochs =
            obeys.epochs
            ∙ (λ i. (framed i).epochs ++ epochs_started (turned i).1 (summary_in new))
            ∙ (λ i. s.epochs ++ epochs_started (reply_to s.agent (sym out i)) (summary_in new))
            ∙ (λ i. at.epochs i ++ epochs_started (reply_to (at.kept i).agent (at.kept i).out) (kept i))
            ∙ sym (answer-epochs flow w.out w);
        faults = ap (λ (p : State). map failure_of p.faults) framed-new ∙ at.faults ∙ sym (ap (λ (p : List (Failure Place) × List ℕ). p.0) (answer-same flow w.out w));
        stands =
            subst (λ (l : LinkState). Stands l (after_answer flow w).windows) (sym (ap (λ (p : State). p.link) framed-new))
            (subst (λ (windows : List ℕ). Stands s.link windows) (sym (ap (λ (p : List (Failure Place) × List ℕ). p.1) (answer-same flow w.out w))) at.stands);
      }

  pub sound-settled : IsSourceSound source s → IsSourceSound source new
  sound-settled sound =
      let literal : State = record s { agent = agent; out = None; tickets = closed.tickets; present = new.present; untold = new.untold; epochs = new.epochs } in
      let more : length closed.tickets ≡ length s.tickets + 1 = ap length tickets ∙ length-append s.tickets (line ∷ []) in
      let one : some_count s.out ≡ 1 = ap some_count out in
      let range = reply-range flow s.agent reply (summary_in closed) in
      let epoch : new.present.epoch.number ≡ (step_reply flow s.agent reply (summary_in closed)).epoch = ap (λ (k : Summary). k.epoch) obeys.step in
      let untold : some_count new.untold ≡ some_count (step_reply flow s.agent reply (summary_in closed)).untold = ap (λ (k : Summary). some_count k.untold) obeys.step in
      let number : closed.present.epoch.number ≡ s.present.epoch.number = ap (λ (p : State). p.present.epoch.number) framed in
      let before : some_count closed.untold ≡ some_count s.untold = ap (λ (p : State). some_count p.untold) framed in
      let whole : IsSourceSound source literal = record {
        matched = sound.matched;
        shape = obeys.shape;
        spare = obeys.spare;
        roles =
            subst (λ (pair : Agent × Reply). AreRoles source.case.now.ss.role source.case.now.ca.role (course_of pair.0)) (sym turned)
            (roles-kept source.case.now.ss.role source.case.now.ca.role s.agent issued.told sound.roles);
        link = sound.link;
        calls = sound.calls;
        acks = sound.acks;
        tickets = omega (arith, sound.tickets, one, more, range.1, untold, before);
        epochs = omega (arith, sound.epochs, more, range.0, epoch, number);
        held = sound.held;
      } in
      subst (λ (p : State). IsSourceSound source p) (sym framed-new) whole
