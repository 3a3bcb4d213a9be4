-- What is kept of a flow with its agent after each step is the summary after it.
use Rattle.std.specs.Prelude.{◌≡◌, ℕ, ◌+◌, ◌<◌, ◌≤◌, true, is_some, Option, Some, None, option_map, unwrap_or, List, refl}
use Rattle.std.proofs.Common.{ap, sym, ◌∙◌, subst, arith}
use Rattle.std.proofs.lemmas.Option.{none-some}
use Rattle.ccp_base.specs.FieldReg.{Pair}
use Rattle.ccp_base.specs.declared.ack.Ack.{Ack}
use Rattle.ccp_base.specs.declared.exchange.Reply.{Reply}
use Rattle.ccp_base.specs.declared.exchange.Reply.TheVariants.{Nothing, Update, Change}
use Rattle.ccp_base.specs.declared.exchange.Told.{Told}
use Rattle.reg_code.specs.declared.code.Code.{Code}
use Rattle.fold_machine.specs.MachineState.{Fits}
use Rattle.agent_core.specs.declared.agent.Agent.{Agent}
use Rattle.agent_core.specs.declared.ticket.Ticket.{Ticket}
use Rattle.agent_core.specs.Agents.{course_of, replied, values_of}
use Rattle.agent_core.proofs.ReplyLemmas.{roles-kept, values-kept}
use Rattle.flow_core.specs.declared.bare.BareParts.{BareParts}
use Rattle.flow_core.specs.declared.case.Case.{Case}
use Rattle.flow_core.specs.declared.running.Issued.{Issued}
use Rattle.flow_core.specs.declared.running.Running.{Running}
use Rattle.flow_core.specs.Readings.{Flow, code_at, over_codes}
use Rattle.flow_core.specs.World.{opening}
use Rattle.flow_core.specs.Runnings.{RunningSummary, out_by, running_by, IsRunning, step_run, step_closed, closed}
use Rattle.flow_core.specs.Summaries.{summary, summary_with, step_ack, step_obeyed, step_out, step_answer}
use Rattle.flow_core.specs.Bares.{summary_by, told_ticket, IsBare, IsFirst, Obeys}
use Rattle.flow_core.proofs.RunningLemmas.{issued-out, runs-on}

-- a step that keeps the program and its code, and adds at most one acknowledgement
module _ (s : BareParts) (parts : IsBare s) (new : Running) (is : IsRunning new) (program : new.epoch.program ≡ s.running.epoch.program)
    (fits : Fits new.machine (code_at s.case s.running.epoch.program)) (size : new.outbox.size ≡ s.running.outbox.size) where
  pub is-stepped : new.acks ≤ s.case.acks → IsBare (record s { running = new })
  is-stepped acks = record {
    runs = runs-on (code_at s.case) s.case.slots s.running new parts.runs is program fits size;
    ss = parts.ss;
    ca = parts.ca;
    acks = acks;
  }

-- ---- an acknowledgement

module _ (s : BareParts) (parts : IsBare s) (ack : Ack) (code : Code) (is_code : code ≡ code_at s.case s.running.epoch.program) (new : Running)
    (step : running_by new ≡ step_run code s.case.flow s.running.outbox.size ack (running_by s.running)) where
  pub step-heard : summary_by (record s { running = new }) ≡ step_ack (over_codes s.case) ack (summary_by s)
  step-heard =
      ap (summary_with s.agent) step
      ∙ (λ i. summary_with s.agent (step_run (is_code i) s.case.flow (parts.runs.size i) ack (running_by s.running)))

  pub is-heard : s.running.acks < s.case.acks → IsRunning new → Fits new.machine code → new.outbox.size ≡ s.running.outbox.size
      → IsBare (record s { running = new })
  is-heard left is fits size =
      let count : new.acks ≡ s.running.acks + 1 = ap (λ (r : RunningSummary). r.acks) step in
      is-stepped s parts new is (ap (λ (r : RunningSummary). r.program) step) (subst (Fits new.machine) is_code fits) size (omega (arith, left, count))

-- ---- an answer

-- a reply leaves the count of acknowledgements
obeyed-acks : {X : Type 0} → (flow : Flow X) (reply : Reply) (values : List Pair) (s : RunningSummary) → (step_obeyed flow reply values s).acks ≡ s.acks
obeyed-acks flow Nothing values s = refl
obeyed-acks flow (Update cwnd) values s = refl
obeyed-acks flow (Change program cwnd cap_value) values s = refl

-- the ticket was closed and the agent's reply obeyed
module _ (s : BareParts) (parts : IsBare s) (some : is_some (out_by s.running) ≡ true) (shut new : Running) (agent : Agent) (reply : Reply)
    (turn : (agent, reply) ≡ replied s.agent s.running.content) (framed : shut ≡ closed s.running)
    (obeys : Obeys s.case reply (values_of s.agent reply) shut new) where
  abbrev flow : Flow ℕ
  flow = over_codes s.case

  stepped : running_by new ≡ step_obeyed flow reply (values_of s.agent reply) (step_closed s.running.content (running_by s.running))
  stepped = obeys.step ∙ ap (λ (r : Running). step_obeyed flow reply (values_of s.agent reply) (running_by r)) framed

  pub step-settled : summary_by (record s { agent = agent; running = new }) ≡ step_answer flow (summary_by s)
  step-settled =
      ap (summary_with agent) stepped
      ∙ (λ i. summary_with (turn i).0 (step_obeyed flow (turn i).1 (values_of s.agent (turn i).1) (step_closed s.running.content (running_by s.running))))
      ∙ ap (λ (o : Option Issued). step_out flow o (summary_by s)) (sym (issued-out s.running some))

  pub is-settled : IsBare (record s { agent = agent; running = new })
  is-settled =
      let roles = roles-kept s.case.ss.role s.case.ca.role s.agent s.running.content (record { ss_same = parts.ss; ca_same = parts.ca }) in
      let same : (replied s.agent s.running.content).0 ≡ agent = ap (λ (t : Agent × Reply). t.0) (sym turn) in
      let acks : new.acks ≡ s.running.acks =
      ap (λ (r : RunningSummary). r.acks) stepped ∙ obeyed-acks flow reply (values_of s.agent reply) (step_closed s.running.content (running_by s.running)) in
      let few = parts.acks in
      record {
        runs = obeys.runs;
        ss = ap (λ (a : Agent). (course_of a).ss) (sym same) ∙ roles.ss_same;
        ca = ap (λ (a : Agent). (course_of a).ca) (sym same) ∙ roles.ca_same;
        acks = omega (arith, acks, few);
      }

-- an agent that replies where it stays writes the values that it wrote before
pub obeys-before : (case : Case) (before after : Agent) (told : Told) (reply : Reply) (old new : Running) → (after, reply) ≡ replied before told
    → Obeys case reply (values_of after reply) old new → Obeys case reply (values_of before reply) old new
obeys-before case before after told reply old new turn obeys =
    subst (λ (values : List Pair). Obeys case reply values old new)
    (ap (λ (t : Agent × Reply). values_of t.0 reply) turn ∙ values-kept before told reply) obeys

-- the ticket that is out, by what is kept
pub record Out (s : BareParts) (ticket : Ticket) : Type 0 where
  pub some : is_some (out_by s.running) ≡ true
  pub before : ticket.before ≡ s.agent
  pub told : ticket.told ≡ s.running.content

pub is-out : (s : BareParts) (ticket : Ticket) → told_ticket s.case (summary_by s) ≡ Some ticket → Out s ticket
is-out s ticket is = by s.running.taken is where
  ticket_for : Issued → Ticket
  ticket_for issued = record { flow = s.case.flow; number = s.running.answered; before = s.agent; told = issued.told }

  issued_at : ℕ → Issued
  issued_at taken = record { told = s.running.content; taken = taken }

  by : (taken : Option ℕ) → option_map ticket_for (option_map issued_at taken) ≡ Some ticket
      → Out (record s { running = record s.running { taken = taken } }) ticket
  by None is = absurd (none-some ticket is)
  by (Some taken) is =
      let equal : ticket_for (issued_at taken) ≡ ticket = ap (λ (o : Option Ticket). unwrap_or o ticket) is in
      record { some = refl; before = sym (ap (λ (t : Ticket). t.before) equal); told = sym (ap (λ (t : Ticket). t.told) equal) }

-- ---- the opening

module _ (case : Case) (running : Running) (first : IsFirst case running) where
  abbrev pub at_opening : BareParts
  at_opening = record { case = case; agent = case.agent; running = running }

  pub summary-open : summary_by at_opening ≡ summary (over_codes case) (opening (over_codes case))
  summary-open = ap (summary_with case.agent) first.start

  pub is-open : IsBare at_opening
  is-open =
      let none : running.acks ≡ 0 = ap (λ (r : RunningSummary). r.acks) first.start in
      record { runs = first.runs; ss = case.ss_role; ca = case.ca_role; acks = omega (arith, none) }

-- closing leaves the count of acknowledgements
pub closed-acks : (s : BareParts) (shut : Running) → IsBare s → shut ≡ closed s.running → shut.acks ≤ s.case.acks
closed-acks s shut parts framed =
    let same = ap (λ (r : Running). r.acks) framed in
    let few = parts.acks in
    omega (arith, same, few)
