-- What runs in a driven flow after each step stands for the summary after it.
use Rattle.std.specs.Prelude.{◌≡◌, ℕ, ◌+◌, ◌<◌, ◌≤◌, ◌&&◌, Bool, true, false, is_none, is_some, option_map, Option, Some, None, List, refl}
use Rattle.std.proofs.Common.{ap, sym, ◌∙◌, subst, arith}
use Rattle.ccp_base.specs.FieldReg.{Pair}
use Rattle.ccp_base.specs.declared.ack.Ack.{Ack}
use Rattle.reg_code.specs.declared.code.Code.{Code}
use Rattle.fold_machine.specs.MachineState.{Fits}
use Rattle.flow_core.specs.declared.running.Issued.{Issued}
use Rattle.flow_core.specs.declared.running.Running.{Running}
use Rattle.flow_core.specs.Runnings.{RunningSummary, IsRunning, RunsOn, out_by, running_by, running_at_start, started_env, step_run, step_issue, step_values, step_closed, closed}
use Rattle.flow_core.specs.Summaries.{summary, summary_with, step_ack}
use Rattle.flow_core.proofs.RunningLemmas.{issued-out, runs-on, issued-same}
use Rattle.driven_flow.specs.declared.case.DrivenCase.{DrivenCase}
use Rattle.driven_flow.specs.Driven.{Codes, unasked, over_codes, code_in, is_known, initial_window, begun, Given}
use Rattle.driven_flow.specs.DrivenSteps.{summary_by, IsDrivenBy, step_out, step_given, Obeys}

-- what may be taken, part by part
pub none-out : (out : Option Issued) (can : Bool) → (is_none out && can) ≡ true → out ≡ None
none-out None can may = refl
none-out (Some issued) can may = absurd (let wrong : false ≡ true = may in (cc))

pub can-be : (out : Option Issued) (can : Bool) → (is_none out && can) ≡ true → can ≡ true
can-be None can may = may
can-be (Some issued) can may = absurd (let wrong : false ≡ true = may in (cc))

pub told-issued : (s : Running) → s.taken ≡ Some s.acks → option_map (λ (issued : Issued). issued.told) (out_by s) ≡ Some s.content
told-issued s taken =
    ap (λ (o : Option ℕ). option_map (λ (issued : Issued). issued.told) (option_map (λ (n : ℕ). record { told = s.content; taken = n }) o)) taken

module _ (programs : Codes) (case : DrivenCase) (s : Running) (driven : IsDrivenBy programs case s) where
  -- a step that keeps the program and its code
  pub is-stepped : (new : Running) → IsRunning new → new.epoch.program ≡ s.epoch.program → Fits new.machine (code_in programs s.epoch.program)
      → new.outbox.size ≡ s.outbox.size → new.acks ≤ case.acks → IsDrivenBy programs case new
  is-stepped new is program fits size acks = record {
    present = ap (is_known programs) program ∙ driven.present;
    runs = runs-on (code_in programs) case.slots s new driven.runs is program fits size;
    acks = acks;
  }

  -- ---- a taking

  pub is-issued : (new : Running) → IsRunning new → ((code : Code) → Fits s.machine code → Fits new.machine code)
      → new.outbox.size ≡ s.outbox.size → running_by new ≡ step_issue (running_by s) → IsDrivenBy programs case new
  is-issued new is fits size step =
      let same = issued-same s new step in
      let acks = same.1 in
      let few = driven.acks in
      is-stepped new is same.0 (fits (code_in programs s.epoch.program) driven.runs.fits) size (omega (arith, acks, few))

  -- ---- an acknowledgement

  module _ (ack : Ack) (code : Code) (is_code : code ≡ code_in programs s.epoch.program) (new : Running)
      (step : running_by new ≡ step_run code case.flow s.outbox.size ack (running_by s)) where
    pub step-heard : summary_by new ≡ step_ack (over_codes programs case) ack (summary_by s)
    step-heard =
        ap (summary_with unasked) step
        ∙ (λ i. summary_with unasked (step_run (is_code i) case.flow (driven.runs.size i) ack (running_by s)))

    pub is-heard : s.acks < case.acks → IsRunning new → Fits new.machine code → new.outbox.size ≡ s.outbox.size → IsDrivenBy programs case new
    is-heard left is fits size =
        let count : new.acks ≡ s.acks + 1 = ap (λ (r : RunningSummary). r.acks) step in
        is-stepped new is (ap (λ (r : RunningSummary). r.program) step) (subst (Fits new.machine) is_code fits) size (omega (arith, left, count))

  -- ---- an answer

  values-acks : (program : Option ℕ) (values : List Pair) (r : RunningSummary) → (step_values (over_codes programs case) program values r).acks ≡ r.acks
  values-acks None values r = refl
  values-acks (Some program) values r = refl

  module _ (out : is_some (out_by s) ≡ true) (shut new : Running) (given : Given) (framed : shut ≡ closed s) (obeys : Obeys programs case given shut new) where
    stepped : running_by new ≡ step_values (over_codes programs case) given.program given.values (step_closed s.content (running_by s))
    stepped = obeys.step ∙ ap (λ (r : Running). step_values (over_codes programs case) given.program given.values (running_by r)) framed

    pub step-settled : summary_by new ≡ step_given (over_codes programs case) given (summary_by s)
    step-settled =
        ap (summary_with unasked) stepped
        ∙ ap (λ (o : Option Issued). step_out (over_codes programs case) given o (summary_by s)) (sym (issued-out s out))

    pub is-settled : IsDrivenBy programs case new
    is-settled =
        let acks : new.acks ≡ s.acks =
        ap (λ (r : RunningSummary). r.acks) stepped ∙ values-acks given.program given.values (step_closed s.content (running_by s)) in
        let few = driven.acks in
        record { present = obeys.present; runs = obeys.runs; acks = omega (arith, acks, few) }

-- ---- the first change

module _ (programs : Codes) (case : DrivenCase) (program : ℕ) (values : List Pair) (code : Code) (cwnd : ℕ) (s : Running)
    (is_code : code ≡ code_in programs program) (start : running_by s ≡ running_at_start program (started_env code values cwnd 0 0)) where
  pub summary-open : cwnd ≡ initial_window case.link.mss
      → summary_by s ≡ summary (over_codes programs case) (begun (over_codes programs case) case.link.mss program values)
  summary-open is_cwnd =
      ap (summary_with unasked) start
      ∙ (λ i. summary_with unasked (running_at_start program (started_env (is_code i) values (is_cwnd i) 0 0)))

  pub is-open : IsRunning s → Fits s.machine code → s.outbox.size ≡ case.slots → is_known programs program ≡ true → IsDrivenBy programs case s
  is-open is fits size known =
      let same : s.epoch.program ≡ program = ap (λ (r : RunningSummary). r.program) start in
      let none : s.acks ≡ 0 = ap (λ (r : RunningSummary). r.acks) start in
      record {
        present = ap (is_known programs) same ∙ known;
        runs = record {
          running = is;
          fits = subst (λ (n : ℕ). Fits s.machine (code_in programs n)) (sym same) (subst (Fits s.machine) is_code fits);
          size = size;
        };
        acks = omega (arith, none);
      }

-- ---- values are written, or start a program

pub runs-updated : (programs : Codes) (case : DrivenCase) (code : Code) (old new : Running) → RunsOn (code_in programs) case.slots old
    → code ≡ code_in programs old.epoch.program → new.epoch.program ≡ old.epoch.program → IsRunning new → Fits new.machine code
    → new.outbox.size ≡ old.outbox.size → RunsOn (code_in programs) case.slots new
runs-updated programs case code old new runs is_code program is fits size =
    runs-on (code_in programs) case.slots old new runs is program (subst (Fits new.machine) is_code fits) size

pub runs-started : (programs : Codes) (case : DrivenCase) (code : Code) (program : ℕ) (old new : Running) → RunsOn (code_in programs) case.slots old
    → code ≡ code_in programs program → new.epoch.program ≡ program → IsRunning new → Fits new.machine code
    → new.outbox.size ≡ old.outbox.size → RunsOn (code_in programs) case.slots new
runs-started programs case code program old new runs is_code same is fits size = record {
  running = is;
  fits = subst (λ (n : ℕ). Fits new.machine (code_in programs n)) (sym same) (subst (Fits new.machine) is_code fits);
  size = size ∙ runs.size;
}
