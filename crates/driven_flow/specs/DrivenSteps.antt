-- What the letters of a driven flow make of the program that runs, and the summary that this stands for.
use Rattle.std.specs.Prelude.{◌≡◌, ◌≤◌, Bool, true, nat_lt, Option, Some, None, option_map}
use Rattle.campaign_core.specs.BareLetters.{due_to}
use Rattle.flow_core.specs.declared.running.Issued.{Issued}
use Rattle.flow_core.specs.declared.running.Running.{Running}
use Rattle.flow_core.specs.Readings.{Flow}
use Rattle.flow_core.specs.Runnings.{RunsOn, running_by, step_closed, step_values}
use Rattle.flow_core.specs.Summaries.{Summary, summary_with, on_running}
use Rattle.driven_flow.specs.declared.case.DrivenCase.{DrivenCase}
use Rattle.driven_flow.specs.Driven.{Codes, unasked, over_codes, code_in, is_known, Given}

-- the summary that is kept; its agent is never asked
abbrev pub summary_by : Running → Summary
summary_by s = summary_with unasked (running_by s)

-- one of the programs runs, and no more acknowledgements are in than the case has
pub record IsDrivenBy (programs : Codes) (case : DrivenCase) (s : Running) : Type 0 where
  pub present : is_known programs s.epoch.program ≡ true
  pub runs : RunsOn (code_in programs) case.slots s
  pub acks : s.acks ≤ case.acks

-- the ticket that is out is answered
abbrev pub step_out : {X : Type 0} → Flow X → Given → Option Issued → Summary → Summary
step_out flow given None s = s
step_out flow given (Some issued) s =
    on_running (λ running. step_values flow given.program given.values (step_closed issued.told running)) s

abbrev pub step_given : {X : Type 0} → Flow X → Given → Summary → Summary
step_given flow given s = step_out flow given s.out s

-- what runs after an answer
pub record Obeys (programs : Codes) (case : DrivenCase) (given : Given) (old new : Running) : Type 0 where
  pub present : is_known programs new.epoch.program ≡ true
  pub runs : RunsOn (code_in programs) case.slots new
  pub step : running_by new ≡ step_values (over_codes programs case) given.program given.values (running_by old)

-- ---- when an answer is due

abbrev pub is_due_by : DrivenCase → Summary → Bool
is_due_by case s =
    due_to (nat_lt s.acks case.acks) case.lag s.acks (option_map (λ (issued : Issued). issued.taken) s.out)
