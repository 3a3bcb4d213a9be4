-- What `rollout` makes of its cases, and the inputs that it refuses.
use Rattle.std.specs.Prelude.{◌≡◌, ℕ, Ok, Err, List, [], map}
use Rattle.std.specs.List.{All}
use Rattle.scene_faults.specs.declared.fault.SceneFault.{SceneFault}
use Rattle.scene_members.specs.declared.open_case.OpenCase.{OpenCase}
use Rattle.scene_members.specs.OpenCases.{open_plan_of, AreOpenFlowsFrom}
use Rattle.scene_members.specs.Rollout.{OpenPlan}
use Rattle.scenario_json.specs.Rollout.{rollout_of}
use Rattle.open_flow.specs.declared.letter.OpenLetter.{OpenLetter}
use Rattle.live_install.specs.RolloutText.{rollout_text}
use Rattle.live_install.specs.WholeBooks.{IsHistory}
use Rattle.run_ending.specs.declared.outcome.ModeOutput.{ModeOutput}
use Rattle.run_ending.specs.declared.refusal.Limit.TheVariants.{Input}
use Rattle.run_ending.specs.declared.stop.Stop.{Stop}
use Rattle.ccp_run.specs.Rules.{Rules, reads_whole}
use Rattle.ccp_run.specs.Scenes.{IsOfScene, SaysSomething, StopsFor}

-- bytes are the text of a rollout's scenario, and these are its cases
pub record IsRolloutScenario (bytes : List ℕ) (cases : List OpenCase) : Type 0 where
  pub text : rollout_of bytes ≡ Ok (map open_plan_of cases)
  pub flows : AreOpenFlowsFrom 0 cases

-- the output is the rollout text of a legal and complete word for each case, in order. Nothing says which words they
-- are.
pub record TellsRollout (cases : List OpenCase) (output : ModeOutput) : Type 0 where
  pub histories : List (OpenCase × List OpenLetter)
  pub each : map (λ (flow : OpenCase × List OpenLetter). flow.0) histories ≡ cases
  pub whole : All IsHistory histories
  pub written : output.text ≡ rollout_text histories
  pub no_books : output.books ≡ []
  pub no_programs : output.programs ≡ []
  pub idle : output.ran ≡ 0

pub record IsRolloutOutput (bytes : List ℕ) (output : ModeOutput) : Type 0 where
  pub cases : List OpenCase
  pub scenario : IsRolloutScenario bytes cases
  pub tells : TellsRollout cases output

-- bytes are no rollout's scenario, and this is the first fault
abbrev pub HasRolloutFault : List ℕ → SceneFault → Type 0
HasRolloutFault bytes fault = rollout_of bytes ≡ Err fault

-- why there is no such scenario; out of memory is left open
abbrev pub StopsRollout : List ℕ → Stop → Type 0
StopsRollout bytes = StopsFor (HasRolloutFault bytes)

-- bytes are a rollout's scenario, which says these plans
abbrev pub SaysRollout : List ℕ → List OpenPlan → Type 0
SaysRollout bytes plans = rollout_of bytes ≡ Ok plans

abbrev pub rollout_rules : Rules
rollout_rules =
    reads_whole Input (λ bytes. SaysSomething (SaysRollout bytes)) IsRolloutOutput
    (λ bytes. IsOfScene (HasRolloutFault bytes))
