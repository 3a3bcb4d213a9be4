-- The inputs of the modes that run scenarios, and what a text that is none is refused for.
use Rattle.std.specs.Prelude.{◌≡◌, ℕ, Ok, Err, List, map}
use Rattle.std.specs.List.{All}
use Rattle.flow_core.specs.declared.case.Case.{Case}
use Rattle.reg_compiler.specs.declared.built.Built.{Built}
use Rattle.scene_members.specs.declared.mode.SceneMode.{SceneMode}
use Rattle.scene_core.specs.CasePlans.{plan_of, AreFlowsFrom}
use Rattle.scenario_json.specs.Cases.{IsCoded}
use Rattle.scenario_json.specs.Scene.{Scene, scene_with, scene_of}
use Rattle.reg_compiler.specs.Sources.{sources_of}
use Rattle.scene_faults.specs.declared.fault.SceneFault.{SceneFault}
use Rattle.run_ending.specs.declared.outcome.ModeOutput.{ModeOutput}
use Rattle.run_ending.specs.declared.refusal.Limit.TheVariants.{Input}
use Rattle.run_ending.specs.declared.refusal.Refusal.{Refusal}
use Rattle.run_ending.specs.declared.refusal.Refusal.TheVariants as refusal
use Rattle.run_ending.specs.declared.stop.Stop.{Stop}
use Rattle.run_ending.specs.declared.stop.Stop.TheVariants as stop
use Rattle.ccp_run.specs.Rules.{Rules, reads_whole}

-- bytes are a scenario's text, which says this
abbrev pub Says : SceneMode → List ℕ → Scene → Type 0
Says mode bytes scene = scene_of mode bytes ≡ Ok scene

-- bytes are a scenario's text, and these are its programs and cases
pub record IsScenario (mode : SceneMode) (bytes : List ℕ) (programs : List (ℕ × Built))
    (cases : List Case) : Type 0 where
  pub text : Says mode bytes (scene_with (sources_of programs) (map plan_of cases))
  pub coded : All (IsCoded programs) cases
  pub flows : AreFlowsFrom 0 cases

-- bytes say something, as texts of this kind do
abbrev pub SaysSomething : {Said : Type 0} → (Said → Type 0) → Type 0
SaysSomething {Said} says = (said : Said) × says said

-- the refusal is one of a scenario, and its fault has this property
abbrev pub IsOfScene : (SceneFault → Type 0) → Refusal → Type 0
IsOfScene has (refusal.Scene fault) = has fault
IsOfScene has _ = ⊥

-- why there is no scenario: such a refusal, or out of memory, which is left open
abbrev pub StopsFor : (SceneFault → Type 0) → Stop → Type 0
StopsFor has (stop.Refused refusal) = IsOfScene has refusal
StopsFor has stop.ReadFailed = ⊥
StopsFor has (stop.NoMemory _) = Unit {0}

-- bytes are no scenario's text, and this is the first fault
abbrev pub HasFault : SceneMode → List ℕ → SceneFault → Type 0
HasFault mode bytes fault = scene_of mode bytes ≡ Err fault

-- bytes are no scenario's text, and this is their first refusal
abbrev pub IsNoScenario : SceneMode → List ℕ → Refusal → Type 0
IsNoScenario mode bytes = IsOfScene (HasFault mode bytes)

-- why there is no scenario; out of memory is left open
abbrev pub StopsScene : SceneMode → List ℕ → Stop → Type 0
StopsScene mode bytes = StopsFor (HasFault mode bytes)

-- what an output must show for programs and cases
abbrev pub Telling : Type 1
Telling = List (ℕ × Built) → List Case → ModeOutput → Type 0

-- the bytes are a scenario's text; the output keeps its programs, and shows what it must for them and the scenario's
-- cases
pub record IsSceneOutput (mode : SceneMode) (Tells : Telling) (bytes : List ℕ) (output : ModeOutput) : Type 0 where
  pub cases : List Case
  pub scenario : IsScenario mode bytes output.programs cases
  pub tells : Tells output.programs cases output

-- the rules of a mode whose inputs are scenarios, and which makes this of them
abbrev pub scene_rules : SceneMode → (List ℕ → ModeOutput → Type 0) → Rules
scene_rules mode made = reads_whole Input (λ bytes. SaysSomething (Says mode bytes)) made (IsNoScenario mode)
