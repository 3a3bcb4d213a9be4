-- Each text is a scenario's, or has one first refusal; so a mode whose inputs are scenarios has what the theorem asks of it.
use Rattle.std.proofs.Common.{◌≡◌, ◌≢◌, ◌⊎◌, inl, inr, ℕ, List, Option, Some, None, Result, Ok, Err, ap, sym, subst, refl}
use Rattle.ccp_base.specs.Outside.{no_memory}
use Rattle.reg_compiler.specs.declared.built.Built.{Built}
use Rattle.flow_core.specs.declared.case.Case.{Case}
use Rattle.scene_members.specs.declared.mode.SceneMode.{SceneMode}
use Rattle.scenario_json.specs.Scene.{scene_of}
use Rattle.scene_faults.specs.declared.fault.SceneFault.{SceneFault}
use Rattle.scene_faults.specs.declared.fault.SceneFault.TheVariants as scene
use Rattle.run_ending.specs.declared.outcome.ModeOutput.{ModeOutput}
use Rattle.run_ending.specs.declared.refusal.Limit.TheVariants.{Input}
use Rattle.run_ending.specs.declared.refusal.Refusal.{Refusal}
use Rattle.run_ending.specs.declared.refusal.Refusal.TheVariants.{TooLong, NoSeparator, Program, Line, TooManyAcks, Scene as SceneRefused, Frame, FrameCut}
use Rattle.run_ending.specs.declared.stop.Stop.{Stop}
use Rattle.run_ending.specs.SceneStops.{scene_stop}
use Rattle.ccp_run.specs.Rules.{Rules, reads_whole}
use Rattle.ccp_run.specs.Scenes.{IsOfScene, SaysSomething, StopsFor, IsScenario, IsSceneOutput, Telling, scene_rules}
use Rattle.ccp_run.proofs.ModeLaws.{IsMode, reads_to_end, settled_by}

-- ---- why there is no scenario

stops_of : (has : SceneFault → Type 0) (fault : SceneFault) → (fault ≢ scene.NoMemory no_memory → has fault) → StopsFor has (scene_stop fault)
stops_of has scene.Json h = h (λ e. cc)
stops_of has (scene.Missing path) h = h (λ e. cc)
stops_of has (scene.Wrong path) h = h (λ e. cc)
stops_of has (scene.Range path) h = h (λ e. cc)
stops_of has (scene.Program name fault) h = h (λ e. cc)
stops_of has (scene.Trace name fault) h = h (λ e. cc)
stops_of has scene.Totals h = h (λ e. cc)
stops_of has (scene.NoMemory _) h = tt

-- a mode stops for the fault of its scenario
pub scene_stops : (has : SceneFault → Type 0) (fault : SceneFault) (stop : Stop) → stop ≡ scene_stop fault → (fault ≢ scene.NoMemory no_memory → has fault) → StopsFor has stop
scene_stops has fault stop is h = subst (λ (s : Stop). StopsFor has s) (sym is) (stops_of has fault h)

-- ---- modes

-- the refusal of what was read, if it is a fault
abbrev pub refusal_in : {Said : Type 0} → Result Said SceneFault → Option Refusal
refusal_in (Ok said) = None
refusal_in (Err fault) = Some (SceneRefused fault)

-- a mode whose inputs are the texts of which this function reads something
module _ {Said : Type 0} (read : List ℕ → Result Said SceneFault) where
  some_read : (bytes : List ℕ) (came : Result Said SceneFault) → read bytes ≡ came
      → SaysSomething (λ (said : Said). read bytes ≡ Ok said) ⊎ ((refusal : Refusal) × IsOfScene (λ fault. read bytes ≡ Err fault) refusal)
  some_read bytes (Ok said) is = inl (said, is)
  some_read bytes (Err fault) is = inr (SceneRefused fault, is)

  one_read : (bytes : List ℕ) (refusal : Refusal) → IsOfScene (λ fault. read bytes ≡ Err fault) refusal → refusal_in (read bytes) ≡ Some refusal
  one_read bytes (SceneRefused fault) is = ap refusal_in is
  one_read bytes (TooLong limit) is = absurd is
  one_read bytes NoSeparator is = absurd is
  one_read bytes (Program fault) is = absurd is
  one_read bytes (Line n) is = absurd is
  one_read bytes TooManyAcks is = absurd is
  one_read bytes (Frame field place) is = absurd is
  one_read bytes (FrameCut place) is = absurd is

  pub text_mode : (Makes : List ℕ → ModeOutput → Type 0)
      → ((bytes : List ℕ) (output : ModeOutput) → Makes bytes output → SaysSomething (λ (said : Said). read bytes ≡ Ok said))
      → IsMode (reads_whole Input (λ bytes. SaysSomething (λ (said : Said). read bytes ≡ Ok said)) Makes (λ bytes. IsOfScene (λ fault. read bytes ≡ Err fault)))
  text_mode Makes made =
      let rules : Rules = reads_whole Input (λ bytes. SaysSomething (λ (said : Said). read bytes ≡ Ok said)) Makes (λ bytes. IsOfScene (λ fault. read bytes ≡ Err fault)) in
      reads_to_end Input (λ bytes. SaysSomething (λ (said : Said). read bytes ≡ Ok said)) Makes (λ bytes. IsOfScene (λ fault. read bytes ≡ Err fault))
      (λ bytes. settled_by rules bytes (refusal_in (read bytes)) (some_read bytes (read bytes) refl) (λ input. ap refusal_in input.1) (one_read bytes) (made bytes))

-- a mode whose inputs are scenarios, and what each of its outputs must show for one
pub scene_mode : (mode : SceneMode) (Tells : Telling) → IsMode (scene_rules mode (IsSceneOutput mode Tells))
scene_mode mode Tells =
    text_mode (scene_of mode) (IsSceneOutput mode Tells) (λ bytes output made. (_, made.scenario.text))

-- an output that shows what it must for a scenario's programs and cases, and keeps the programs, is an output for the scenario
pub of_cases : (mode : SceneMode) (Tells : Telling) (bytes : List ℕ) (programs : List (ℕ × Built)) (cases : List Case) (output : ModeOutput)
    → IsScenario mode bytes programs cases → output.programs ≡ programs → Tells programs cases output → IsSceneOutput mode Tells bytes output
of_cases mode Tells bytes programs cases output scenario kept tells = record {
  cases = cases;
  scenario = subst (λ (ps : List (ℕ × Built)). IsScenario mode bytes ps cases) (sym kept) scenario;
  tells = subst (λ (ps : List (ℕ × Built)). Tells ps cases output) (sym kept) tells;
}
