-- What `shared` makes of its cases: the table of their rows, and the numbers of the link's packets.
use Rattle.std.specs.Prelude.{◌≡◌, ℕ, Ok, Err, List, [], map, codes, decimal}
use Rattle.std.specs.List.{All}
use Rattle.ccp_base.specs.Text.{◌⧺◌}
use Rattle.campaign_report.specs.TableText.{table_text}
use Rattle.flow_core.specs.declared.case.Case.{Case}
use Rattle.flow_core.specs.LiveText.{flow_from}
use Rattle.reg_compiler.specs.declared.built.Built.{Built}
use Rattle.scene_faults.specs.declared.fault.SceneFault.{SceneFault}
use Rattle.scene_core.specs.declared.scene.SharedScene.{SharedScene}
use Rattle.scene_core.specs.CasePlans.{plan_of, AreFlowsFrom}
use Rattle.scenario_json.specs.Cases.{case_names, IsCoded}
use Rattle.scenario_json.specs.Scene.{scene_with}
use Rattle.reg_compiler.specs.Sources.{sources_of}
use Rattle.scenario_json.specs.SharedScenes.{SharedParts, shared_with, shared_scene_of}
use Rattle.shared_link.specs.declared.round.Counts.{Counts}
use Rattle.shared_link.specs.declared.shared_case.SharedCase.{SharedCase}
use Rattle.shared_run.specs.SharedHistory.{shared_rows, shared_counts}
use Rattle.run_ending.specs.declared.outcome.ModeOutput.{ModeOutput}
use Rattle.run_ending.specs.declared.refusal.Limit.TheVariants.{Input}
use Rattle.run_ending.specs.declared.stop.Stop.{Stop}
use Rattle.ccp_run.specs.Campaign.{case_agents}
use Rattle.ccp_run.specs.Rules.{Rules, reads_whole}
use Rattle.ccp_run.specs.Scenes.{IsOfScene, SaysSomething, StopsFor}

-- ---- the input

-- bytes are the text of a scenario of flows on one link, which says this
abbrev pub SaysShared : List ℕ → SharedParts → Type 0
SaysShared bytes parts = shared_scene_of bytes ≡ Ok parts

-- bytes are such a text, and these are its programs and cases, its link, and the most rounds
pub record IsSharedScenario (bytes : List ℕ) (programs : List (ℕ × Built)) (cases : List Case) (link : SharedCase)
    (rounds : ℕ) : Type 0 where
  pub text : SaysShared bytes (shared_with (scene_with (sources_of programs) (map plan_of cases)) link rounds)
  pub coded : All (IsCoded programs) cases
  pub flows : AreFlowsFrom 0 cases

-- bytes are no such text, and this is the first fault
abbrev pub HasSharedFault : List ℕ → SceneFault → Type 0
HasSharedFault bytes fault = shared_scene_of bytes ≡ Err fault

-- why there is no such scenario; out of memory is left open
abbrev pub StopsShared : List ℕ → Stop → Type 0
StopsShared bytes = StopsFor (HasSharedFault bytes)

-- ---- the output

-- the rounds and the packets of a link
abbrev pub link_line : Counts → List ℕ
link_line counts =
    codes "link rounds=" ⧺ decimal counts.rounds ⧺ codes " sent=" ⧺ decimal counts.sent
    ⧺ codes " acked=" ⧺ decimal counts.acked ⧺ codes " lost=" ⧺ decimal counts.lost
    ⧺ codes " inflight=" ⧺ decimal counts.inflight ⧺ codes "\n"

-- the line of the link of cases of these programs, read over the programs' sources
abbrev pub run_line : List (ℕ × Built) → List Case → SharedCase → ℕ → List ℕ
run_line programs cases link rounds = link_line (shared_counts link (flow_from (sources_of programs)) cases rounds)

-- the table of cases of these programs over their link, read over the programs' sources, and the link's line
abbrev pub shared_text : List (ℕ × Built) → List Case → SharedCase → ℕ → List ℕ
shared_text programs cases link rounds =
    table_text (case_names cases) (case_agents cases) (shared_rows link (flow_from (sources_of programs)) cases rounds)
    ⧺ run_line programs cases link rounds

-- that text of a scenario that was read
abbrev pub text_of_scene : SharedScene → List ℕ
text_of_scene scene = shared_text scene.scene.programs scene.scene.cases scene.link scene.rounds

-- the output is that text of the scenario's cases
pub record IsSharedOutput (bytes : List ℕ) (output : ModeOutput) : Type 0 where
  pub programs : List (ℕ × Built)
  pub cases : List Case
  pub link : SharedCase
  pub rounds : ℕ
  pub scenario : IsSharedScenario bytes programs cases link rounds
  pub written : output.text ≡ shared_text programs cases link rounds
  pub no_books : output.books ≡ []
  pub no_programs : output.programs ≡ []
  pub idle : output.ran ≡ 0

abbrev pub shared_rules : Rules
shared_rules =
    reads_whole Input (λ bytes. SaysSomething (SaysShared bytes)) IsSharedOutput
    (λ bytes. IsOfScene (HasSharedFault bytes))
