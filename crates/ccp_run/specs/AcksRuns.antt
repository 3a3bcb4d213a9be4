-- What `acks` makes of its cases: the lines of the acknowledgements of each on its campaign word.
use Rattle.std.specs.Prelude.{◌≡◌, ℕ, List, [], map}
use Rattle.ccp_base.specs.declared.ack.Ack.{Ack}
use Rattle.reg_compiler.specs.declared.built.Built.{Built}
use Rattle.flow_core.specs.declared.case.Case.{Case}
use Rattle.reg_compiler.specs.Sources.{Sources, sources_of}
use Rattle.flow_core.specs.LiveText.{flow_from}
use Rattle.campaign_gate.specs.CampaignBooks.{acks_read}
use Rattle.campaign_report.specs.AcksText.{acks_text}
use Rattle.scene_members.specs.declared.mode.SceneMode.TheVariants as scene
use Rattle.scenario_json.specs.Cases.{case_names}
use Rattle.run_ending.specs.declared.outcome.ModeOutput.{ModeOutput}
use Rattle.ccp_run.specs.Campaign.{case_agents}
use Rattle.ccp_run.specs.Rules.{Rules}
use Rattle.ccp_run.specs.Scenes.{IsSceneOutput, scene_rules}

-- the acknowledgements of a case on its campaign word, read over the sources of its programs
abbrev pub source_acks : Sources → Case → List Ack
source_acks sources case = acks_read (flow_from sources case) case.link case.lag

-- the lines of the acknowledgements of cases of these programs
abbrev pub acks_written : List (ℕ × Built) → List Case → List ℕ
acks_written programs cases =
    acks_text (case_names cases) (case_agents cases) (map (source_acks (sources_of programs)) cases)

-- the output is these lines
pub record TellsAcks (programs : List (ℕ × Built)) (cases : List Case) (output : ModeOutput) : Type 0 where
  pub written : output.text ≡ acks_written programs cases
  pub no_books : output.books ≡ []
  pub idle : output.ran ≡ 0

-- the output is these lines of the scenario's cases
abbrev pub IsAcksOutput : List ℕ → ModeOutput → Type 0
IsAcksOutput = IsSceneOutput scene.Live TellsAcks

abbrev pub acks_rules : Rules
acks_rules = scene_rules scene.Live IsAcksOutput
