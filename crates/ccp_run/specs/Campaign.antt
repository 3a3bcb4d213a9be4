-- What `campaign` makes of its cases: the table of their rows.
use Rattle.std.specs.Prelude.{◌≡◌, ℕ, Bool, true, false, List, [], map}
use Rattle.ccp_base.specs.Text.{◌⧺◌}
use Rattle.agent_core.specs.declared.agent.Agent.{Agent}
use Rattle.flow_core.specs.declared.case.Case.{Case}
use Rattle.reg_compiler.specs.Sources.{Sources, sources_of}
use Rattle.flow_core.specs.LiveText.{flow_from}
use Rattle.reg_compiler.specs.declared.built.Built.{Built}
use Rattle.campaign_core.specs.declared.row.Row.{Row}
use Rattle.campaign_core.specs.CampaignRow.{row_read}
use Rattle.campaign_report.specs.TableText.{table_text}
use Rattle.campaign_report.specs.WireText.{wire_text}
use Rattle.scene_members.specs.declared.mode.SceneMode.TheVariants as scene
use Rattle.scenario_json.specs.Cases.{case_names}
use Rattle.run_ending.specs.declared.outcome.ModeOutput.{ModeOutput}
use Rattle.ccp_run.specs.Rules.{Rules}
use Rattle.ccp_run.specs.Scenes.{IsSceneOutput, scene_rules}

-- the row of a case, read over the sources of its programs
abbrev pub source_row : Sources → Case → Row
source_row sources case = row_read (flow_from sources case) case.link case.lag

abbrev pub source_rows : List (ℕ × Built) → List Case → List Row
source_rows programs cases = map (source_row (sources_of programs)) cases

abbrev pub case_agents : List Case → List Agent
case_agents cases = map (λ case. case.agent) cases

-- the programs' Install frames, if they are asked for
abbrev pub frames_shown : Bool → List (ℕ × Built) → List ℕ
frames_shown true programs = wire_text programs
frames_shown false programs = []

-- the table of cases of these programs, after the programs' frames if they are asked for
abbrev pub campaign_text : Bool → List (ℕ × Built) → List Case → List ℕ
campaign_text wire programs cases =
    frames_shown wire programs ⧺ table_text (case_names cases) (case_agents cases) (source_rows programs cases)

-- the output is that table
pub record TellsCampaign (wire : Bool) (programs : List (ℕ × Built)) (cases : List Case)
    (output : ModeOutput) : Type 0 where
  pub written : output.text ≡ campaign_text wire programs cases
  pub no_books : output.books ≡ []
  pub idle : output.ran ≡ 0

-- the output is the table of the scenario's cases, after the frames of its programs if they are asked for
abbrev pub IsCampaignOutput : Bool → List ℕ → ModeOutput → Type 0
IsCampaignOutput wire = IsSceneOutput scene.Campaign (TellsCampaign wire)

abbrev pub campaign_rules : Bool → Rules
campaign_rules wire = scene_rules scene.Campaign (IsCampaignOutput wire)
