-- What `timeline` makes of its cases: a book of each after its campaign word, and the live text of these words.
use Rattle.std.specs.Prelude.{◌≡◌, ℕ, Bool, List, map}
use Rattle.std.specs.List.{All}
use Rattle.ccp_base.specs.Text.{◌⧺◌}
use Rattle.reg_compiler.specs.declared.built.Built.{Built}
use Rattle.flow_core.specs.declared.case.Case.{Case}
use Rattle.flow_core.specs.declared.letter.Letter.{Letter}
use Rattle.reg_compiler.specs.Sources.{Sources, sources_of}
use Rattle.flow_core.specs.LiveText.{flow_from, live_text}
use Rattle.campaign_core.specs.CampaignWord.{plan_over}
use Rattle.campaign_report.specs.BooksRead.{flows_of}
use Rattle.scene_members.specs.declared.mode.SceneMode.TheVariants as scene
use Rattle.run_ending.specs.declared.outcome.ModeOutput.{ModeOutput}
use Rattle.ccp_run.specs.Campaign.{frames_shown}
use Rattle.ccp_run.specs.Live.{IsRightBook}
use Rattle.ccp_run.specs.Rules.{Rules}
use Rattle.ccp_run.specs.Scenes.{IsSceneOutput, scene_rules}

-- the campaign word of a case, read over the sources of its programs
abbrev pub source_plan : Sources → Case → List Letter
source_plan sources case = plan_over (flow_from sources case) case.link case.lag

-- each case with its campaign word
abbrev pub planned_by : Sources → List Case → List (Case × List Letter)
planned_by sources cases = map (λ (case : Case). (case, source_plan sources case)) cases

-- the live text of the campaign words of cases of these programs, after the programs' frames if they are asked for
abbrev pub timeline_text : Bool → List (ℕ × Built) → List Case → List ℕ
timeline_text wire programs cases =
    frames_shown wire programs ⧺ live_text (sources_of programs) (planned_by (sources_of programs) cases)

-- the output is that text of the cases, and there is one book for each of these, in order, whose word is the campaign
-- word, which is legal and complete, and which shows what the word means
pub record TellsTimeline (wire : Bool) (programs : List (ℕ × Built)) (cases : List Case)
    (output : ModeOutput) : Type 0 where
  pub books : flows_of output.books ≡ planned_by (sources_of programs) cases
  pub right : All (IsRightBook programs) output.books
  pub written : output.text ≡ timeline_text wire programs cases
  pub idle : output.ran ≡ 0

-- the output shows this for the scenario's cases
abbrev pub IsTimelineOutput : Bool → List ℕ → ModeOutput → Type 0
IsTimelineOutput wire = IsSceneOutput scene.Live (TellsTimeline wire)

abbrev pub timeline_rules : Bool → Rules
timeline_rules wire = scene_rules scene.Live (IsTimelineOutput wire)
