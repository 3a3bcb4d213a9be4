-- What `drive` and the texts of driven flows make of their input, and the inputs that they refuse.
use Rattle.std.specs.Prelude.{◌≡◌, ℕ, Bool, true, false, Some, None, List, [], ◌∷◌, map}
use Rattle.std.specs.List.{All}
use Rattle.ccp_base.specs.declared.ack.Ack.{Ack}
use Rattle.ccp_base.specs.Text.{◌⧺◌}
use Rattle.reg_compiler.specs.declared.built.Built.{Built}
use Rattle.reg_compiler.specs.Sources.{sources_of}
use Rattle.flow_core.specs.declared.case.Case.{Case}
use Rattle.campaign_core.specs.declared.row.Row.{Row}
use Rattle.campaign_core.specs.CampaignRow.{row_over}
use Rattle.campaign_report.specs.TableText.{own_table_text}
use Rattle.campaign_report.specs.AcksText.{own_acks_text}
use Rattle.driven_flow.specs.Driven.{DrivenState, ReadsAlike, sourced_by, state_by, peak_by}
use Rattle.driven_flow.specs.DrivenText.{driven_part}
use Rattle.driven_flow.specs.Front.{divided}
use Rattle.scene_core.specs.CompiledPrograms.{AreCompiled}
use Rattle.scene_members.specs.declared.mode.SceneMode.TheVariants.{Driven}
use Rattle.ccp_words.specs.declared.mode.DriveText.{DriveText}
use Rattle.ccp_words.specs.declared.mode.DriveText.TheVariants as shown
use Rattle.run_ending.specs.declared.outcome.ModeOutput.{ModeOutput}
use Rattle.run_ending.specs.declared.refusal.Limit.TheVariants.{Audit}
use Rattle.run_ending.specs.declared.refusal.Refusal.{Refusal}
use Rattle.ccp_run.specs.Campaign.{frames_shown}
use Rattle.ccp_run.specs.DriveInputs.{drive_refusal, drive_written, driven_flows, IsOpenDrive}
use Rattle.ccp_run.specs.Rules.{Rules}
use Rattle.ccp_run.specs.Scenes.{IsScenario}

-- ---- the flows of an input, with its programs

-- the input is a scenario with these programs, whose codes are the compiler's, and frames that are whole up to its end;
-- its flows have the same state over the sources of the programs as over their codes
pub record IsDriven (bytes : List ℕ) (programs : List (ℕ × Built)) : Type 0 where
  pub whole : drive_refusal bytes ≡ None
  pub text : List ℕ
  pub frames : List ℕ
  pub at_line : divided bytes ≡ Some (text, frames)
  pub cases : List Case
  pub scenario : IsScenario Driven text programs cases
  pub compiled : AreCompiled programs
  pub alike : All (ReadsAlike programs) (driven_flows bytes)

-- ---- drive

-- the output is what the flows say to the frames: each report shows the fields that its program's source means, since
-- the flows read alike over the sources
pub record IsDriveOutput (bytes : List ℕ) (output : ModeOutput) : Type 0 where
  pub programs : List (ℕ × Built)
  pub input : IsDriven bytes programs
  pub written : output.text ≡ drive_written bytes
  pub kept : output.programs ≡ []
  pub no_books : output.books ≡ []
  pub idle : output.ran ≡ 0

-- ---- the texts

abbrev pub flow_names : List DrivenState → List (List ℕ)
flow_names flows = map (λ (flow : DrivenState). flow.case.name) flows

-- the row of a flow, read over the sources of its programs
abbrev pub flow_row : List (ℕ × Built) → DrivenState → Row
flow_row programs flow =
    let sourced = sourced_by programs flow in row_over sourced (state_by sourced flow) (peak_by sourced flow)

-- the acknowledgements of a flow, read over the sources of its programs
abbrev pub flow_acks : List (ℕ × Built) → DrivenState → List Ack
flow_acks programs flow = (state_by (sourced_by programs flow) flow).acks

-- the part of a flow in the live text, read over the sources of its programs
abbrev pub flow_part : List (ℕ × Built) → DrivenState → List ℕ
flow_part programs flow =
    driven_part (sources_of programs) flow.case (state_by (sourced_by programs flow) flow) flow.answers

-- the parts of flows, in order
abbrev pub flow_parts : List (ℕ × Built) → List DrivenState → List ℕ
flow_parts programs [] = []
flow_parts programs (flow ∷ rest) = flow_part programs flow ⧺ flow_parts programs rest

-- a text of flows of these programs, after the programs' frames if they are asked for and the text has them
abbrev pub drive_text : DriveText → Bool → List (ℕ × Built) → List DrivenState → List ℕ
drive_text shown.Table wire programs flows =
    frames_shown wire programs ⧺ own_table_text (flow_names flows) (map (flow_row programs) flows)
drive_text shown.Timeline wire programs flows = frames_shown wire programs ⧺ flow_parts programs flows
drive_text shown.Acks wire programs flows = own_acks_text (flow_names flows) (map (flow_acks programs) flows)

-- the output is that text of the input's flows
pub record IsDriveTextOutput (text : DriveText) (wire : Bool) (bytes : List ℕ) (output : ModeOutput) : Type 0 where
  pub input : IsDriven bytes output.programs
  pub written : output.text ≡ drive_text text wire output.programs (driven_flows bytes)
  pub no_books : output.books ≡ []
  pub idle : output.ran ≡ 0

-- ---- the rules

abbrev pub IsDriveInput : List ℕ → Type 0
IsDriveInput bytes = drive_refusal bytes ≡ None

abbrev pub IsNoDrive : List ℕ → Refusal → Type 0
IsNoDrive bytes refusal = drive_refusal bytes ≡ Some refusal

-- the agent is answered as its frames come
abbrev pub drive_rules : Rules
drive_rules = record {
  limit = Audit;
  is_read = true;
  is_stream = true;
  is_answered = true;
  answers_before = drive_written;
  GoesOn = λ bytes. IsOpenDrive bytes;
  IsInput = IsDriveInput;
  IsMade = IsDriveOutput;
  IsRefused = IsNoDrive;
}

-- nothing is written before the input's end
abbrev pub drive_text_rules : DriveText → Bool → Rules
drive_text_rules text wire = record {
  limit = Audit;
  is_read = true;
  is_stream = true;
  is_answered = false;
  answers_before = λ _. [];
  GoesOn = λ bytes. IsOpenDrive bytes;
  IsInput = IsDriveInput;
  IsMade = IsDriveTextOutput text wire;
  IsRefused = IsNoDrive;
}
