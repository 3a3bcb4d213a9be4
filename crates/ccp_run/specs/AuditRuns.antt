-- What `audit` makes of its input, and the inputs that it refuses.
use Rattle.std.specs.Prelude.{◌≡◌, ◌≤◌, ◌<◌, ℕ, Some, None, List, [], length, codes, decimal}
use Rattle.ccp_base.specs.Text.{◌⧺◌}
use Rattle.reg_compiler.specs.declared.built.Built.{Built}
use Rattle.flow_core.specs.declared.case.Case.{Case}
use Rattle.fold_run.specs.Separated.{Cut, cut_of}
use Rattle.scene_faults.specs.declared.fault.SceneFault.{SceneFault}
use Rattle.scene_members.specs.declared.mode.SceneMode.TheVariants as scene
use Rattle.scenario_json.specs.Scene.{Scene}
use Rattle.reg_compiler.specs.Sources.{sources_of}
use Rattle.run_audit.specs.declared.verdict.Verdict.{Verdict}
use Rattle.run_audit.specs.declared.verdict.Verdict.TheVariants.{Yes, No}
use Rattle.run_audit.specs.Audit.{IsVerdict}
use Rattle.run_ending.specs.declared.outcome.ModeOutput.{ModeOutput}
use Rattle.run_ending.specs.declared.refusal.Limit.TheVariants as limit
use Rattle.run_ending.specs.declared.refusal.Refusal.{Refusal}
use Rattle.run_ending.specs.declared.refusal.Refusal.TheVariants as refusal
use Rattle.run_ending.specs.ErrorLine.{most_bytes}
use Rattle.ccp_run.specs.Rules.{Rules, reads_whole}
use Rattle.ccp_run.specs.Scenes.{Says, IsScenario, IsNoScenario}

-- the line that says it
abbrev pub verdict_text : Verdict → List ℕ
verdict_text Yes = codes "yes\n"
verdict_text (No flow) = codes "no flow " ⧺ decimal flow ⧺ codes "\n"

-- bytes are cut here: the scenario's text before the separator, no longer than an input of the other modes, and the
-- text to be judged after it
pub record IsAuditCut (bytes : List ℕ) (cut : Cut) : Type 0 where
  pub at_separator : cut_of bytes ≡ Some cut
  pub short : length cut.program ≤ most_bytes limit.Input

-- bytes are an input of `audit`: a scenario of `live` that says this, and a text
pub record IsAudit (bytes : List ℕ) (said : Scene) : Type 0 where
  pub cut : Cut
  pub at : IsAuditCut bytes cut
  pub says : Says scene.Live cut.program said

-- the output says whether the text is the live text of the scenario's cases, for some legal and complete words, read
-- over the sources of its programs, and else with how many flows' parts the text begins
pub record IsAuditOutput (bytes : List ℕ) (output : ModeOutput) : Type 0 where
  pub cut : Cut
  pub at : IsAuditCut bytes cut
  pub programs : List (ℕ × Built)
  pub cases : List Case
  pub scenario : IsScenario scene.Live cut.program programs cases
  pub verdict : Verdict
  pub is : IsVerdict (sources_of programs) cases cut.rest verdict
  pub written : output.text ≡ verdict_text verdict
  pub no_books : output.books ≡ []
  pub kept : output.programs ≡ []
  pub idle : output.ran ≡ 0

-- the separator is there, and more bytes stand before it than an input of the other modes has
pub record HasLongScenario (bytes : List ℕ) : Type 0 where
  pub cut : Cut
  pub at_separator : cut_of bytes ≡ Some cut
  pub long : most_bytes limit.Input < length cut.program

-- the separator is there, and the text before it is no scenario
pub record HasNoScenario (bytes : List ℕ) (fault : SceneFault) : Type 0 where
  pub cut : Cut
  pub at : IsAuditCut bytes cut
  pub refused : IsNoScenario scene.Live cut.program (refusal.Scene fault)

-- bytes are no input of `audit`, and this is the first refusal, in the order separator, length before it, scenario
abbrev pub IsNoAudit : List ℕ → Refusal → Type 0
IsNoAudit bytes refusal.NoSeparator = cut_of bytes ≡ None
IsNoAudit bytes (refusal.TooLong limit.Input) = HasLongScenario bytes
IsNoAudit bytes (refusal.Scene fault) = HasNoScenario bytes fault
IsNoAudit bytes _ = ⊥

-- bytes are such an input
abbrev pub IsAuditInput : List ℕ → Type 0
IsAuditInput bytes = (said : Scene) × IsAudit bytes said

abbrev pub audit_rules : Rules
audit_rules = reads_whole limit.Audit IsAuditInput IsAuditOutput IsNoAudit
