-- What `soak` makes of its generated cases: their total.
use Rattle.std.specs.Prelude.{◌≡◌, ℕ, false, List, [], map}
use Rattle.std.specs.List.{All}
use Rattle.flow_core.specs.declared.case.Case.{Case}
use Rattle.campaign_report.specs.TableText.{soak_text}
use Rattle.scene_core.specs.CasePlans.{plan_of, AreFlowsFrom}
use Rattle.scenario_json.specs.Cases.{IsCoded}
use Rattle.scenario_json.specs.Scene.{scene_with}
use Rattle.reg_compiler.specs.Sources.{sources_of}
use Rattle.scenario_json.specs.Soak.{gen}
use Rattle.run_ending.specs.declared.outcome.ModeOutput.{ModeOutput}
use Rattle.run_ending.specs.declared.refusal.Limit.TheVariants.{Input}
use Rattle.ccp_run.specs.Campaign.{source_rows}
use Rattle.ccp_run.specs.Rules.{Rules}

-- the output is the total of the generated cases of this number
pub record IsSoakOutput (number : ℕ) (output : ModeOutput) : Type 0 where
  pub cases : List Case
  pub generated : scene_with (sources_of output.programs) (map plan_of cases) ≡ gen number
  pub coded : All (IsCoded output.programs) cases
  pub flows : AreFlowsFrom 0 cases
  pub written : output.text ≡ soak_text number (source_rows output.programs cases)
  pub no_books : output.books ≡ []
  pub idle : output.ran ≡ 0

-- a generated campaign doesn't look at its source, so it refuses nothing
abbrev pub soak_rules : ℕ → Rules
soak_rules number = record {
  limit = Input;
  is_read = false;
  is_stream = false;
  is_answered = false;
  answers_before = λ _. [];
  GoesOn = λ _. Unit {0};
  IsInput = λ _. Unit {0};
  IsMade = λ _ output. IsSoakOutput number output;
  IsRefused = λ _ _. ⊥;
}
