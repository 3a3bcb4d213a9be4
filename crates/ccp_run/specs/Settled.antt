-- Each input is one of its mode's, or has one first refusal, and not both.
use Rattle.std.specs.Prelude.{◌≡◌, ◌⊎◌, List, ℕ}
use Rattle.run_ending.specs.declared.outcome.ModeOutput.{ModeOutput}
use Rattle.run_ending.specs.declared.refusal.Refusal.{Refusal}
use Rattle.ccp_run.specs.Modes.{Task, rules_of}
use Rattle.ccp_run.specs.Rules.{Rules}

pub record IsSettledBy (rules : Rules) (bytes : List ℕ) : Type 0 where
  pub some : rules.IsInput bytes ⊎ ((refusal : Refusal) × rules.IsRefused bytes refusal)
  pub apart : (refusal : Refusal) → rules.IsInput bytes → rules.IsRefused bytes refusal → ⊥
  pub one_refusal : (left right : Refusal) → rules.IsRefused bytes left → rules.IsRefused bytes right → left ≡ right
  -- what is made of bytes is made of an input
  pub made : (output : ModeOutput) → rules.IsMade bytes output → rules.IsInput bytes

abbrev pub IsInputSettled : Task → List ℕ → Type 0
IsInputSettled task bytes = IsSettledBy (rules_of task) bytes

-- every input of every mode
abbrev pub AreInputsSettled : Type 0
AreInputsSettled = (task : Task) (bytes : List ℕ) → IsInputSettled task bytes
