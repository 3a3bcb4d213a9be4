-- What the values of the options stand for.
use Rattle.std.specs.Prelude.{◌≡◌, ◌<◌, ◌^◌, ℕ, Bool, false, Option, Some, None, List, codes}
use Rattle.std.specs.Str.{bytes_eq}
use Rattle.std.specs.Str.Parse.{IsNumeral, digits_value, without_leading_plus}
use Rattle.clap.specs.Words.{one_text}
use Rattle.clap.specs.declared.parser.matches.Found.{Found}
use Rattle.ccp_words.specs.declared.mode.ToolMode.{ToolMode}
use Rattle.ccp_words.specs.declared.words.Asked.{Asked}
use Rattle.ccp_words.specs.Modes.{mode_named}

-- the number that digits write, with or without a plus before them; 1 if the option isn't given
abbrev pub written_number : Option (List ℕ) → ℕ
written_number None = 1
written_number (Some text) = digits_value 10 (without_leading_plus text)

-- a flag that is given is true
abbrev pub is_flag_text : Option (List ℕ) → Bool
is_flag_text None = false
is_flag_text (Some text) = bytes_eq text (codes "true")

-- a text of digits is read as its number
abbrev pub ReadsNumber : Option (List ℕ) → ℕ → Type 0
ReadsNumber None number = number ≡ 1
ReadsNumber (Some text) number =
    IsNumeral 10 (without_leading_plus text) → digits_value 10 (without_leading_plus text) < 2 ^ 32
    → number ≡ digits_value 10 (without_leading_plus text)

-- the mode is the one whose name was found
abbrev pub SaysMode : Found → Option ToolMode → Type 0
SaysMode found mode = (text : List ℕ) → one_text found (codes "mode") ≡ Some text → mode ≡ mode_named text

-- the options are those that were found
pub record HasOptions (found : Found) (asked : Asked) : Type 0 where
  pub datapaths : ReadsNumber (one_text found (codes "datapaths")) asked.datapaths
  pub agents : ReadsNumber (one_text found (codes "agents")) asked.agents
  pub workers : ReadsNumber (one_text found (codes "workers")) asked.workers
  pub number : ReadsNumber (one_text found (codes "number")) asked.number
  pub wire : asked.wire ≡ is_flag_text (one_text found (codes "wire"))
