-- Which words the tool accepts, and what they ask for, by `clap`'s own definition.
use Rattle.std.specs.Prelude.{◌≡◌, ◌≤◌, ℕ, Bool, true, Option, Some, option_and_then, option_map, map, List, [], ◌∷◌, codes}
use Rattle.std.specs.Borrow.{Bor}
use Rattle.clap.specs.Words.{App, Rule, Text, app_of, fault_of, matches_of, new_rule, one_of}
use Rattle.clap.specs.Simple.{new_shape}
use Rattle.clap.specs.Walk.{is_empty}
use Rattle.clap.specs.declared.builder.action.ArgAction.TheVariants.{Set, SetTrue}
use Rattle.clap.specs.declared.builder.command.Command.{Command}
use Rattle.clap.specs.declared.builder.value_parser.ValueParser.TheVariants.{Names, Unsigned}
use Rattle.ccp_words.specs.declared.words.Asked.{Asked}
use Rattle.ccp_words.specs.Matches.{written_number, is_flag_text}
use Rattle.ccp_words.specs.Modes.{mode_named, mode_names}

-- the workers of a kind
abbrev pub most_of_a_kind : ℕ
most_of_a_kind = 32

-- the number of a generated campaign
abbrev pub most_campaign_number : ℕ
most_campaign_number = 4294967295

-- names as an argument holds them, each at some place in memory
abbrev pub HeldNames : Type 0
HeldNames = Bor (List (Bor Text))

-- the positional argument, which is needed and is one of these names
abbrev pub mode_argument : HeldNames → Rule
mode_argument names = record (new_rule (codes "mode")) {
  action = Some Set;
  parser = Some (Names names);
  required = true;
}

-- an option whose value is a whole number from `least` to `most`, and 1 if it isn't given
abbrev pub number_option : Text → ℕ → ℕ → Rule
number_option name least most = record (new_rule name) {
  long = Some name;
  action = Some Set;
  defaults = codes "1" ∷ [];
  parser = Some (Unsigned least most);
}

abbrev pub wire_flag : Rule
wire_flag = record (new_rule (codes "wire")) { long = Some (codes "wire"); action = Some SetTrue }

-- the command line before its arguments, without flags for help and the version
abbrev pub bare_command : App
bare_command = record {
  top = record (new_shape (codes "ccp")) { disable_help_flag = true; disable_version_flag = true };
  subs = [];
}

-- the command line with modes of these names, and without flags for help and the version
abbrev pub command_line : HeldNames → App
command_line names = record {
  top = record (new_shape (codes "ccp")) {
    rules =
        mode_argument names ∷ number_option (codes "datapaths") 1 most_of_a_kind
        ∷ number_option (codes "agents") 1 most_of_a_kind ∷ number_option (codes "workers") 1 most_of_a_kind
        ∷ number_option (codes "number") 0 most_campaign_number ∷ wire_flag ∷ [];
    disable_help_flag = true;
    disable_version_flag = true;
  };
  subs = [];
}

-- something at no place, since the place decides nothing
abbrev pub unplaced : {X : Type 0} → X → Bor X
unplaced x = record { ref_ptr = (0, 0); now = x }

-- the tool's command line
abbrev pub ccp : App
ccp = command_line (unplaced (map unplaced mode_names))

-- words are accepted if the command line names no fault in them; the first is the program's name
unfoldable pub are_accepted : List Text → Bool
are_accepted words = is_empty (fault_of ccp words)

-- what accepted words say of the option or argument of this name
abbrev pub said : Text → List Text → Option Text
said name words = one_of name (matches_of ccp words)

-- what accepted words ask for
unfoldable pub asked_in : List Text → Option Asked
asked_in words = option_map (λ mode. record {
  mode = mode;
  datapaths = written_number (said (codes "datapaths") words);
  agents = written_number (said (codes "agents") words);
  workers = written_number (said (codes "workers") words);
  number = written_number (said (codes "number") words);
  wire = is_flag_text (said (codes "wire") words);
}) (option_and_then mode_named (said (codes "mode") words))

-- each number of workers is at least 1, and at most that of a kind
pub record HasWorkers (asked : Asked) : Type 0 where
  pub datapaths : (1 ≤ asked.datapaths) × (asked.datapaths ≤ most_of_a_kind)
  pub agents : (1 ≤ asked.agents) × (asked.agents ≤ most_of_a_kind)
  pub workers : (1 ≤ asked.workers) × (asked.workers ≤ most_of_a_kind)

-- the command is the tool's command line, its names held at some place
pub record IsCommandLine (command : Command) : Type 0 where
  pub names : HeldNames
  pub modes : map (λ name. name.now) names.now ≡ mode_names
  pub app : app_of command ≡ command_line names
