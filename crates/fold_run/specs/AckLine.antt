-- What a line below the separator says.
use Rattle.std.specs.Prelude.{ℕ, ◌+◌, ◌-◌, Bool, true, false, not, ◌||◌, ◌&&◌, ◌==◌, nat_lt, if◌then◌else◌, Option, Some, None, List, [], ◌∷◌, take, drop, replicate, position, slice_get, slice_index_or, slice_set, length}
use Rattle.std.specs.Option.{option_and_then, option_map_or}
use Rattle.std.specs.List.{list_all}
use Rattle.ccp_base.specs.declared.ack.Ack.{Ack}
use Rattle.ccp_base.specs.Acknowledgement.{is_flag, ack_of}
use Rattle.ccp_base.specs.Limits.{primitive_count}
use Rattle.ccp_base.specs.Numerals.{numeral_of}
use Rattle.ccp_base.specs.declared.parts.Separator.TheVariants.{Blank}
use Rattle.ccp_base.specs.Parts.{separates, parts_of}
use Rattle.ccp_base.specs.PrimitiveNames.{value_named}
use Rattle.fold_run.specs.declared.ack_line.LineKind.{LineKind}
use Rattle.fold_run.specs.declared.ack_line.LineKind.TheVariants as kind
use Rattle.fold_run.specs.declared.line_values.LineValues.{LineValues}

-- what a line says: nothing, an acknowledgement, or no acknowledgement
pub data AckLine : Type 0 where
  nothing : AckLine
  given : Ack → AckLine
  refused : AckLine

abbrev pub no_values : LineValues
no_values = record { numbers = replicate primitive_count 0; named = replicate primitive_count false }

-- an answer that says whether there is a value beside it
abbrev pub some_if : {A : Type 0} → Bool → A → Option A
some_if true x = Some x
some_if false x = None

-- one more value, if the line hasn't given it before; a Bool is 0 or 1
abbrev pub with_number : LineValues → ℕ → ℕ → Option LineValues
with_number values n value =
    if slice_index_or values.named n false || (nat_lt 1 value && is_flag n) then None
    else Some (record { numbers = slice_set values.numbers n value; named = slice_set values.named n true })

abbrev pub with_line_value : LineValues → Option ℕ → Option ℕ → Option LineValues
with_line_value values None value = None
with_line_value values (Some n) None = None
with_line_value values (Some n) (Some value) = with_number values n value

-- the value that a word `name=numeral` gives
abbrev pub with_named_value : LineValues → List ℕ → Option LineValues
with_named_value values word =
    option_and_then (λ at. with_line_value values (value_named (take at word)) (numeral_of (drop (at + 1) word)))
    (position (λ byte. byte == 61) word)

-- two blanks may stand side by side
abbrev pub with_one_word : LineValues → List ℕ → Option LineValues
with_one_word values [] = Some values
with_one_word values (byte ∷ rest) = with_named_value values (byte ∷ rest)

-- the values with those of each of the words
abbrev pub with_each_word : Option LineValues → List (List ℕ) → Option LineValues
with_each_word None words = None
with_each_word (Some values) [] = Some values
with_each_word (Some values) (word ∷ rest) = with_each_word (with_one_word values word) rest

-- the acknowledgement of a line's values, with 0 for those that it doesn't give
abbrev pub given_or_refused : Option LineValues → AckLine
given_or_refused None = refused
given_or_refused (Some values) = given (ack_of values.numbers)

-- whether there is a blank at this place of the line, counted from 0
abbrev pub is_blank_at : List ℕ → ℕ → Bool
is_blank_at line n = option_map_or (separates Blank) (slice_get line n) false

abbrev pub begins_blank : List ℕ → Bool
begins_blank line = is_blank_at line 0

abbrev pub ends_blank : List ℕ → Bool
ends_blank line = is_blank_at line (length line - 1)

-- what a line says, without the CR at its end: nothing if it is blank, else a list of `name=numeral` with
-- blanks between alone, each name at most once
abbrev pub read_ack_line : List ℕ → AckLine
read_ack_line line =
    if list_all (separates Blank) line then nothing
    else if begins_blank line || ends_blank line then refused
    else given_or_refused (with_each_word (Some no_values) (parts_of Blank line))

-- whether the line has a first byte that is no blank
abbrev pub begins_word : List ℕ → Bool
begins_word [] = false
begins_word (byte ∷ rest) = not (separates Blank byte)

-- what the kind of a line and its values say
abbrev pub line_told : LineKind → LineValues → AckLine
line_told kind.Nothing values = nothing
line_told kind.Given values = given (ack_of values.numbers)
line_told kind.Refused values = refused
