-- The node of an atom of a text.
use Rattle.std.specs.Prelude.{ℕ, Bool, false, ◌&&◌, ◌||◌, nat_le, Option, Some, None, Result, Ok, Err, if◌then◌else◌, List, [], ◌∷◌, length, codes}
use Rattle.std.specs.Str.{bytes_eq}
use Rattle.ccp_base.specs.Limits.{most_name_bytes}
use Rattle.ccp_base.specs.Numerals.{is_digit, numeral_of}
use Rattle.ccp_base.specs.Operations.{is_operation_mark}
use Rattle.ccp_base.specs.declared.place.Place.{Place}
use Rattle.portus_core.specs.Trees.{Node, number, word}
use Rattle.portus_core.specs.Words.{is_name_shaped}
use Rattle.portus_parser.specs.declared.fault.ParseFault.{ParseFault}
use Rattle.portus_parser.specs.declared.fault.ParseFault.TheVariants.{BadNumeral, BadName}

-- whether the text is one of the words that aren't shaped as a name
abbrev pub is_mark : List ℕ → Bool
is_mark text =
    is_operation_mark text || bytes_eq text (codes ":=") || bytes_eq text (codes "!if")
    || bytes_eq text (codes "+infinity")

-- whether the text is a word
abbrev pub is_word : List ℕ → Bool
is_word text = (is_name_shaped text || is_mark text) && nat_le (length text) most_name_bytes

abbrev pub begins_with_digit : List ℕ → Bool
begins_with_digit [] = false
begins_with_digit (b ∷ rest) = is_digit b

abbrev pub numeral_node : Place → Option ℕ → Result Node ParseFault
numeral_node place (Some value) = Ok (number place value)
numeral_node place None = Err (BadNumeral place)

-- the node of an atom: a numeral's value, or the word itself
abbrev pub atom_of : Place → List ℕ → Result Node ParseFault
atom_of place text =
    if begins_with_digit text
    then numeral_node place (numeral_of text)
    else (if is_word text then Ok (word place text) else Err (BadName place))
