-- A refusal of a text's lexemes is neither of its length, nor of a stray byte, nor of lacking memory.
use Rattle.std.specs.Prelude.{◌≡◌, ℕ, ◌==◌, nat_le, Bool, true, false, Option, Some, None, Result, Ok, Err, if◌then◌else◌, List, [], ◌∷◌}
use Rattle.std.specs.Option.{option_or, option_map}
use Rattle.std.proofs.Common.{refl}
use Rattle.ccp_base.specs.declared.place.Place.{Place}
use Rattle.portus_core.specs.Trees.{Node, word}
use Rattle.portus_lexer.specs.Lexemes.{Lexeme}
use Rattle.portus_parser.specs.declared.fault.ParseFault.{ParseFault}
use Rattle.portus_parser.specs.declared.fault.ParseFault.TheVariants.{SourceTooLong, NotText, Unexpected, BadNumeral, BadName, Nesting, Unclosed, NoMemory}
use Rattle.ccp_base.specs.Numerals.{numeral_of}
use Rattle.portus_parser.specs.Atoms.{atom_of, numeral_node, begins_with_digit, is_word}
use Rattle.std.specs.Result.{result_err}
use Rattle.portus_parser.specs.Refusals.{is_opening, is_closing, open_after, lexeme_fault, first_fault, last_unclosed, refusal_of}

-- a refusal of a text's lexemes
abbrev pub is_lexical : ParseFault → Bool
is_lexical SourceTooLong = false
is_lexical (NotText place) = false
is_lexical (Unexpected place) = true
is_lexical (BadNumeral place) = true
is_lexical (BadName place) = true
is_lexical (Nesting place) = true
is_lexical (Unclosed place) = true
is_lexical (NoMemory _) = false

abbrev pub lexical_if : Option ParseFault → Bool
lexical_if None = true
lexical_if (Some fault) = is_lexical fault

either : (left right : Option ParseFault) → lexical_if left ≡ true → lexical_if right ≡ true → lexical_if (option_or left right) ≡ true
either None right h k = k
either (Some fault) right h k = h

choice : (test : Bool) (left right : Option ParseFault) → lexical_if left ≡ true → lexical_if right ≡ true → lexical_if (if test then left else right) ≡ true
choice true left right h k = h
choice false left right h k = k

numeral_fault : (place : Place) (value : Option ℕ) → lexical_if (result_err (numeral_node place value)) ≡ true
numeral_fault place (Some value) = refl
numeral_fault place None = refl

word_fault : (here : Bool) (place : Place) (text : List ℕ) → lexical_if (result_err (if here then Ok (word place text) else Err (BadName place))) ≡ true
word_fault true place text = refl
word_fault false place text = refl

atom_choice : (digit : Bool) (left right : Result Node ParseFault) → lexical_if (result_err left) ≡ true → lexical_if (result_err right) ≡ true → lexical_if (result_err (if digit then left else right)) ≡ true
atom_choice true left right h k = h
atom_choice false left right h k = k

atom_fault : (place : Place) (text : List ℕ) → lexical_if (result_err (atom_of place text)) ≡ true
atom_fault place text =
    atom_choice (begins_with_digit text) (numeral_node place (numeral_of text)) (if is_word text then Ok (word place text) else Err (BadName place))
    (numeral_fault place (numeral_of text)) (word_fault (is_word text) place text)

one_fault : (open_lists : ℕ) (lexeme : Lexeme) → lexical_if (lexeme_fault open_lists lexeme) ≡ true
one_fault open_lists lexeme =
    let atom = result_err (atom_of lexeme.place lexeme.text) in
    let inner = if is_closing lexeme.text then None else atom in
    choice (is_opening lexeme.text) (if nat_le 64 open_lists then Some (Nesting lexeme.place) else None) (if open_lists == 0 then Some (Unexpected lexeme.place) else inner)
    (choice (nat_le 64 open_lists) (Some (Nesting lexeme.place)) None refl refl)
    (choice (open_lists == 0) (Some (Unexpected lexeme.place)) inner refl (choice (is_closing lexeme.text) None atom refl (atom_fault lexeme.place lexeme.text)))

first_faults : (lexemes : List Lexeme) (open_lists : ℕ) → lexical_if (first_fault open_lists lexemes) ≡ true
first_faults [] open_lists = refl
first_faults (lexeme ∷ rest) open_lists =
    either (lexeme_fault open_lists lexeme) (first_fault (open_after open_lists lexeme.text) rest) (one_fault open_lists lexeme) (first_faults rest (open_after open_lists lexeme.text))

unclosed_fault : (place : Option Place) → lexical_if (option_map Unclosed place) ≡ true
unclosed_fault None = refl
unclosed_fault (Some place) = refl

pub lexical-refusal_of : (lexemes : List Lexeme) → lexical_if (refusal_of lexemes) ≡ true
lexical-refusal_of lexemes = either (first_fault 0 lexemes) (option_map Unclosed (last_unclosed lexemes)) (first_faults lexemes 0) (unclosed_fault (last_unclosed lexemes))
