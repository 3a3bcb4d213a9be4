-- The first refusal of a text.
use Rattle.std.specs.Prelude.{◌≡◌, ℕ, ◌+◌, ◌-◌, ◌<◌, ◌≤◌, Bool, ◌==◌, nat_le, Option, Some, None, if◌then◌else◌, List, [], ◌∷◌, length, codes}
use Rattle.std.specs.Option.{option_or, option_map}
use Rattle.std.specs.Result.{result_err}
use Rattle.std.specs.Str.{bytes_eq}
use Rattle.ccp_base.specs.Limits.{most_lists, most_text_bytes}
use Rattle.ccp_base.specs.declared.place.Place.{Place}
use Rattle.portus_lexer.specs.Strays.{stray_of}
use Rattle.portus_lexer.specs.Lexemes.{Lexeme, AreLexemesOf}
use Rattle.portus_parser.specs.declared.fault.ParseFault.{ParseFault}
use Rattle.portus_parser.specs.declared.fault.ParseFault.TheVariants.{SourceTooLong, NotText, Unexpected, BadNumeral, BadName, Nesting, Unclosed, NoMemory}
use Rattle.portus_parser.specs.Atoms.{atom_of}

abbrev pub is_opening : List ℕ → Bool
is_opening text = bytes_eq text (codes "(")

abbrev pub is_closing : List ℕ → Bool
is_closing text = bytes_eq text (codes ")")

-- how many lists are open after a lexeme, from how many are open before it
abbrev pub open_after : ℕ → List ℕ → ℕ
open_after open_lists text =
    if is_opening text then open_lists + 1 else (if is_closing text then open_lists - 1 else open_lists)

-- what is wrong with a lexeme inside this many open lists
abbrev pub lexeme_fault : ℕ → Lexeme → Option ParseFault
lexeme_fault open_lists lexeme =
    if is_opening lexeme.text
    then (if nat_le most_lists open_lists then Some (Nesting lexeme.place) else None)
    else (if open_lists == 0
    then Some (Unexpected lexeme.place)
    else (if is_closing lexeme.text then None else result_err (atom_of lexeme.place lexeme.text)))

-- the first lexeme that is wrong
abbrev pub first_fault : ℕ → List Lexeme → Option ParseFault
first_fault open_lists [] = None
first_fault open_lists (lexeme ∷ rest) =
    option_or (lexeme_fault open_lists lexeme) (first_fault (open_after open_lists lexeme.text) rest)

-- how many closing parentheses have no opening one among these lexemes
abbrev pub unopened : List Lexeme → ℕ
unopened [] = 0
unopened (lexeme ∷ rest) =
    if is_opening lexeme.text then unopened rest - 1
    else (if is_closing lexeme.text then unopened rest + 1 else unopened rest)

-- the place of the last opening parenthesis that has no match
abbrev pub last_unclosed : List Lexeme → Option Place
last_unclosed [] = None
last_unclosed (lexeme ∷ rest) =
    option_or (last_unclosed rest)
    (if is_opening lexeme.text then (if unopened rest == 0 then Some lexeme.place else None) else None)

-- the first lexeme that is wrong, or else the last list that is left open
abbrev pub refusal_of : List Lexeme → Option ParseFault
refusal_of lexemes = option_or (first_fault 0 lexemes) (option_map Unclosed (last_unclosed lexemes))

-- a text of a length that may be read has lexemes, and this is their refusal
pub record RefusesLexemes (text : List ℕ) (fault : ParseFault) : Type 0 where
  pub short : length text ≤ most_text_bytes
  pub lexemes : List Lexeme
  pub divided : AreLexemesOf text lexemes
  pub first : refusal_of lexemes ≡ Some fault

-- the text is refused so, by the first cause in this order
abbrev pub IsRefused : List ℕ → ParseFault → Type 0
IsRefused text SourceTooLong = most_text_bytes < length text
IsRefused text (NotText place) = (length text ≤ most_text_bytes) × (stray_of text ≡ Some place)
IsRefused text (Unexpected place) = RefusesLexemes text (Unexpected place)
IsRefused text (BadNumeral place) = RefusesLexemes text (BadNumeral place)
IsRefused text (BadName place) = RefusesLexemes text (BadName place)
IsRefused text (Nesting place) = RefusesLexemes text (Nesting place)
IsRefused text (Unclosed place) = RefusesLexemes text (Unclosed place)
IsRefused text (NoMemory _) = ⊥
