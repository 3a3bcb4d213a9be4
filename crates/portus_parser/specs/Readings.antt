-- The words of the private contracts: what the stack of open lists and the parts so far become, lexeme by lexeme.
-- What a text spells and is refused by stands in Spelling and Refusals, apart from these.
use Rattle.std.specs.Prelude.{◌≡◌, ℕ, nat_le, Result, Ok, Err, if◌then◌else◌, List, [], ◌∷◌, ◌++◌, length, map}
use Rattle.ccp_base.specs.Limits.{most_lists}
use Rattle.ccp_base.specs.declared.place.Place.{Place}
use Rattle.portus_core.specs.declared.tree.Tree.{Tree}
use Rattle.portus_core.specs.Trees.{Node, list, collected, node_of}
use Rattle.portus_lexer.specs.declared.token.Token.{Token}
use Rattle.portus_lexer.specs.Lexemes.{Lexeme, slice_of}
use Rattle.portus_parser.specs.declared.fault.ParseFault.{ParseFault}
use Rattle.portus_parser.specs.declared.fault.ParseFault.TheVariants.{Unexpected, Nesting, Unclosed, NoMemory}
use Rattle.portus_parser.specs.declared.open_list.OpenList.{OpenList}
use Rattle.portus_parser.specs.Atoms.{atom_of}
use Rattle.portus_parser.specs.Refusals.{is_opening, is_closing}

-- a list that is open: its place, and the parts that its own list had before it
pub record Opened : Type 0 where
  pub place : Place
  pub before : List Node

-- the open lists, the innermost one first, and its parts so far
pub record OpenLists : Type 0 where
  pub opens : List Opened
  pub parts : List Node

abbrev pub opened_at : Place → OpenLists → Result OpenLists ParseFault
opened_at place reading =
    if nat_le most_lists (length reading.opens)
    then Err (Nesting place)
    else Ok (record { opens = record { place = place; before = reading.parts } ∷ reading.opens; parts = [] })

abbrev pub closed_over : Place → List Opened → List Node → Result OpenLists ParseFault
closed_over place [] parts = Err (Unexpected place)
closed_over place (opened ∷ opens) parts =
    Ok (record { opens = opens; parts = opened.before ++ list opened.place (collected parts) ∷ [] })

abbrev pub with_part : OpenLists → Result Node ParseFault → Result OpenLists ParseFault
with_part reading (Ok node) = Ok (record { opens = reading.opens; parts = reading.parts ++ node ∷ [] })
with_part reading (Err fault) = Err fault

abbrev pub put_in : Place → List ℕ → OpenLists → List Opened → Result OpenLists ParseFault
put_in place text reading [] = Err (Unexpected place)
put_in place text reading (opened ∷ opens) = with_part reading (atom_of place text)

-- the reading after a lexeme
abbrev pub reading_after : OpenLists → Place → List ℕ → Result OpenLists ParseFault
reading_after reading place text =
    if is_opening text
    then opened_at place reading
    else (if is_closing text then closed_over place reading.opens reading.parts
    else put_in place text reading reading.opens)

abbrev pub finished : List Opened → List Node → Result (List Node) ParseFault
finished [] parts = Ok parts
finished (opened ∷ opens) parts = Err (Unclosed opened.place)

abbrev pub turn_on : Result OpenLists ParseFault → Lexeme → Result OpenLists ParseFault
turn_on (Ok reading) lexeme = reading_after reading lexeme.place lexeme.text
turn_on (Err fault) lexeme = Err fault

abbrev pub finish : Result OpenLists ParseFault → Result (List Node) ParseFault
finish (Ok reading) = finished reading.opens reading.parts
finish (Err fault) = Err fault

-- the forms that the reading ends with
abbrev pub read_lexemes : Result OpenLists ParseFault → List Lexeme → Result (List Node) ParseFault
read_lexemes reading [] = finish reading
read_lexemes reading (lexeme ∷ rest) = read_lexemes (turn_on reading lexeme) rest

-- before the first lexeme
abbrev pub unread : Result OpenLists ParseFault
unread = Ok (record { opens = []; parts = [] })

abbrev pub opened_of : OpenList → Opened
opened_of open_list = record { place = open_list.place; before = map node_of open_list.before.items }

-- the code's open lists, the innermost one last there, before others
abbrev pub stacked : List Opened → List OpenList → List Opened
stacked opens [] = opens
stacked opens (open_list ∷ rest) = stacked (opened_of open_list ∷ opens) rest

-- the data of open lists and the parts so far
abbrev pub reading_of : List OpenList → List Tree → OpenLists
reading_of open_lists parts = record { opens = stacked [] open_lists; parts = map node_of parts }

-- a token with its bytes
abbrev pub lexeme_in : List ℕ → Token → Lexeme
lexeme_in text token = record { place = token.place; start = token.start; text = slice_of text token }

-- a fault is the outcome's, or out of memory
abbrev pub EndsTurn : Result OpenLists ParseFault → ParseFault → Type 0
EndsTurn outcome (NoMemory _) = Unit {0}
EndsTurn outcome fault = outcome ≡ Err fault

abbrev pub EndsReading : Result (List Node) ParseFault → ParseFault → Type 0
EndsReading outcome (NoMemory _) = Unit {0}
EndsReading outcome fault = outcome ≡ Err fault
