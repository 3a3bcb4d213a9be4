-- The stack of open lists in the code stands for the open lists of a reading, turn by turn.
use Rattle.std.specs.Prelude.{◌≡◌, ℕ, ◌+◌, ◌<◌, ◌≤◌, false, ◌==◌, Result, Ok, Err, List, [], ◌∷◌, ◌++◌, length, map}
use Rattle.std.proofs.Common.{refl, ap, sym, ◌∙◌, arith, subst, suc, drop, get_or, drop-cons}
use Rattle.std.proofs.lemmas.List.{map-append}
use Rattle.std.proofs.lemmas.Bool.{le-leb, lt-leb}
use Rattle.std.specs.declared.vec.Vec.{Vec}
use Rattle.std.specs.declared.alloc.Global.{Global}
use Rattle.ccp_base.specs.declared.place.Place.{Place}
use Rattle.portus_core.specs.declared.tree.Tree.{Tree, List as Group}
use Rattle.portus_core.specs.Trees.{Node, node_of, node_of-List}
use Rattle.portus_parser.specs.declared.fault.ParseFault.{ParseFault}
use Rattle.portus_parser.specs.declared.fault.ParseFault.TheVariants.{SourceTooLong, NotText, Unexpected, BadNumeral, BadName, Nesting, Unclosed, NoMemory}
use Rattle.portus_parser.specs.declared.open_list.OpenList.{OpenList}
use Rattle.portus_lexer.specs.declared.token.Token.{Token}
use Rattle.portus_lexer.specs.Lexemes.{Lexeme, slice_of}
use Rattle.portus_parser.specs.Atoms.{atom_of}
use Rattle.portus_parser.specs.Readings.{Opened, OpenLists, opened_at, closed_over, with_part, put_in, opened_of, stacked, reading_of, EndsTurn, EndsReading, finished, read_lexemes, reading_after, lexeme_in}

pub stacked-push : (opens : List Opened) (open_lists : List OpenList) (open_list : OpenList) → stacked opens (open_lists ++ open_list ∷ []) ≡ opened_of open_list ∷ stacked opens open_lists
stacked-push opens [] open_list = refl
stacked-push opens (first ∷ rest) open_list = stacked-push (opened_of first ∷ opens) rest open_list

pub length-stacked : (opens : List Opened) (open_lists : List OpenList) → length (stacked opens open_lists) ≡ length opens + length open_lists
length-stacked opens [] = omega arith
length-stacked opens (open_list ∷ rest) = omega (arith, length-stacked (opened_of open_list ∷ opens) rest)

pub opened_at-full : (place : Place) (open_lists : List OpenList) (parts : List Tree) → 64 ≤ length open_lists → opened_at place (reading_of open_lists parts) ≡ Err (Nesting place)
opened_at-full place open_lists parts full = rw (le-leb 64 (length (stacked [] open_lists)) (omega (arith, length-stacked [] open_lists))) refl

pub opened_at-room : (place : Place) (open_lists : List OpenList) (parts : Vec Tree Global) → length open_lists < 64 → opened_at place (reading_of open_lists parts.items) ≡ Ok (reading_of (open_lists ++ record { place = place; before = parts } ∷ []) [])
opened_at-room place open_lists parts room =
    rw (lt-leb 64 (length (stacked [] open_lists)) (omega (arith, length-stacked [] open_lists)))
    (ap (λ (opens : List Opened). Ok (record { opens = opens; parts = [] })) (sym (stacked-push [] open_lists (record { place = place; before = parts }))))

pub closed_over-push : (place : Place) (open_lists : List OpenList) (open_list : OpenList) (parts : Vec Tree Global) → closed_over place (stacked [] (open_lists ++ open_list ∷ [])) (map node_of parts.items) ≡ Ok (reading_of open_lists (open_list.before.items ++ Group open_list.place parts ∷ []))
closed_over-push place open_lists open_list parts =
    ap (λ opens. closed_over place opens (map node_of parts.items)) (stacked-push [] open_lists open_list)
    ∙ ap (λ (node : Node). Ok (record { opens = stacked [] open_lists; parts = map node_of open_list.before.items ++ node ∷ [] })) (sym (node_of-List open_list.place parts))
    ∙ ap (λ (nodes : List Node). Ok (record { opens = stacked [] open_lists; parts = nodes })) (sym (map-append node_of open_list.before.items (Group open_list.place parts ∷ [])))

put_in-more : (place : Place) (text : List ℕ) (reading : OpenLists) (opened : Opened) (opens : List Opened) (open_lists : List OpenList) → put_in place text reading (stacked (opened ∷ opens) open_lists) ≡ with_part reading (atom_of place text)
put_in-more place text reading opened opens [] = refl
put_in-more place text reading opened opens (open_list ∷ rest) = put_in-more place text reading (opened_of open_list) (opened ∷ opens) rest

pub put_in-some : (place : Place) (text : List ℕ) (reading : OpenLists) (open_lists : List OpenList) → (length open_lists == 0) ≡ false → put_in place text reading (stacked [] open_lists) ≡ with_part reading (atom_of place text)
put_in-some place text reading [] some = absurd (cc)
put_in-some place text reading (open_list ∷ rest) some = put_in-more place text reading (opened_of open_list) [] rest

pub put_in-Ok : (place : Place) (text : List ℕ) (open_lists : List OpenList) (parts : List Tree) (tree : Tree) → (length open_lists == 0) ≡ false → atom_of place text ≡ Ok (node_of tree) → put_in place text (reading_of open_lists parts) (stacked [] open_lists) ≡ Ok (reading_of open_lists (parts ++ tree ∷ []))
put_in-Ok place text open_lists parts tree some h =
    put_in-some place text (reading_of open_lists parts) open_lists some
    ∙ ap (with_part (reading_of open_lists parts)) h
    ∙ ap (λ (nodes : List Node). Ok (record { opens = stacked [] open_lists; parts = nodes })) (sym (map-append node_of parts (tree ∷ [])))

pub EndsTurn-is : (outcome : Result OpenLists ParseFault) (fault : ParseFault) → outcome ≡ Err fault → EndsTurn outcome fault
EndsTurn-is outcome (NoMemory _) h = tt
EndsTurn-is outcome SourceTooLong h = h
EndsTurn-is outcome (NotText place) h = h
EndsTurn-is outcome (Unexpected place) h = h
EndsTurn-is outcome (BadNumeral place) h = h
EndsTurn-is outcome (BadName place) h = h
EndsTurn-is outcome (Nesting place) h = h
EndsTurn-is outcome (Unclosed place) h = h

pub put_in-Err : (place : Place) (text : List ℕ) (open_lists : List OpenList) (parts : List Tree) (fault : ParseFault) → (length open_lists == 0) ≡ false → atom_of place text ≡ Err fault → EndsTurn (put_in place text (reading_of open_lists parts) (stacked [] open_lists)) fault
put_in-Err place text open_lists parts fault some h =
    EndsTurn-is (put_in place text (reading_of open_lists parts) (stacked [] open_lists)) fault
    (put_in-some place text (reading_of open_lists parts) open_lists some ∙ ap (with_part (reading_of open_lists parts)) h)

pub read-unclosed : (open_lists : List OpenList) (open_list : OpenList) (parts : List Tree) → read_lexemes (Ok (reading_of (open_lists ++ open_list ∷ []) parts)) [] ≡ Err (Unclosed open_list.place)
read-unclosed open_lists open_list parts = ap (λ opens. finished opens (map node_of parts)) (stacked-push [] open_lists open_list)

pub read-Err : (fault : ParseFault) (lexemes : List Lexeme) → read_lexemes (Err fault) lexemes ≡ Err fault
read-Err fault [] = refl
read-Err fault (lexeme ∷ rest) = read-Err fault rest

pub EndsReading-from_turn : (reading : OpenLists) (lexeme : Lexeme) (rest : List Lexeme) (outcome : Result (List Node) ParseFault) (fault : ParseFault) → EndsTurn (reading_after reading lexeme.place lexeme.text) fault → read_lexemes (Ok reading) (lexeme ∷ rest) ≡ outcome → EndsReading outcome fault
EndsReading-from_turn reading lexeme rest outcome (NoMemory _) h e = tt
EndsReading-from_turn reading lexeme rest outcome SourceTooLong h e = sym e ∙ ap (λ r. read_lexemes r rest) h ∙ read-Err SourceTooLong rest
EndsReading-from_turn reading lexeme rest outcome (NotText place) h e = sym e ∙ ap (λ r. read_lexemes r rest) h ∙ read-Err (NotText place) rest
EndsReading-from_turn reading lexeme rest outcome (Unexpected place) h e = sym e ∙ ap (λ r. read_lexemes r rest) h ∙ read-Err (Unexpected place) rest
EndsReading-from_turn reading lexeme rest outcome (BadNumeral place) h e = sym e ∙ ap (λ r. read_lexemes r rest) h ∙ read-Err (BadNumeral place) rest
EndsReading-from_turn reading lexeme rest outcome (BadName place) h e = sym e ∙ ap (λ r. read_lexemes r rest) h ∙ read-Err (BadName place) rest
EndsReading-from_turn reading lexeme rest outcome (Nesting place) h e = sym e ∙ ap (λ r. read_lexemes r rest) h ∙ read-Err (Nesting place) rest
EndsReading-from_turn reading lexeme rest outcome (Unclosed place) h e = sym e ∙ ap (λ r. read_lexemes r rest) h ∙ read-Err (Unclosed place) rest

abbrev pub no_token : Token
no_token = record { place = record { line = 0; column = 0 }; start = 0; end = 0 }

-- the same at a token of a text
pub EndsReading-at : (reading : OpenLists) (text : List ℕ) (tokens : List Token) (i : ℕ) (bytes : List ℕ) (outcome : Result (List Node) ParseFault) (fault : ParseFault) → i < length tokens → bytes ≡ slice_of text (get_or tokens i no_token) → EndsTurn (reading_after reading (get_or tokens i no_token).place bytes) fault → read_lexemes (Ok reading) (map (lexeme_in text) (drop i tokens)) ≡ outcome → EndsReading outcome fault
EndsReading-at reading text tokens i bytes outcome fault within e h all =
    let token = get_or tokens i no_token in
    EndsReading-from_turn reading (lexeme_in text token) (map (lexeme_in text) (drop (suc i) tokens)) outcome fault
    (subst (λ (b : List ℕ). EndsTurn (reading_after reading token.place b) fault) e h)
    (ap (λ ts. read_lexemes (Ok reading) (map (lexeme_in text) ts)) (sym (drop-cons tokens i no_token within)) ∙ all)
