-- A turn of a reading at a parenthesis or an atom.
use Rattle.std.specs.Prelude.{◌≡◌, ℕ, ◌<◌, Bool, true, false, ◌&&◌, ◌||◌, ◌==◌, Option, Some, None, Result, Ok, Err, if◌then◌else◌, List, [], ◌∷◌, ◌++◌, length}
use Rattle.std.specs.List.{list_all}
use Rattle.std.specs.Str.{bytes_eq}
use Rattle.std.proofs.Common.{arith, refl, ap, inl, inr}
use Rattle.std.proofs.lemmas.Bool.{and_parts, and_left, or_cases, lt-leb}
use Rattle.std.proofs.lemmas.Bool.Decides.{nat_tests}
use Rattle.std.proofs.lemmas.Slice.Eq.{bytes_eq-Decides}
use Rattle.ccp_base.specs.declared.place.Place.{Place}
use Rattle.portus_core.specs.Trees.{Node, number, word, list}
use Rattle.portus_lexer.specs.Bytes.{is_atom_byte}
use Rattle.portus_lexer.specs.Lexemes.{is_lexeme, is_parenthesis, is_atom, ends_atom}
use Rattle.portus_parser.specs.declared.fault.ParseFault.{ParseFault}
use Rattle.portus_parser.specs.declared.fault.ParseFault.TheVariants.{BadName}
use Rattle.ccp_base.specs.Numerals.{numeral_of}
use Rattle.portus_parser.specs.Atoms.{atom_of, numeral_node, begins_with_digit, is_word}
use Rattle.portus_parser.specs.Refusals.{is_opening, is_closing}
use Rattle.portus_parser.specs.Readings.{Opened, with_part, reading_after}

pub is_opening-true : (text : List ℕ) → is_opening text ≡ true → text ≡ 40 ∷ []
is_opening-true text h = (bytes_eq-Decides text (40 ∷ [])).0 h

pub is_closing-true : (text : List ℕ) → is_closing text ≡ true → text ≡ 41 ∷ []
is_closing-true text h = (bytes_eq-Decides text (41 ∷ [])).0 h

no_opening : (b : ℕ) → is_atom_byte b ≡ true → (b == 40) ≡ false
no_opening b h = grind (arith, nat_tests)

no_closing : (b : ℕ) → is_atom_byte b ≡ true → (b == 41) ≡ false
no_closing b h = grind (arith, nat_tests)

pub is_opening-atom : (text : List ℕ) → is_atom text ≡ true → is_opening text ≡ false
is_opening-atom [] h = absurd (cc)
is_opening-atom (b ∷ rest) h = and_left (b == 40) (bytes_eq rest []) (no_opening b (and_parts (is_atom_byte b) (list_all is_atom_byte rest) h).0)

pub is_closing-atom : (text : List ℕ) → is_atom text ≡ true → is_closing text ≡ false
is_closing-atom [] h = absurd (cc)
is_closing-atom (b ∷ rest) h = and_left (b == 41) (bytes_eq rest []) (no_closing b (and_parts (is_atom_byte b) (list_all is_atom_byte rest) h).0)

one_of_two : (b : ℕ) → (b == 40 || b == 41) ≡ true → (b == 40 && true) ≡ false → (b == 41 && true) ≡ false → ⊥
one_of_two b h e f = grind (arith, nat_tests)

no_parenthesis : (text : List ℕ) → is_parenthesis text ≡ true → is_opening text ≡ false → is_closing text ≡ false → ⊥
no_parenthesis [] h e f = cc
no_parenthesis (b ∷ []) h e f = one_of_two b h e f
no_parenthesis (b ∷ c ∷ rest) h e f = cc

-- a lexeme that is no parenthesis is an atom
pub is_atom-other : (text others : List ℕ) → is_lexeme text others ≡ true → is_opening text ≡ false → is_closing text ≡ false → (is_atom text && ends_atom others) ≡ true
is_atom-other text others h e f = elim (or_cases (is_parenthesis text) (is_atom text && ends_atom others) h) [
  | inl p ↦ absurd (no_parenthesis text p e f)
  | inr a ↦ a
]

-- an atom stands for a numeral or a word
abbrev pub is_list : Result Node ParseFault → Bool
is_list (Ok (number place value)) = false
is_list (Ok (word place name)) = false
is_list (Ok (list place parts)) = true
is_list (Err fault) = false

is_list-number : (place : Place) (value : Option ℕ) → is_list (numeral_node place value) ≡ false
is_list-number place (Some value) = refl
is_list-number place None = refl

is_list-word : (word_here : Bool) (place : Place) (text : List ℕ) (fault : ParseFault) → is_list (if word_here then Ok (word place text) else Err fault) ≡ false
is_list-word true place text fault = refl
is_list-word false place text fault = refl

is_list-choice : (digit : Bool) (left right : Result Node ParseFault) → is_list left ≡ false → is_list right ≡ false → is_list (if digit then left else right) ≡ false
is_list-choice true left right h k = h
is_list-choice false left right h k = k

pub is_list-atom : (place : Place) (text : List ℕ) → is_list (atom_of place text) ≡ false
is_list-atom place text =
    is_list-choice (begins_with_digit text) (numeral_node place (numeral_of text)) (if is_word text then Ok (word place text) else Err (BadName place))
    (is_list-number place (numeral_of text)) (is_list-word (is_word text) place text (BadName place))

-- a turn at an opening parenthesis, if fewer than 64 lists are open
pub turn-open : (place : Place) (opens : List Opened) (parts : List Node) → length opens < 64 → reading_after (record { opens = opens; parts = parts }) place (40 ∷ []) ≡ Ok (record { opens = record { place = place; before = parts } ∷ opens; parts = [] })
turn-open place opens parts room = rw (lt-leb 64 (length opens) room) refl

pub turn-atom : (place : Place) (text : List ℕ) (opens : List Opened) (parts : List Node) (node : Node) → 0 < length opens → is_atom text ≡ true → atom_of place text ≡ Ok node → reading_after (record { opens = opens; parts = parts }) place text ≡ Ok (record { opens = opens; parts = parts ++ node ∷ [] })
turn-atom place text [] parts node some atom h = absurd (omega arith)
turn-atom place text (opened ∷ opens) parts node some atom h = rw (is_opening-atom text atom, is_closing-atom text atom) (ap (with_part (record { opens = opened ∷ opens; parts = parts })) h)
