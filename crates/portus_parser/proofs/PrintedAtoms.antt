-- The digits of a number spell it again, and a word spells itself.
use Rattle.std.specs.Prelude.{◌≡◌, ℕ, ◌^◌, ◌<◌, Bool, true, false, Option, Some, None, Ok, Err, if◌then◌else◌, List, [], ◌∷◌, length}
use Rattle.std.specs.List.{list_all}
use Rattle.std.specs.Fmt.{decimal}
use Rattle.std.proofs.Common.{arith, refl, ap, subst}
use Rattle.std.proofs.lemmas.Bool.{and_parts, and_from}
use Rattle.std.proofs.lemmas.Bool.Decides.{nat_tests}
use Rattle.std.proofs.lemmas.Fmt.{decimal_nonempty}
use Rattle.ccp_base.specs.declared.place.Place.{Place}
use Rattle.portus_core.specs.Trees.{number, word}
use Rattle.portus_lexer.specs.Bytes.{is_atom_byte}
use Rattle.portus_lexer.specs.Lexemes.{is_atom, ends_atom}
use Rattle.portus_parser.specs.declared.fault.ParseFault.TheVariants.{BadName}
use Rattle.ccp_base.specs.Numerals.{is_digit, numeral_of}
use Rattle.ccp_base.proofs.DecimalLemmas.{decimal-digits, numeral_of-decimal}
use Rattle.portus_parser.specs.Atoms.{begins_with_digit, numeral_node, is_word, atom_of}
use Rattle.portus_parser.specs.Spelling.{SpellsAtom}
use Rattle.portus_parser.proofs.Numerals.{numeral_fits}

abbrev AreDigits : List ℕ → Type 0
AreDigits ds = list_all is_digit ds ≡ true

digit_is_atom_byte : (b : ℕ) → is_digit b ≡ true → is_atom_byte b ≡ true
digit_is_atom_byte b h = grind (arith, nat_tests)

digits_are_atom_bytes : (ds : List ℕ) → AreDigits ds → list_all is_atom_byte ds ≡ true
digits_are_atom_bytes [] h = refl
digits_are_atom_bytes (d ∷ ds) h =
    let parts = and_parts (is_digit d) (list_all is_digit ds) h in
    and_from (is_atom_byte d) (list_all is_atom_byte ds) (digit_is_atom_byte d parts.0) (digits_are_atom_bytes ds parts.1)

digits_are_atom : (ds : List ℕ) → AreDigits ds → 0 < length ds → is_atom ds ≡ true
digits_are_atom [] h some = absurd (omega arith)
digits_are_atom (d ∷ ds) h some = digits_are_atom_bytes (d ∷ ds) h

digits_begin_with_digit : (ds : List ℕ) → AreDigits ds → 0 < length ds → begins_with_digit ds ≡ true
digits_begin_with_digit [] h some = absurd (omega arith)
digits_begin_with_digit (d ∷ ds) h some = (and_parts (is_digit d) (list_all is_digit ds) h).0

has_value : (digit here : Bool) (at place : Place) (text : List ℕ) (own : Option ℕ) (value : ℕ) → (if digit then numeral_node at own else (if here then Ok (word at text) else Err (BadName at))) ≡ Ok (number place value) → own ≡ Some value
has_value true here at place text (Some n) value h = let same : n ≡ value = cc in ap Some same
has_value true here at place text None value h = absurd (cc)
has_value false true at place text own value h = absurd (cc)
has_value false false at place text own value h = absurd (cc)

-- an atom's number is below 2^64
value_fits : (at place : Place) (text : List ℕ) (value : ℕ) → atom_of at text ≡ Ok (number place value) → value < 2 ^ 64
value_fits at place text value h =
    numeral_fits text value (has_value (begins_with_digit text) (is_word text) at place text (numeral_of text) value h)

record IsWordItself (digit here : Bool) (text name : List ℕ) : Type 0 where
  no_digit : digit ≡ false
  is : here ≡ true
  same : text ≡ name

word_itself : (digit here : Bool) (at place : Place) (text name : List ℕ) (value : Option ℕ) → (if digit then numeral_node at value else (if here then Ok (word at text) else Err (BadName at))) ≡ Ok (word place name) → IsWordItself digit here text name
word_itself true here at place text name (Some value) h = absurd (cc)
word_itself true here at place text name None h = absurd (cc)
word_itself false true at place text name value h = record { no_digit = refl; is = refl; same = cc }
word_itself false false at place text name value h = absurd (cc)

-- a number's digits spell it again at any place
pub spells_number : (depth : ℕ) (at there : Place) (part others back : List ℕ) (place : Place) (value : ℕ) → SpellsAtom depth at part others (number place value) → ends_atom back ≡ true → SpellsAtom depth there (decimal value) back (number there value)
spells_number depth at there part others back place value h ends =
    let fits = value_fits at place part value h.spelled in
    let digits = decimal-digits value in
    let some = decimal_nonempty value fits in
    record {
      inside = h.inside;
      atom = and_from (is_atom (decimal value)) (ends_atom back) (digits_are_atom (decimal value) digits some) ends;
      spelled = rw (digits_begin_with_digit (decimal value) digits some) (ap (numeral_node there) (numeral_of-decimal value fits));
    }

-- a word spells itself at any place
pub spells_word : (depth : ℕ) (at there : Place) (part others back : List ℕ) (place : Place) (name : List ℕ) → SpellsAtom depth at part others (word place name) → ends_atom back ≡ true → SpellsAtom depth there name back (word there name)
spells_word depth at there part others back place name h ends =
    let itself = word_itself (begins_with_digit part) (is_word part) at place part name (numeral_of part) h.spelled in
    let atom = (and_parts (is_atom part) (ends_atom others) h.atom).0 in
    let spelled : SpellsAtom depth there part back (word there part) = record {
      inside = h.inside;
      atom = and_from (is_atom part) (ends_atom back) atom ends;
      spelled = rw (itself.no_digit, itself.is) refl;
    } in
    subst (λ (text : List ℕ). SpellsAtom depth there text back (word there text)) itself.same spelled
