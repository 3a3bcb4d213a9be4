-- The words of the private contracts: what one pass over the bytes finds. What the tokens of a text are stands in
-- Lexemes and Strays, apart from these.
use Rattle.std.specs.Prelude.{◌≡◌, ℕ, ◌+◌, Bool, false, not, ◌||◌, ◌==◌, IsTrue, Result, Ok, Err, if◌then◌else◌, List, [], ◌∷◌, ◌++◌}
use Rattle.ccp_base.specs.declared.place.Place.{Place}
use Rattle.portus_lexer.specs.declared.token.Token.{Token}
use Rattle.portus_lexer.specs.declared.token.LexFault.{LexFault}
use Rattle.portus_lexer.specs.declared.token.LexFault.TheVariants.{NotText, NoMemory}
use Rattle.portus_lexer.specs.declared.within.Within.{Within}
use Rattle.portus_lexer.specs.declared.within.Within.TheVariants.{Gap, Comment, Atom}
use Rattle.portus_lexer.specs.Bytes.{is_allowed, is_atom_byte}
use Rattle.portus_lexer.specs.Places.{place_past_byte}

-- whether the byte ends the scan
abbrev pub is_refused : Within → ℕ → Bool
is_refused Comment b = false
is_refused Gap b = not (is_allowed b)
is_refused (Atom place start) b = not (is_allowed b)

abbrev pub after_mark : ℕ → Within
after_mark b = if b == 35 then Comment else Gap

-- what the next byte is in
abbrev pub within_next : Within → Place → ℕ → ℕ → Within
within_next Comment at i b = if b == 10 then Gap else Comment
within_next Gap at i b = if is_atom_byte b then Atom at i else after_mark b
within_next (Atom place start) at i b = if is_atom_byte b then Atom place start else after_mark b

-- the token of an atom that is open
abbrev pub open_atom_token : Within → ℕ → List Token
open_atom_token (Atom place start) i = record { place = place; start = start; end = i } ∷ []
open_atom_token Gap i = []
open_atom_token Comment i = []

abbrev pub parenthesis : Place → ℕ → ℕ → List Token
parenthesis at i b = if b == 40 || b == 41 then record { place = at; start = i; end = i + 1 } ∷ [] else []

-- the tokens that end with the byte
abbrev pub put_by : Within → Place → ℕ → ℕ → List Token
put_by Comment at i b = []
put_by Gap at i b = if is_atom_byte b then [] else parenthesis at i b
put_by (Atom place start) at i b =
    if is_atom_byte b then [] else open_atom_token (Atom place start) i ++ parenthesis at i b

abbrev pub with_front : List Token → Result (List Token) Place → Result (List Token) Place
with_front front (Ok rest) = Ok (front ++ rest)
with_front front (Err place) = Err place

-- the tokens from here on, or the place of the byte that ended the scan
abbrev pub scan : Within → Place → ℕ → List ℕ → Result (List Token) Place
scan within at i [] = Ok (open_atom_token within i)
scan within at i (b ∷ rest) =
    if is_refused within b
    then Err at
    else with_front (put_by within at i b) (scan (within_next within at i b) (place_past_byte at b) (i + 1) rest)

-- a fault of the scan at this place
abbrev pub FaultsAt : Place → Bool → LexFault → Type 0
FaultsAt at refused (NotText place) = (place ≡ at) × IsTrue refused
FaultsAt at refused (NoMemory _) = Unit {0}

-- a fault whose cause is the scan's outcome
abbrev pub EndsScan : Result (List Token) Place → LexFault → Type 0
EndsScan outcome (NotText place) = outcome ≡ Err place
EndsScan outcome (NoMemory _) = Unit {0}
