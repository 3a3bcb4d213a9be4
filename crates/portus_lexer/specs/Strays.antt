-- The first byte of a text that may not stand where it does.
use Rattle.std.specs.Prelude.{◌≡◌, ℕ, Bool, true, false, not, ◌==◌, Option, Some, None, if◌then◌else◌, List, [], ◌∷◌}
use Rattle.ccp_base.specs.declared.place.Place.{Place}
use Rattle.portus_lexer.specs.declared.token.LexFault.{LexFault}
use Rattle.portus_lexer.specs.declared.token.LexFault.TheVariants.{NotText, NoMemory}
use Rattle.portus_lexer.specs.Bytes.{is_allowed}
use Rattle.portus_lexer.specs.Places.{first_place, place_past_byte}

-- the place of the first byte outside comments that isn't allowed there, in bytes that begin in a comment or not
abbrev pub stray_from : Bool → Place → List ℕ → Option Place
stray_from commented at [] = None
stray_from true at (b ∷ rest) = stray_from (not (b == 10)) (place_past_byte at b) rest
stray_from false at (b ∷ rest) = if is_allowed b then stray_from (b == 35) (place_past_byte at b) rest else Some at

abbrev pub stray_of : List ℕ → Option Place
stray_of text = stray_from false first_place text

-- the cause of a fault: a stray byte at its place
abbrev pub HasCause : List ℕ → LexFault → Type 0
HasCause text (NotText place) = stray_of text ≡ Some place
HasCause text (NoMemory _) = Unit {0}
