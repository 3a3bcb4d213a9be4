-- A scan ends at the first byte that isn't allowed outside comments, and else finds tokens.
use Rattle.std.specs.Prelude.{◌≡◌, ℕ, ◌+◌, Bool, true, false, not, ◌==◌, Option, Some, None, Result, Ok, Err, if◌then◌else◌, List, [], ◌∷◌}
use Rattle.std.proofs.Common.{arith, refl, ap, sym, ◌∙◌}
use Rattle.std.proofs.lemmas.Bool.Decides.{nat_tests}
use Rattle.ccp_base.specs.declared.place.Place.{Place}
use Rattle.portus_lexer.specs.declared.token.Token.{Token}
use Rattle.portus_lexer.specs.declared.within.Within.{Within}
use Rattle.portus_lexer.specs.declared.within.Within.TheVariants.{Gap, Comment, Atom}
use Rattle.portus_lexer.specs.Bytes.{is_allowed, is_atom_byte}
use Rattle.portus_lexer.specs.Places.{first_place, place_past_byte}
use Rattle.portus_lexer.specs.Strays.{stray_from, stray_of}
use Rattle.portus_lexer.specs.Scanning.{scan, with_front, after_mark, within_next, put_by}

-- the place at which a scan ended, if it did
abbrev pub refusal_of : Result (List Token) Place → Option Place
refusal_of (Ok tokens) = None
refusal_of (Err place) = Some place

refusal_of-with_front : (front : List Token) (outcome : Result (List Token) Place) → refusal_of (with_front front outcome) ≡ refusal_of outcome
refusal_of-with_front front (Ok tokens) = refl
refusal_of-with_front front (Err place) = refl

abbrev is_comment : Within → Bool
is_comment Gap = false
is_comment Comment = true
is_comment (Atom place start) = false

is_comment-ended : (ends : Bool) → is_comment (if ends then Gap else Comment) ≡ not ends
is_comment-ended true = refl
is_comment-ended false = refl

is_comment-mark : (hash : Bool) → is_comment (if hash then Comment else Gap) ≡ hash
is_comment-mark true = refl
is_comment-mark false = refl

no_hash : (b : ℕ) → is_atom_byte b ≡ true → (b == 35) ≡ false
no_hash b h = grind (arith, nat_tests)

is_comment-Gap : (b : ℕ) (at : Place) (i : ℕ) (atom : Bool) → is_atom_byte b ≡ atom → is_comment (if atom then Atom at i else after_mark b) ≡ (b == 35)
is_comment-Gap b at i true e = sym (no_hash b e)
is_comment-Gap b at i false e = is_comment-mark (b == 35)

step_refusal : (allowed : Bool) (at : Place) (front : List Token) (outcome : Result (List Token) Place) (stray : Option Place) → refusal_of outcome ≡ stray → refusal_of (if not allowed then Err at else with_front front outcome) ≡ (if allowed then stray else Some at)
step_refusal true at front outcome stray h = refusal_of-with_front front outcome ∙ h
step_refusal false at front outcome stray h = refl

-- a scan ends at the first byte that isn't allowed outside comments
pub refusal_of-scan : (bytes : List ℕ) (within : Within) (at : Place) (i : ℕ) → refusal_of (scan within at i bytes) ≡ stray_from (is_comment within) at bytes
refusal_of-scan [] Gap at i = refl
refusal_of-scan [] Comment at i = refl
refusal_of-scan [] (Atom place start) at i = refl
refusal_of-scan (b ∷ rest) Comment at i =
    refusal_of-with_front [] (scan (if b == 10 then Gap else Comment) (place_past_byte at b) (i + 1) rest)
    ∙ refusal_of-scan rest (if b == 10 then Gap else Comment) (place_past_byte at b) (i + 1)
    ∙ ap (λ c. stray_from c (place_past_byte at b) rest) (is_comment-ended (b == 10))
refusal_of-scan (b ∷ rest) Gap at i =
    let next = within_next Gap at i b in
    step_refusal (is_allowed b) at (put_by Gap at i b) (scan next (place_past_byte at b) (i + 1) rest) (stray_from (b == 35) (place_past_byte at b) rest)
    (refusal_of-scan rest next (place_past_byte at b) (i + 1) ∙ ap (λ c. stray_from c (place_past_byte at b) rest) (is_comment-Gap b at i (is_atom_byte b) refl))
refusal_of-scan (b ∷ rest) (Atom place start) at i =
    let next = within_next (Atom place start) at i b in
    step_refusal (is_allowed b) at (put_by (Atom place start) at i b) (scan next (place_past_byte at b) (i + 1) rest) (stray_from (b == 35) (place_past_byte at b) rest)
    (refusal_of-scan rest next (place_past_byte at b) (i + 1) ∙ ap (λ c. stray_from c (place_past_byte at b) rest) (is_comment-Gap b place start (is_atom_byte b) refl))

-- tokens are found exactly if no byte is stray
pub stray_of-Ok : (text : List ℕ) (tokens : List Token) → scan Gap first_place 0 text ≡ Ok tokens → stray_of text ≡ None
stray_of-Ok text tokens h = sym (refusal_of-scan text Gap first_place 0) ∙ ap refusal_of h

pub stray_of-Err : (text : List ℕ) (place : Place) → scan Gap first_place 0 text ≡ Err place → stray_of text ≡ Some place
stray_of-Err text place h = sym (refusal_of-scan text Gap first_place 0) ∙ ap refusal_of h
