-- What a scan finds are the tokens of the text.
use Rattle.std.specs.Prelude.{◌≡◌, ℕ, ◌+◌, Bool, true, false, not, ◌&&◌, ◌==◌, IsTrue, Result, Ok, Err, if◌then◌else◌, List, [], ◌∷◌, ◌++◌, length}
use Rattle.std.specs.List.{list_all}
use Rattle.std.proofs.Common.{arith, refl, ap, sym, ◌∙◌, subst, append_assoc, length-append}
use Rattle.std.proofs.lemmas.Bool.{and_parts, or_right, not_from_false, and_from}
use Rattle.ccp_base.specs.declared.place.Place.{Place}
use Rattle.portus_lexer.specs.declared.token.Token.{Token}
use Rattle.portus_lexer.specs.declared.within.Within.{Within}
use Rattle.portus_lexer.specs.declared.within.Within.TheVariants.{Gap, Comment, Atom}
use Rattle.portus_lexer.specs.Bytes.{is_allowed, is_atom_byte}
use Rattle.portus_lexer.specs.Places.{place_past_byte, place_after}
use Rattle.portus_lexer.specs.Lexemes.{is_blank, is_lexeme, is_parenthesis, is_atom, ends_atom, ended}
use Rattle.portus_lexer.specs.Scanning.{scan, with_front, open_atom_token, parenthesis, after_mark}
use Rattle.portus_lexer.proofs.ByteKinds.{Mark, space, tab, carriage_return, line_feed, opening, closing, hash, Mark-allowed, is_allowed-atom_byte}
use Rattle.portus_lexer.proofs.Divisions.{Divides, Divides-byte, Divides-lexeme}

pub with_front-nothing : (outcome : Result (List Token) Place) → with_front [] outcome ≡ outcome
with_front-nothing (Ok tokens) = refl
with_front-nothing (Err place) = refl

-- what the scan of the rest found, if the whole scan found tokens
record Fronted (front : List Token) (outcome : Result (List Token) Place) (tokens : List Token) : Type 0 where
  rest : List Token
  found : outcome ≡ Ok rest
  joined : tokens ≡ front ++ rest

with_front-Ok : (front : List Token) (outcome : Result (List Token) Place) (tokens : List Token) → with_front front outcome ≡ Ok tokens → Fronted front outcome tokens
with_front-Ok front (Ok rest) tokens h = let e : tokens ≡ front ++ rest = cc in record { rest = rest; found = refl; joined = e }
with_front-Ok front (Err place) tokens h = absurd (cc)

-- a scan in a gap, at a byte of an atom
pub scan-Gap_atom : (b : ℕ) (at : Place) (i : ℕ) (rest : List ℕ) → is_atom_byte b ≡ true → scan Gap at i (b ∷ rest) ≡ scan (Atom at i) (place_past_byte at b) (i + 1) rest
scan-Gap_atom b at i rest atom = rw (is_allowed-atom_byte b atom, atom) (with_front-nothing (scan (Atom at i) (place_past_byte at b) (i + 1) rest))

pub scan-Atom_atom : (place : Place) (start b : ℕ) (at : Place) (i : ℕ) (rest : List ℕ) → is_atom_byte b ≡ true → scan (Atom place start) at i (b ∷ rest) ≡ scan (Atom place start) (place_past_byte at b) (i + 1) rest
scan-Atom_atom place start b at i rest atom = rw (is_allowed-atom_byte b atom, atom) (with_front-nothing (scan (Atom place start) (place_past_byte at b) (i + 1) rest))

with_front-two : (front next : List Token) (outcome : Result (List Token) Place) → with_front (front ++ next) outcome ≡ with_front front (with_front next outcome)
with_front-two front next (Ok tokens) = ap Ok (append_assoc front next tokens)
with_front-two front next (Err place) = refl

refused_first : (refused : Bool) (at : Place) (front next : List Token) (outcome : Result (List Token) Place) → (if refused then Err at else with_front (front ++ next) outcome) ≡ with_front front (if refused then Err at else with_front next outcome)
refused_first true at front next outcome = refl
refused_first false at front next outcome = with_front-two front next outcome

-- a byte of no atom ends one, and is then read in a gap
pub scan-Atom_ended : (place : Place) (start b : ℕ) (at : Place) (i : ℕ) (rest : List ℕ) → is_atom_byte b ≡ false → scan (Atom place start) at i (b ∷ rest) ≡ with_front (open_atom_token (Atom place start) i) (scan Gap at i (b ∷ rest))
scan-Atom_ended place start b at i rest other =
    rw other (refused_first (not (is_allowed b)) at (open_atom_token (Atom place start) i) (parenthesis at i b) (scan (after_mark b) (place_past_byte at b) (i + 1) rest))

-- what tokens mean that a scan found, once LF is put at the text's end
abbrev Means : Within → Place → ℕ → List ℕ → List Token → Type 0
Means Gap at i bytes tokens = Divides false at i (ended bytes) tokens
Means Comment at i bytes tokens = Divides true at i (ended bytes) tokens
Means (Atom place start) at i bytes tokens =
    (text : List ℕ) → IsTrue (is_atom text) → at ≡ place_after place text → i ≡ start + length text → Divides false place start (text ++ ended bytes) tokens

abbrev Sound : List ℕ → Type 0
Sound bytes = (within : Within) (at : Place) (i : ℕ) (tokens : List Token) → scan within at i bytes ≡ Ok tokens → Means within at i bytes tokens

list_all-more : (text : List ℕ) (b : ℕ) → list_all is_atom_byte text ≡ true → is_atom_byte b ≡ true → list_all is_atom_byte (text ++ b ∷ []) ≡ true
list_all-more [] b all more = and_from (is_atom_byte b) true more refl
list_all-more (c ∷ rest) b all more = let parts = and_parts (is_atom_byte c) (list_all is_atom_byte rest) all in and_from (is_atom_byte c) (list_all is_atom_byte (rest ++ b ∷ [])) parts.0 (list_all-more rest b parts.1 more)

pub is_atom-more : (text : List ℕ) (b : ℕ) → IsTrue (is_atom text) → IsTrue (is_atom_byte b) → IsTrue (is_atom (text ++ b ∷ []))
is_atom-more [] b atom more = absurd (cc)
is_atom-more (c ∷ rest) b atom more = let parts = and_parts (is_atom_byte c) (list_all is_atom_byte rest) atom in and_from (is_atom_byte c) (list_all is_atom_byte (rest ++ b ∷ [])) parts.0 (list_all-more rest b parts.1 more)

pub place_after-append : (at : Place) (front back : List ℕ) → place_after at (front ++ back) ≡ place_after (place_after at front) back
place_after-append at [] back = refl
place_after-append at (b ∷ front) back = place_after-append (place_past_byte at b) front back

commented_by : (b : ℕ) (rest : List ℕ) (at : Place) (i : ℕ) (tokens : List Token) (ends : Bool) → Sound rest → (b == 10) ≡ ends → scan (if ends then Gap else Comment) (place_past_byte at b) (i + 1) rest ≡ Ok tokens → Divides true at i (b ∷ ended rest) tokens
commented_by b rest at i tokens true sound e h =
    Divides-byte true false b at i (ended rest) tokens (λ gap. ap (λ t. is_blank (not t) gap) e) (sound Gap (place_past_byte at b) (i + 1) tokens h)
commented_by b rest at i tokens false sound e h =
    Divides-byte true true b at i (ended rest) tokens (λ gap. ap (λ t. is_blank (not t) gap) e) (sound Comment (place_past_byte at b) (i + 1) tokens h)

in_comment : (b : ℕ) (rest : List ℕ) (at : Place) (i : ℕ) (tokens : List Token) → Sound rest → scan Comment at i (b ∷ rest) ≡ Ok tokens → Divides true at i (ended (b ∷ rest)) tokens
in_comment b rest at i tokens sound h =
    commented_by b rest at i tokens (b == 10) sound refl (sym (with_front-nothing (scan (if b == 10 then Gap else Comment) (place_past_byte at b) (i + 1) rest)) ∙ h)

in_gap_space : (b : ℕ) (rest : List ℕ) (at : Place) (i : ℕ) (tokens : List Token) → Sound rest → ((gap : List ℕ) → is_blank false (b ∷ gap) ≡ is_blank false gap) → with_front [] (scan Gap (place_past_byte at b) (i + 1) rest) ≡ Ok tokens → Divides false at i (b ∷ ended rest) tokens
in_gap_space b rest at i tokens sound same h =
    Divides-byte false false b at i (ended rest) tokens same (sound Gap (place_past_byte at b) (i + 1) tokens (sym (with_front-nothing (scan Gap (place_past_byte at b) (i + 1) rest)) ∙ h))

in_gap_parenthesis : (b : ℕ) (rest : List ℕ) (at : Place) (i : ℕ) (tokens : List Token) → Sound rest → is_parenthesis (b ∷ []) ≡ true → with_front (record { place = at; start = i; end = i + 1 } ∷ []) (scan Gap (place_past_byte at b) (i + 1) rest) ≡ Ok tokens → Divides false at i (b ∷ ended rest) tokens
in_gap_parenthesis b rest at i tokens sound found h =
    let f = with_front-Ok (record { place = at; start = i; end = i + 1 } ∷ []) (scan Gap (place_past_byte at b) (i + 1) rest) tokens h in
    let lexeme : IsTrue (is_lexeme (b ∷ []) (ended rest)) = rw found refl in
    subst (Divides false at i (b ∷ ended rest)) (sym f.joined) (Divides-lexeme at i (b ∷ []) (ended rest) f.rest lexeme (sound Gap (place_past_byte at b) (i + 1) f.rest f.found))

in_gap_marked : (b : ℕ) (rest : List ℕ) (at : Place) (i : ℕ) (tokens : List Token) → Sound rest → Mark b → scan Gap at i (b ∷ rest) ≡ Ok tokens → Divides false at i (b ∷ ended rest) tokens
in_gap_marked b rest at i tokens sound space h = in_gap_space 32 rest at i tokens sound (λ gap. refl) h
in_gap_marked b rest at i tokens sound tab h = in_gap_space 9 rest at i tokens sound (λ gap. refl) h
in_gap_marked b rest at i tokens sound carriage_return h = in_gap_space 13 rest at i tokens sound (λ gap. refl) h
in_gap_marked b rest at i tokens sound line_feed h = in_gap_space 10 rest at i tokens sound (λ gap. refl) h
in_gap_marked b rest at i tokens sound opening h = in_gap_parenthesis 40 rest at i tokens sound refl h
in_gap_marked b rest at i tokens sound closing h = in_gap_parenthesis 41 rest at i tokens sound refl h
in_gap_marked b rest at i tokens sound hash h =
    Divides-byte false true 35 at i (ended rest) tokens (λ gap. refl) (sound Comment (place_past_byte at 35) (i + 1) tokens (sym (with_front-nothing (scan Comment (place_past_byte at 35) (i + 1) rest)) ∙ h))

refused_here : (b : ℕ) (within : Within) (at : Place) (i : ℕ) (rest : List ℕ) (tokens : List Token) → is_allowed b ≡ false → scan Gap at i (b ∷ rest) ≡ Ok tokens → ⊥
refused_here b within at i rest tokens e h = let refused : scan Gap at i (b ∷ rest) ≡ Err at = rw e refl in cc

in_gap_atom : (b : ℕ) (rest : List ℕ) (at : Place) (i : ℕ) (tokens : List Token) → Sound rest → is_atom_byte b ≡ true → scan Gap at i (b ∷ rest) ≡ Ok tokens → Divides false at i (b ∷ ended rest) tokens
in_gap_atom b rest at i tokens sound atom h =
    sound (Atom at i) (place_past_byte at b) (i + 1) tokens (sym (scan-Gap_atom b at i rest atom) ∙ h) (b ∷ []) (and_from (is_atom_byte b) true atom refl) refl refl

in_gap_kind : (b : ℕ) (rest : List ℕ) (at : Place) (i : ℕ) (tokens : List Token) (allowed atom : Bool) → Sound rest → is_allowed b ≡ allowed → is_atom_byte b ≡ atom → scan Gap at i (b ∷ rest) ≡ Ok tokens → Divides false at i (b ∷ ended rest) tokens
in_gap_kind b rest at i tokens allowed true sound e f h = in_gap_atom b rest at i tokens sound f h
in_gap_kind b rest at i tokens true false sound e f h = in_gap_marked b rest at i tokens sound (Mark-allowed b e f) h
in_gap_kind b rest at i tokens false false sound e f h = absurd (refused_here b Gap at i rest tokens e h)

in_gap : (b : ℕ) (rest : List ℕ) (at : Place) (i : ℕ) (tokens : List Token) → Sound rest → scan Gap at i (b ∷ rest) ≡ Ok tokens → Divides false at i (b ∷ ended rest) tokens
in_gap b rest at i tokens sound h = in_gap_kind b rest at i tokens (is_allowed b) (is_atom_byte b) sound refl refl h

-- an atom that ends here
atom_ended : (place : Place) (start : ℕ) (at : Place) (i : ℕ) (text others : List ℕ) (tokens : List Token) → IsTrue (is_atom text) → IsTrue (ends_atom others) → at ≡ place_after place text → i ≡ start + length text → Divides false at i others tokens → Divides false place start (text ++ others) (record { place = place; start = start; end = i } ∷ tokens)
atom_ended place start at i text others tokens atom ends e f h =
    let P : Place → ℕ → Type 0 = λ p n. Divides false p n others tokens in
    let there : Divides false (place_after place text) (start + length text) others tokens = subst (λ (n : ℕ). Divides false (place_after place text) n others tokens) f (subst (λ (p : Place). Divides false p i others tokens) e h) in
    let lexeme : IsTrue (is_lexeme text others) = or_right (is_parenthesis text) (is_atom text && ends_atom others) (and_from (is_atom text) (ends_atom others) atom ends) in
    subst (λ (n : ℕ). Divides false place start (text ++ others) (record { place = place; start = start; end = n } ∷ tokens)) (sym f) (Divides-lexeme place start text others tokens lexeme there)

in_atom_kind : (place : Place) (start b : ℕ) (rest : List ℕ) (at : Place) (i : ℕ) (tokens : List Token) (atom : Bool) → Sound rest → is_atom_byte b ≡ atom → scan (Atom place start) at i (b ∷ rest) ≡ Ok tokens → Means (Atom place start) at i (b ∷ rest) tokens
in_atom_kind place start b rest at i tokens true sound f h = λ text is e n.
    let more = sound (Atom place start) (place_past_byte at b) (i + 1) tokens (sym (scan-Atom_atom place start b at i rest f) ∙ h) (text ++ b ∷ []) (is_atom-more text b is f)
    (ap (λ p. place_past_byte p b) e ∙ sym (place_after-append place text (b ∷ [])))
    (omega (arith, n, length-append text (b ∷ []))) in
    subst (λ (bytes : List ℕ). Divides false place start bytes tokens) (append_assoc text (b ∷ []) (ended rest)) more
in_atom_kind place start b rest at i tokens false sound f h = λ text is e n.
    let g = with_front-Ok (open_atom_token (Atom place start) i) (scan Gap at i (b ∷ rest)) tokens (sym (scan-Atom_ended place start b at i rest f) ∙ h) in
    subst (Divides false place start (text ++ b ∷ ended rest)) (sym g.joined)
    (atom_ended place start at i text (b ∷ ended rest) g.rest is (not_from_false (is_atom_byte b) f) e n (in_gap b rest at i g.rest sound g.found))

at_end : (at : Place) (i : ℕ) → Divides false at i (10 ∷ []) []
at_end at i = record { lexemes = []; divided = refl; same = refl }

-- what a scan finds are the tokens of the text, once LF is put at its end
pub sound : (bytes : List ℕ) → Sound bytes
sound [] Gap at i tokens h = let e : [] ≡ tokens = cc in subst (Divides false at i (10 ∷ [])) e (at_end at i)
sound [] Comment at i tokens h = let e : [] ≡ tokens = cc in subst (Divides true at i (10 ∷ [])) e (record { lexemes = []; divided = refl; same = refl })
sound [] (Atom place start) at i tokens h = λ text is e n.
    let f : open_atom_token (Atom place start) i ≡ tokens = cc in
    subst (Divides false place start (text ++ 10 ∷ [])) f (atom_ended place start at i text (10 ∷ []) [] is refl e n (at_end at i))
sound (b ∷ rest) Gap at i tokens h = in_gap b rest at i tokens (sound rest) h
sound (b ∷ rest) Comment at i tokens h = in_comment b rest at i tokens (sound rest) h
sound (b ∷ rest) (Atom place start) at i tokens h = in_atom_kind place start b rest at i tokens (is_atom_byte b) (sound rest) refl h
