-- The tokens of a text are found by the scan, so there is one list of them.
use Rattle.std.specs.Prelude.{◌≡◌, ℕ, ◌+◌, Bool, true, false, not, ◌&&◌, ◌==◌, Result, Ok, Err, if◌then◌else◌, List, [], ◌∷◌, ◌++◌, length, map, suc}
use Rattle.std.specs.List.{list_all}
use Rattle.std.proofs.Common.{arith, refl, ap, sym, ◌∙◌, subst, append-nil, inl, inr}
use Rattle.std.proofs.lemmas.Bool.{and_parts, or_cases, not-true, eqb-true}
use Rattle.ccp_base.specs.declared.place.Place.{Place}
use Rattle.portus_lexer.specs.declared.token.Token.{Token}
use Rattle.portus_lexer.specs.declared.within.Within.{Within}
use Rattle.portus_lexer.specs.declared.within.Within.TheVariants.{Gap, Comment, Atom}
use Rattle.portus_lexer.specs.Bytes.{is_atom_byte}
use Rattle.portus_lexer.specs.Places.{first_place, place_past_byte, place_after}
use Rattle.portus_lexer.specs.Lexemes.{Lexeme, token_of, is_blank, is_space, is_lexeme, is_parenthesis, is_atom, ends_atom, AreLexemes, AreLexemesOf, ended}
use Rattle.portus_lexer.specs.Scanning.{scan, with_front, open_atom_token, is_refused, put_by, within_next}
use Rattle.portus_lexer.proofs.ByteKinds.{Mark, space, tab, carriage_return, line_feed, opening, closing, hash, Mark-space}
use Rattle.portus_lexer.proofs.Scans.{with_front-nothing, scan-Gap_atom, scan-Atom_atom, scan-Atom_ended}

-- a scan that begins in a comment or not
abbrev begun : Bool → Within
begun true = Comment
begun false = Gap

within_after : (ends : Bool) → (if ends then Gap else Comment) ≡ begun (not ends)
within_after true = refl
within_after false = refl

moved : (within : Within) (at : Place) (i j : ℕ) (bytes : List ℕ) → i ≡ j → scan within at i bytes ≡ scan within at j bytes
moved within at i j bytes e = ap (λ n. scan within at n bytes) e

abbrev Walks : List ℕ → Type 0
Walks gap = (commented : Bool) (at : Place) (i : ℕ) (others : List ℕ) → is_blank commented gap ≡ true → scan (begun commented) at i (gap ++ others) ≡ scan Gap (place_after at gap) (i + length gap) others

-- one byte of a blank text
walked : (b : ℕ) (rest : List ℕ) (next : Bool) (at : Place) (i : ℕ) (others : List ℕ) → Walks rest → is_blank next rest ≡ true → with_front [] (scan (begun next) (place_past_byte at b) (i + 1) (rest ++ others)) ≡ scan Gap (place_after (place_past_byte at b) rest) (i + suc (length rest)) others
walked b rest next at i others walks blank =
    with_front-nothing (scan (begun next) (place_past_byte at b) (i + 1) (rest ++ others))
    ∙ walks next (place_past_byte at b) (i + 1) others blank
    ∙ moved Gap (place_after (place_past_byte at b) rest) ((i + 1) + length rest) (i + suc (length rest)) others (omega arith)

abbrev WalksFrom : ℕ → List ℕ → Type 0
WalksFrom b rest = (at : Place) (i : ℕ) (others : List ℕ) → is_blank false (b ∷ rest) ≡ true → scan Gap at i (b ∷ (rest ++ others)) ≡ scan Gap (place_after (place_past_byte at b) rest) (i + suc (length rest)) others

walked_space : (b : ℕ) (rest : List ℕ) → Mark b → (b == 35) ≡ false → Walks rest → WalksFrom b rest
walked_space b rest space other walks = λ at i others blank. walked 32 rest false at i others walks blank
walked_space b rest tab other walks = λ at i others blank. walked 9 rest false at i others walks blank
walked_space b rest carriage_return other walks = λ at i others blank. walked 13 rest false at i others walks blank
walked_space b rest line_feed other walks = λ at i others blank. walked 10 rest false at i others walks blank
walked_space b rest opening other walks = λ at i others blank. absurd (cc)
walked_space b rest closing other walks = λ at i others blank. absurd (cc)
walked_space b rest hash other walks = absurd (cc)

walked_hash : (b : ℕ) (rest : List ℕ) → 35 ≡ b → Walks rest → WalksFrom b rest
walked_hash b rest e walks = subst (λ (c : ℕ). WalksFrom c rest) e (λ at i others blank. walked 35 rest true at i others walks blank)

walked_kind : (b : ℕ) (rest : List ℕ) (hash : Bool) → (b == 35) ≡ hash → Walks rest → WalksFrom b rest
walked_kind b rest true e walks = walked_hash b rest (sym (eqb-true b 35 e)) walks
walked_kind b rest false e walks = λ at i others blank.
    let opened : (is_space b && is_blank false rest) ≡ true = rw e at blank in
    walked_space b rest (Mark-space b (and_parts (is_space b) (is_blank false rest) opened).0) e walks at i others blank

-- a scan skips a blank text
scan-blank : (gap : List ℕ) → Walks gap
scan-blank [] true at i others blank = absurd (cc)
scan-blank [] false at i others blank = moved Gap at i (i + 0) others (omega arith)
scan-blank (b ∷ rest) true at i others blank =
    ap (λ w. with_front [] (scan w (place_past_byte at b) (i + 1) (rest ++ others))) (within_after (b == 10))
    ∙ walked b rest (not (b == 10)) at i others (scan-blank rest) blank
scan-blank (b ∷ rest) false at i others blank = walked_kind b rest (b == 35) refl (scan-blank rest) at i others blank

-- a scan reads the bytes of an atom
scan-atom : (text : List ℕ) (place : Place) (start : ℕ) (at : Place) (i : ℕ) (others : List ℕ) → list_all is_atom_byte text ≡ true → scan (Atom place start) at i (text ++ others) ≡ scan (Atom place start) (place_after at text) (i + length text) others
scan-atom [] place start at i others all = moved (Atom place start) at i (i + 0) others (omega arith)
scan-atom (b ∷ rest) place start at i others all =
    let parts = and_parts (is_atom_byte b) (list_all is_atom_byte rest) all in
    scan-Atom_atom place start b at i (rest ++ others) parts.0
    ∙ scan-atom rest place start (place_past_byte at b) (i + 1) others parts.1
    ∙ moved (Atom place start) (place_after (place_past_byte at b) rest) ((i + 1) + length rest) (i + suc (length rest)) others (omega arith)

-- it puts the atom where it ends
scan-atom_end : (place : Place) (start : ℕ) (at : Place) (i : ℕ) (others : List ℕ) → ends_atom others ≡ true → scan (Atom place start) at i others ≡ with_front (open_atom_token (Atom place start) i) (scan Gap at i others)
scan-atom_end place start at i [] ends = refl
scan-atom_end place start at i (b ∷ rest) ends = scan-Atom_ended place start b at i rest (not-true (is_atom_byte b) ends)

abbrev PutsLexeme : Place → ℕ → List ℕ → List ℕ → Type 0
PutsLexeme at i text others = scan Gap at i (text ++ others) ≡ with_front (record { place = at; start = i; end = i + length text } ∷ []) (scan Gap (place_after at text) (i + length text) others)

scan-lexeme_atom : (text : List ℕ) (at : Place) (i : ℕ) (others : List ℕ) → is_atom text ≡ true → ends_atom others ≡ true → PutsLexeme at i text others
scan-lexeme_atom [] at i others atom ends = absurd (cc)
scan-lexeme_atom (b ∷ rest) at i others atom ends =
    let parts = and_parts (is_atom_byte b) (list_all is_atom_byte rest) atom in
    scan-Gap_atom b at i (rest ++ others) parts.0
    ∙ scan-atom rest at i (place_past_byte at b) (i + 1) others parts.1
    ∙ moved (Atom at i) (place_after (place_past_byte at b) rest) ((i + 1) + length rest) (i + suc (length rest)) others (omega arith)
    ∙ scan-atom_end at i (place_after (place_past_byte at b) rest) (i + suc (length rest)) others ends

scan-lexeme_parenthesis : (text : List ℕ) (at : Place) (i : ℕ) (others : List ℕ) → is_parenthesis text ≡ true → PutsLexeme at i text others
scan-lexeme_parenthesis [] at i others h = absurd (cc)
scan-lexeme_parenthesis (b ∷ c ∷ rest) at i others h = absurd (cc)
scan-lexeme_parenthesis (b ∷ []) at i others h = elim (or_cases (b == 40) (b == 41) h) [
  | inl e ↦ subst (λ (c : ℕ). PutsLexeme at i (c ∷ []) others) (sym (eqb-true b 40 e)) refl
  | inr e ↦ subst (λ (c : ℕ). PutsLexeme at i (c ∷ []) others) (sym (eqb-true b 41 e)) refl
]

scan-lexeme : (text : List ℕ) (at : Place) (i : ℕ) (others : List ℕ) → is_lexeme text others ≡ true → PutsLexeme at i text others
scan-lexeme text at i others h = elim (or_cases (is_parenthesis text) (is_atom text && ends_atom others) h) [
  | inl e ↦ scan-lexeme_parenthesis text at i others e
  | inr e ↦ let parts = and_parts (is_atom text) (ends_atom others) e in scan-lexeme_atom text at i others parts.0 parts.1
]

-- a scan finds the tokens of the bytes' lexemes
pub complete : (lexemes : List Lexeme) (commented : Bool) (at : Place) (i : ℕ) (bytes : List ℕ) → AreLexemes commented at i bytes lexemes → scan (begun commented) at i bytes ≡ Ok (map token_of lexemes)
complete [] commented at i bytes h = sym (ap (scan (begun commented) at i) (append-nil bytes)) ∙ scan-blank bytes commented at i [] h
complete (lexeme ∷ rest) commented at i bytes h =
    let begins = h.0 in
    let there = place_after at begins.gap in
    let found : PutsLexeme lexeme.place lexeme.start lexeme.text begins.others = scan-lexeme lexeme.text lexeme.place lexeme.start begins.others begins.found in
    let rested = complete rest false (place_after lexeme.place lexeme.text) (lexeme.start + length lexeme.text) begins.others h.1 in
    ap (scan (begun commented) at i) begins.whole
    ∙ scan-blank begins.gap commented at i (lexeme.text ++ begins.others) begins.blank
    ∙ moved Gap there (i + length begins.gap) lexeme.start (lexeme.text ++ begins.others) (sym begins.start)
    ∙ ap (λ p. scan Gap p lexeme.start (lexeme.text ++ begins.others)) (sym begins.place)
    ∙ found
    ∙ ap (with_front (token_of lexeme ∷ [])) rested

-- LF at the end adds no token
pub scan-ended : (bytes : List ℕ) (within : Within) (at : Place) (i : ℕ) → scan within at i (ended bytes) ≡ scan within at i bytes
scan-ended [] Gap at i = refl
scan-ended [] Comment at i = refl
scan-ended [] (Atom place start) at i = refl
scan-ended (b ∷ rest) within at i =
    ap (λ (outcome : Result (List Token) Place). if is_refused within b then Err at else with_front (put_by within at i b) outcome) (scan-ended rest (within_next within at i b) (place_past_byte at b) (i + 1))

pub scan-lexemes : (text : List ℕ) (lexemes : List Lexeme) → AreLexemesOf text lexemes → scan Gap first_place 0 text ≡ Ok (map token_of lexemes)
scan-lexemes text lexemes h = sym (scan-ended text Gap first_place 0) ∙ complete lexemes false first_place 0 (ended text) h
