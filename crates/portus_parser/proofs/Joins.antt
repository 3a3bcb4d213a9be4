-- The lexemes of bytes and of those that follow, and that a text has one list of them.
use Rattle.std.specs.Prelude.{◌≡◌, ℕ, ◌+◌, Bool, true, false, not, ◌&&◌, ◌==◌, if◌then◌else◌, List, [], ◌∷◌, ◌++◌, length, map}
use Rattle.std.proofs.Common.{arith, refl, ap, sym, ◌∙◌, subst, append_assoc, length-append, inl, inr}
use Rattle.std.proofs.lemmas.Bool.{and_parts, and_from, or_cases, or_left, or_right}
use Rattle.ccp_base.specs.declared.place.Place.{Place}
use Rattle.portus_lexer.specs.declared.token.Token.{Token}
use Rattle.portus_lexer.specs.Places.{first_place, place_after}
use Rattle.portus_lexer.specs.Lexemes.{Lexeme, token_of, lexeme_text, slice_of, is_blank, is_space, is_lexeme, is_parenthesis, is_atom, ends_atom, AreLexemes, AreLexemesOf, AreTokens, ended}
use Rattle.portus_lexer.proofs.Scans.{place_after-append}
use Rattle.portus_lexer.proofs.Uniqueness.{scan-lexemes}
use Rattle.portus_lexer.proofs.Slices.{slices}
use Rattle.portus_parser.specs.Readings.{lexeme_in}

by_hash : (hash space : Bool) (front back : List ℕ) → (is_blank true front ≡ true → is_blank false back ≡ true → is_blank true (front ++ back) ≡ true) → (is_blank false front ≡ true → is_blank false back ≡ true → is_blank false (front ++ back) ≡ true) → (if hash then is_blank true front else space && is_blank false front) ≡ true → is_blank false back ≡ true → (if hash then is_blank true (front ++ back) else space && is_blank false (front ++ back)) ≡ true
by_hash true space front back commented plain h k = commented h k
by_hash false space front back commented plain h k = let parts = and_parts space (is_blank false front) h in and_from space (is_blank false (front ++ back)) parts.0 (plain parts.1 k)

-- a blank text after another
pub is_blank-append : (commented : Bool) (front back : List ℕ) → is_blank commented front ≡ true → is_blank false back ≡ true → is_blank commented (front ++ back) ≡ true
is_blank-append true [] back h k = absurd (cc)
is_blank-append false [] back h k = k
is_blank-append true (b ∷ front) back h k = is_blank-append (not (b == 10)) front back h k
is_blank-append false (b ∷ front) back h k = by_hash (b == 35) (is_space b) front back (is_blank-append true front back) (is_blank-append false front back) h k

ends_atom-append : (others back : List ℕ) → ends_atom others ≡ true → ends_atom back ≡ true → ends_atom (others ++ back) ≡ true
ends_atom-append [] back h k = k
ends_atom-append (b ∷ others) back h k = h

-- what follows an atom in a part of the bytes that follow it
pub ends_atom-front : (others back : List ℕ) → ends_atom (others ++ back) ≡ true → ends_atom others ≡ true
ends_atom-front [] back h = refl
ends_atom-front (b ∷ others) back h = h

is_lexeme-append : (text others back : List ℕ) → is_lexeme text others ≡ true → ends_atom back ≡ true → is_lexeme text (others ++ back) ≡ true
is_lexeme-append text others back h k = elim (or_cases (is_parenthesis text) (is_atom text && ends_atom others) h) [
  | inl e ↦ or_left (is_parenthesis text) (is_atom text && ends_atom (others ++ back)) e
  | inr e ↦ let parts = and_parts (is_atom text) (ends_atom others) e in
      or_right (is_parenthesis text) (is_atom text && ends_atom (others ++ back)) (and_from (is_atom text) (ends_atom (others ++ back)) parts.0 (ends_atom-append others back parts.1 k))
]

pub moved : (at there : Place) (i j : ℕ) (bytes : List ℕ) (lexemes : List Lexeme) → at ≡ there → i ≡ j → AreLexemes false at i bytes lexemes → AreLexemes false there j bytes lexemes
moved at there i j bytes lexemes e f h =
    subst (λ (n : ℕ). AreLexemes false there n bytes lexemes) f (subst (λ (p : Place). AreLexemes false p i bytes lexemes) e h)

after_front : (lexemes : List Lexeme) (commented : Bool) (at : Place) (i : ℕ) (front back : List ℕ) → is_blank commented front ≡ true → AreLexemes false (place_after at front) (i + length front) back lexemes → AreLexemes commented at i (front ++ back) lexemes
after_front [] commented at i front back h k = is_blank-append commented front back h k
after_front (lexeme ∷ rest) commented at i front back h k =
    let begins = k.0 in (
      record {
        gap = front ++ begins.gap;
        others = begins.others;
        whole = ap (λ xs. front ++ xs) begins.whole ∙ sym (append_assoc front begins.gap (lexeme.text ++ begins.others));
        blank = is_blank-append commented front begins.gap h begins.blank;
        found = begins.found;
        place = begins.place ∙ sym (place_after-append at front begins.gap);
        start = omega (arith, begins.start, length-append front begins.gap);
      },
      k.1,
    )

-- lexemes of bytes, and then those of the bytes that follow
pub AreLexemes-append : (lexemes : List Lexeme) (commented : Bool) (at : Place) (i : ℕ) (front back : List ℕ) (others : List Lexeme) → AreLexemes commented at i front lexemes → AreLexemes false (place_after at front) (i + length front) back others → ends_atom back ≡ true → AreLexemes commented at i (front ++ back) (lexemes ++ others)
AreLexemes-append [] commented at i front back others h k ends = after_front others commented at i front back h k
AreLexemes-append (lexeme ∷ rest) commented at i front back others h k ends =
    let begins = h.0 in
    let split : front ++ back ≡ begins.gap ++ (lexeme.text ++ (begins.others ++ back)) =
    ap (λ xs. xs ++ back) begins.whole ∙ append_assoc begins.gap (lexeme.text ++ begins.others) back ∙ ap (λ xs. begins.gap ++ xs) (append_assoc lexeme.text begins.others back) in
    let there : place_after at front ≡ place_after (place_after lexeme.place lexeme.text) begins.others =
    ap (place_after at) begins.whole
    ∙ place_after-append at begins.gap (lexeme.text ++ begins.others)
    ∙ ap (λ p. place_after p (lexeme.text ++ begins.others)) (sym begins.place)
    ∙ place_after-append lexeme.place lexeme.text begins.others in
    let number : i + length front ≡ (lexeme.start + length lexeme.text) + length begins.others =
    omega (arith, begins.start, ap length begins.whole, length-append begins.gap (lexeme.text ++ begins.others), length-append lexeme.text begins.others) in (
      record {
        gap = begins.gap;
        others = begins.others ++ back;
        whole = split;
        blank = begins.blank;
        found = is_lexeme-append lexeme.text begins.others back begins.found ends;
        place = begins.place;
        start = begins.start;
      },
      AreLexemes-append rest false (place_after lexeme.place lexeme.text) (lexeme.start + length lexeme.text) begins.others back others h.1
          (moved (place_after at front) (place_after (place_after lexeme.place lexeme.text) begins.others) (i + length front) ((lexeme.start + length lexeme.text) + length begins.others) back others there number k) ends,
    )

again : (text : List ℕ) (lexemes : List Lexeme) → map (slice_of text) (map token_of lexemes) ≡ map lexeme_text lexemes → map (lexeme_in text) (map token_of lexemes) ≡ lexemes
again text [] h = refl
again text (lexeme ∷ rest) h =
    let here : slice_of text (token_of lexeme) ≡ lexeme.text = cc in
    let others : map (slice_of text) (map token_of rest) ≡ map lexeme_text rest = cc in
    ap (λ (b : List ℕ). record { place = lexeme.place; start = lexeme.start; text = b } ∷ map (lexeme_in text) (map token_of rest)) here
    ∙ ap (λ xs. lexeme ∷ xs) (again text rest others)

-- the tokens of a text give its lexemes again
pub lexemes-again : (text : List ℕ) (tokens : List Token) (are : AreTokens text tokens) → map (lexeme_in text) tokens ≡ are.lexemes
lexemes-again text tokens are =
    ap (map (lexeme_in text)) are.same
    ∙ again text are.lexemes (sym (ap (map (slice_of text)) are.same) ∙ are.slices)

-- lexemes are determined by the text
pub lexemes-unique : (text : List ℕ) (left right : List Lexeme) → AreLexemesOf text left → AreLexemesOf text right → left ≡ right
lexemes-unique text left right h k =
    let e = scan-lexemes text left h in
    let f = scan-lexemes text right k in
    let same : map token_of left ≡ map token_of right = cc in
    sym (again text left (slices left false first_place 0 [] (ended text) text h refl refl))
    ∙ ap (map (lexeme_in text)) same
    ∙ again text right (slices right false first_place 0 [] (ended text) text k refl refl)
