-- The lexemes of a text are slices of it, within its bytes.
use Rattle.std.specs.Prelude.{◌≡◌, ℕ, ◌+◌, ◌-◌, ◌≤◌, ◌<◌, Bool, true, false, ◌&&◌, ◌==◌, List, [], ◌∷◌, ◌++◌, length, map, take, drop, slice_range}
use Rattle.std.specs.List.{list_all, All}
use Rattle.std.proofs.lemmas.List.Elements.{All-cons}
use Rattle.std.proofs.Common.{arith, refl, ap, sym, ◌∙◌, append_assoc, append-nil, length-append, length-drop, inl, inr}
use Rattle.std.proofs.Math.Seq.{drop-append_seam, take-append_seam}
use Rattle.std.proofs.lemmas.List.{take-append-le, drop-append-le}
use Rattle.std.proofs.lemmas.Bool.Decides.{nat_tests}
use Rattle.std.proofs.lemmas.Bool.{and_parts, or_cases}
use Rattle.ccp_base.specs.declared.place.Place.{Place}
use Rattle.portus_lexer.specs.Bytes.{is_atom_byte}
use Rattle.portus_lexer.specs.Places.{place_after}
use Rattle.portus_lexer.specs.Lexemes.{Lexeme, token_of, lexeme_text, slice_of, IsSpan, is_lexeme, is_parenthesis, is_atom, ends_atom, AreLexemes, ended}

-- whether bytes end with LF
abbrev ends_line : List ℕ → Bool
ends_line [] = false
ends_line (b ∷ []) = b == 10
ends_line (b ∷ c ∷ rest) = ends_line (c ∷ rest)

ends_line-cons : (b : ℕ) (rest : List ℕ) → ends_line (b ∷ (rest ++ 10 ∷ [])) ≡ ends_line (rest ++ 10 ∷ [])
ends_line-cons b [] = refl
ends_line-cons b (c ∷ rest) = refl

ends_line-ended : (text : List ℕ) → ends_line (ended text) ≡ true
ends_line-ended [] = refl
ends_line-ended (b ∷ rest) = ends_line-cons b rest ∙ ends_line-ended rest

ends_line-front : (front : List ℕ) (b : ℕ) (rest : List ℕ) → ends_line (front ++ b ∷ rest) ≡ ends_line (b ∷ rest)
ends_line-front [] b rest = refl
ends_line-front (c ∷ []) b rest = refl
ends_line-front (c ∷ d ∷ front) b rest = ends_line-front (d ∷ front) b rest

no_line_feed : (b : ℕ) → is_atom_byte b ≡ true → (b == 10) ≡ false
no_line_feed b h = grind (arith, nat_tests)

atom_goes_on : (b : ℕ) (rest : List ℕ) → is_atom_byte b ≡ true → list_all is_atom_byte rest ≡ true → ends_line (b ∷ rest) ≡ false
atom_goes_on b [] h all = no_line_feed b h
atom_goes_on b (c ∷ rest) h all = let parts = and_parts (is_atom_byte c) (list_all is_atom_byte rest) all in atom_goes_on c rest parts.0 parts.1

parenthesis_last : (b : ℕ) (rest : List ℕ) → is_parenthesis (b ∷ rest) ≡ true → ends_line (b ∷ rest) ≡ true → ⊥
parenthesis_last b [] h kept = grind (arith, nat_tests)
parenthesis_last b (c ∷ rest) h kept = cc

not_last : (front text others whole : List ℕ) → is_lexeme text others ≡ true → front ++ text ≡ ended whole → ⊥
not_last front [] others whole found h = absurd (cc)
not_last front (b ∷ rest) others whole found h =
    let kept : ends_line (b ∷ rest) ≡ true = sym (ends_line-front front b rest) ∙ ap ends_line h ∙ ends_line-ended whole in
    elim (or_cases (is_parenthesis (b ∷ rest)) (is_atom (b ∷ rest) && ends_atom others) found) [
      | inl e ↦ parenthesis_last b rest e kept
      | inr e ↦ let parts = and_parts (is_atom_byte b) (list_all is_atom_byte rest) (and_parts (is_atom (b ∷ rest)) (ends_atom others) e).0 in
          let other = atom_goes_on b rest parts.0 parts.1 in cc
    ]

-- a lexeme lies within the text, before the LF at its end
lexeme-within : (front text others whole : List ℕ) → is_lexeme text others ≡ true → front ++ (text ++ others) ≡ ended whole → length front + length text ≤ length whole
lexeme-within front text [] whole found h = absurd (not_last front text [] whole found (ap (λ xs. front ++ xs) (sym (append-nil text)) ∙ h))
lexeme-within front text (c ∷ others) whole found h =
    omega (arith, ap length h, length-append front (text ++ c ∷ others), length-append text (c ∷ others), length-append whole (10 ∷ []))

slice-front : (front text others whole : List ℕ) → length front + length text ≤ length whole → front ++ (text ++ others) ≡ ended whole → slice_range whole (length front) (length front + length text) ≡ text
slice-front front text others whole within h =
    let a = length front in
    let n = length text in
    let n-is : (a + n) - a ≡ n = omega arith in
    let short : a ≤ length whole = omega arith in
    let long : n ≤ length (drop a whole) = omega (arith, length-drop a whole) in
    let dropped : drop a whole ++ 10 ∷ [] ≡ text ++ others = sym (drop-append-le a whole (10 ∷ []) short) ∙ ap (drop a) (sym h) ∙ drop-append_seam front (text ++ others) in
    ap (λ k. take k (drop a whole)) n-is
    ∙ sym (take-append-le n (drop a whole) (10 ∷ []) long)
    ∙ ap (take n) dropped
    ∙ take-append_seam text others

abbrev pub AreSlices : List ℕ → List Lexeme → Type 0
AreSlices whole lexemes = map (slice_of whole) (map token_of lexemes) ≡ map lexeme_text lexemes

-- the front of the ended text, up to a lexeme's first byte
fronted : (front gap rest bytes whole : List ℕ) → bytes ≡ gap ++ rest → front ++ bytes ≡ ended whole → (front ++ gap) ++ rest ≡ ended whole
fronted front gap rest bytes whole e h = append_assoc front gap rest ∙ ap (λ xs. front ++ xs) (sym e) ∙ h

pub slices : (lexemes : List Lexeme) (commented : Bool) (at : Place) (number : ℕ) (front bytes whole : List ℕ) → AreLexemes commented at number bytes lexemes → number ≡ length front → front ++ bytes ≡ ended whole → AreSlices whole lexemes
slices [] commented at number front bytes whole h n e = refl
slices (lexeme ∷ rest) commented at number front bytes whole h n e =
    let begins = h.0 in
    let before = front ++ begins.gap in
    let here = fronted front begins.gap (lexeme.text ++ begins.others) bytes whole begins.whole e in
    let start-is : lexeme.start ≡ length before = omega (arith, begins.start, n, length-append front begins.gap) in
    let first : slice_of whole (token_of lexeme) ≡ lexeme.text =
    ap (λ s. slice_range whole s (s + length lexeme.text)) start-is
    ∙ slice-front before lexeme.text begins.others whole (lexeme-within before lexeme.text begins.others whole begins.found here) here in
    let others = slices rest false (place_after lexeme.place lexeme.text) (lexeme.start + length lexeme.text) (before ++ lexeme.text) begins.others whole h.1
    (omega (arith, start-is, length-append before lexeme.text))
    (append_assoc before lexeme.text begins.others ∙ here) in
    ap (λ x. x ∷ map (slice_of whole) (map token_of rest)) first ∙ ap (λ xs. lexeme.text ∷ xs) others

not_empty : (text others : List ℕ) → is_lexeme text others ≡ true → 0 < length text
not_empty [] others found = absurd (cc)
not_empty (b ∷ rest) others found = omega arith

pub spans : (lexemes : List Lexeme) (commented : Bool) (at : Place) (number : ℕ) (front bytes whole : List ℕ) → AreLexemes commented at number bytes lexemes → number ≡ length front → front ++ bytes ≡ ended whole → All (IsSpan whole) (map token_of lexemes)
spans [] commented at number front bytes whole h n e = λ k d below. absurd (omega arith)
spans (lexeme ∷ rest) commented at number front bytes whole h n e =
    let begins = h.0 in
    let before = front ++ begins.gap in
    let here = fronted front begins.gap (lexeme.text ++ begins.others) bytes whole begins.whole e in
    let start-is : lexeme.start ≡ length before = omega (arith, begins.start, n, length-append front begins.gap) in
    let inside = lexeme-within before lexeme.text begins.others whole begins.found here in
    let some = not_empty lexeme.text begins.others begins.found in
    let others = spans rest false (place_after lexeme.place lexeme.text) (lexeme.start + length lexeme.text) (before ++ lexeme.text) begins.others whole h.1
    (omega (arith, start-is, length-append before lexeme.text))
    (append_assoc before lexeme.text begins.others ∙ here) in
    All-cons (IsSpan whole) (token_of lexeme) (map token_of rest) (omega arith, omega arith) others
