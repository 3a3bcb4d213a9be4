-- That a text which is cut is its program, a separator line and the rest.
use Rattle.std.proofs.Common.{◌≡◌, ℕ, zero, suc, ◌+◌, ◌-◌, ◌<◌, ◌⊎◌, inl, inr, Bool, true, false, not, ◌&&◌, Option, Some, None, option_map, List, [], ◌∷◌, ◌++◌, length, take, drop, position, refl, ap, ap₂, sym, subst, ◌∙◌, arith, cond, length-append, append_assoc}
use Rattle.std.proofs.Math.Seq.{take-append_seam}
use Rattle.std.proofs.lemmas.Bool.Decides.{nat_tests}
use Rattle.std.specs.List.{list_all}
use Rattle.ccp_base.specs.declared.parts.Separator.TheVariants.{LineFeed}
use Rattle.ccp_base.specs.Parts.{separates, with_first, parts_of}
use Rattle.fold_run.specs.FirstPart.{first_of, after_separator}
use Rattle.fold_run.specs.Separated.{Cut, is_separator, after_lines, cut_at}
use Rattle.fold_run.specs.ReadingLaws.{is_other, IsCutAt, CutLaw}
use Rattle.fold_run.proofs.FirstLine.{parts-first}
use Rattle.fold_run.proofs.FirstWord.{here, past}
use Rattle.fold_run.proofs.SeparatedLemmas.{after_lines-next}

-- a first line has no line feed in it
first-free : (text after : List ℕ) → parts_of LineFeed (first_of LineFeed text ++ 10 ∷ after) ≡ first_of LineFeed text ∷ parts_of LineFeed after
first-free [] after = refl
first-free (byte ∷ rest) after = go (first-free rest after) (separates LineFeed byte) refl
  where
    go : parts_of LineFeed (first_of LineFeed rest ++ 10 ∷ after) ≡ first_of LineFeed rest ∷ parts_of LineFeed after → (b : Bool) → separates LineFeed byte ≡ b
        → parts_of LineFeed (first_of LineFeed (byte ∷ rest) ++ 10 ∷ after) ≡ first_of LineFeed (byte ∷ rest) ∷ parts_of LineFeed after
    go later true is =
        let front = ap (λ b. cond b [] (byte ∷ first_of LineFeed rest)) is in
        ap (λ line. parts_of LineFeed (line ++ 10 ∷ after)) front ∙ sym (ap (λ line. line ∷ parts_of LineFeed after) front)
    go later false is =
        let front = ap (λ b. cond b [] (byte ∷ first_of LineFeed rest)) is in
        let parts = parts_of LineFeed (first_of LineFeed rest ++ 10 ∷ after) in
        ap (λ line. parts_of LineFeed (line ++ 10 ∷ after)) front
        ∙ ap (λ b. cond b ([] ∷ parts) (with_first byte parts)) is
        ∙ ap (with_first byte) later
        ∙ sym (ap (λ line. line ∷ parts_of LineFeed after) front)

-- a text is its first line, and what follows it
split-line : (text : List ℕ) → (text ≡ first_of LineFeed text ++ 10 ∷ after_separator LineFeed text) ⊎ ((text ≡ first_of LineFeed text) × (after_separator LineFeed text ≡ []))
split-line [] = inr (refl, refl)
split-line (byte ∷ rest) = go (split-line rest) (separates LineFeed byte) refl
  where
    go : (rest ≡ first_of LineFeed rest ++ 10 ∷ after_separator LineFeed rest) ⊎ ((rest ≡ first_of LineFeed rest) × (after_separator LineFeed rest ≡ [])) → (b : Bool) → separates LineFeed byte ≡ b
        → (byte ∷ rest ≡ first_of LineFeed (byte ∷ rest) ++ 10 ∷ after_separator LineFeed (byte ∷ rest)) ⊎ ((byte ∷ rest ≡ first_of LineFeed (byte ∷ rest)) × (after_separator LineFeed (byte ∷ rest) ≡ []))
    go later true is =
        let same : byte ≡ 10 = grind (arith, nat_tests, is) in
        let first = ap (λ b. cond b [] (byte ∷ first_of LineFeed rest)) is in
        let behind = ap (λ b. cond b rest (after_separator LineFeed rest)) is in
        inl (ap (λ x. x ∷ rest) same ∙ sym (ap₂ (λ line after. line ++ 10 ∷ after) first behind))
    go (inl e) false is =
        let first = ap (λ b. cond b [] (byte ∷ first_of LineFeed rest)) is in
        let behind = ap (λ b. cond b rest (after_separator LineFeed rest)) is in
        inl (ap (λ xs. byte ∷ xs) e ∙ sym (ap₂ (λ line after. line ++ 10 ∷ after) first behind))
    go (inr p) false is =
        let first = ap (λ b. cond b [] (byte ∷ first_of LineFeed rest)) is in
        let behind = ap (λ b. cond b rest (after_separator LineFeed rest)) is in
        inr (ap (λ xs. byte ∷ xs) p.0 ∙ sym first, behind ∙ p.1)

-- the lines before a line, with their line feeds, and those from it on
record Front (n : ℕ) (text : List ℕ) : Type 0 where
  front : List ℕ
  whole : text ≡ front ++ after_lines n text
  lines : parts_of LineFeed front ≡ take n (parts_of LineFeed text)
  left : parts_of LineFeed (after_lines n text) ≡ drop n (parts_of LineFeed text)

front-of : (n : ℕ) (text : List ℕ) → n < length (parts_of LineFeed text) → Front n text
front-of zero text within = record { front = []; whole = refl; lines = refl; left = refl }
front-of (suc n) [] within = absurd (omega arith)
front-of (suc n) (byte ∷ rest) within =
    let text = byte ∷ rest in
    let parts = parts-first LineFeed text (omega arith) in
    let count = ap length parts in
    let later = front-of n (after_separator LineFeed text) (omega (arith, count)) in
    go parts later (split-line text)
  where
    text : List ℕ
    text = byte ∷ rest

    go : parts_of LineFeed text ≡ first_of LineFeed text ∷ parts_of LineFeed (after_separator LineFeed text) → Front n (after_separator LineFeed text)
        → (text ≡ first_of LineFeed text ++ 10 ∷ after_separator LineFeed text) ⊎ ((text ≡ first_of LineFeed text) × (after_separator LineFeed text ≡ [])) → Front (suc n) text
    go parts later (inl whole) = record {
      front = first_of LineFeed text ++ 10 ∷ later.front;
      whole = whole ∙ ap (λ after. first_of LineFeed text ++ 10 ∷ after) later.whole ∙ sym (append_assoc (first_of LineFeed text) (10 ∷ later.front) (after_lines n (after_separator LineFeed text)));
      lines = first-free text later.front ∙ ap (λ lines. first_of LineFeed text ∷ lines) later.lines ∙ sym (ap (take (suc n)) parts);
      left = later.left ∙ sym (ap (drop (suc n)) parts);
    }
    go parts later (inr p) =
        let none = ap (parts_of LineFeed) p.1 in
        let count = ap length none in
        record {
          front = text;
          whole = absurd (no-line n (after_separator LineFeed text) p.1 within parts);
          lines = absurd (no-line n (after_separator LineFeed text) p.1 within parts);
          left = absurd (no-line n (after_separator LineFeed text) p.1 within parts);
        }
      where
        no-line : (n : ℕ) (after : List ℕ) → after ≡ [] → suc n < length (parts_of LineFeed text) → parts_of LineFeed text ≡ first_of LineFeed text ∷ parts_of LineFeed after → ⊥
        no-line n after none within parts =
            let count = ap length (parts ∙ ap (λ xs. first_of LineFeed text ∷ parts_of LineFeed xs) none) in omega (arith, count)

-- the first separator among lines
record FirstAt (lines : List (List ℕ)) (n : ℕ) : Type 0 where
  within : n < length lines
  others : list_all is_other (take n lines) ≡ true
  line : List ℕ
  more : List (List ℕ)
  here_is : drop n lines ≡ line ∷ more
  separator : is_separator line ≡ true

first-at : (lines : List (List ℕ)) (n : ℕ) → position is_separator lines ≡ Some n → FirstAt lines n
first-at [] n is = cc
first-at (line ∷ rest) n is = go (first-at rest) (is_separator line) refl (position is_separator rest) refl
  where
    go : ((n : ℕ) → position is_separator rest ≡ Some n → FirstAt rest n) → (b : Bool) → is_separator line ≡ b → (later : Option ℕ) → position is_separator rest ≡ later → FirstAt (line ∷ rest) n
    go again true sep later found =
        let first = sym (here is_separator line rest sep) ∙ is in
        let zero_is : zero ≡ n = cc in
        subst (λ (k : ℕ). FirstAt (line ∷ rest) k) zero_is (record { within = omega arith; others = refl; line = line; more = rest; here_is = refl; separator = sep })
    go again false sep None found =
        let none = sym (past is_separator line rest sep ∙ ap (option_map (λ k. 1 + k)) found) ∙ is in
        let bad : ⊥ = cc in absurd bad
    go again false sep (Some m) found =
        let some = sym (past is_separator line rest sep ∙ ap (option_map (λ k. 1 + k)) found) ∙ is in
        let place : 1 + m ≡ n = cc in
        let same : suc m ≡ n = omega (arith, place) in
        let f = again m found in
        subst (λ (k : ℕ). FirstAt (line ∷ rest) k) same (record {
          within = omega (arith, f.within);
          others = ap (λ b. not b && list_all is_other (take m rest)) sep ∙ f.others;
          line = f.line;
          more = f.more;
          here_is = f.here_is;
          separator = f.separator;
        })

cut-at : (text : List ℕ) (n : ℕ) → position is_separator (parts_of LineFeed text) ≡ Some n → IsCutAt text (cut_at text n)
cut-at text n is =
    let at = first-at (parts_of LineFeed text) n is in
    let f = front-of n text at.within in
    let left = after_lines n text in
    let first = first-line left (f.left ∙ at.here_is) in
    let program = program_is f.front left f.whole in
    record {
      line = first_of LineFeed left;
      separator = ap is_separator first ∙ at.separator;
      whole = whole f program (split-line left);
      others = ap (λ xs. list_all is_other (parts_of LineFeed xs)) program ∙ ap (list_all is_other) f.lines ∙ at.others;
    }
  where
    first-line : {line : List ℕ} {more : List (List ℕ)} (left : List ℕ) → parts_of LineFeed left ≡ line ∷ more → first_of LineFeed left ≡ line
    first-line [] is = cc
    first-line (byte ∷ rest) is = let e = sym (parts-first LineFeed (byte ∷ rest) (omega arith)) ∙ is in cc

    program_is : (front left : List ℕ) → text ≡ front ++ left → take (length text - length left) text ≡ front
    program_is front left e =
        let count = ap length e ∙ length-append front left in
        let n : length text - length left ≡ length front = omega (arith, count) in
        ap (λ k. take k text) n ∙ ap (take (length front)) e ∙ take-append_seam front left

    whole : (f : Front n text) → (cut_at text n).program ≡ f.front
        → (after_lines n text ≡ first_of LineFeed (after_lines n text) ++ 10 ∷ after_separator LineFeed (after_lines n text)) ⊎ ((after_lines n text ≡ first_of LineFeed (after_lines n text)) × (after_separator LineFeed (after_lines n text) ≡ []))
        → (text ≡ (cut_at text n).program ++ first_of LineFeed (after_lines n text) ++ 10 ∷ (cut_at text n).rest) ⊎ ((text ≡ (cut_at text n).program ++ first_of LineFeed (after_lines n text)) × ((cut_at text n).rest ≡ []))
    whole f program (inl e) = inl (
        f.whole ∙ ap₂ (λ front left. front ++ left) (sym program) e
        ∙ sym (append_assoc (cut_at text n).program (first_of LineFeed (after_lines n text)) (10 ∷ after_separator LineFeed (after_lines n text)))
        ∙ ap (λ rest. ((cut_at text n).program ++ first_of LineFeed (after_lines n text)) ++ 10 ∷ rest) (sym (after_lines-next n text)))
    whole f program (inr p) = inr (f.whole ∙ ap₂ (λ front left. front ++ left) (sym program) p.0, after_lines-next n text ∙ p.1)

pub cut-law : CutLaw
cut-law text cut is = go (position is_separator (parts_of LineFeed text)) refl
  where
    go : (found : Option ℕ) → position is_separator (parts_of LineFeed text) ≡ found → IsCutAt text cut
    go None found = let none = sym (ap (option_map (cut_at text)) found) ∙ is in cc
    go (Some n) found =
        let some = sym (ap (option_map (cut_at text)) found) ∙ is in
        let same : cut_at text n ≡ cut = cc in
        subst (λ (c : Cut). IsCutAt text c) same (cut-at text n found)
