-- The marks along a word force that word.
use Rattle.std.proofs.Common.{◌≡◌, ℕ, ◌+◌, ◌-◌, ◌<◌, ◌≤◌, Bool, true, false, ◌&&◌, nat_le, Option, Some, None, List, [], ◌∷◌, ◌++◌, replicate, refl, ap, sym, ◌∙◌, arith, cond, append_assoc, append-nil, add-one}
use Rattle.std.specs.Bool.{⊤}
use Rattle.std.proofs.lemmas.Bool.{le-leb, leb-true}
use Rattle.std.proofs.lemmas.Option.{none-some}
use Rattle.flow_core.specs.declared.letter.Letter.{Letter}
use Rattle.flow_core.specs.declared.letter.Letter.TheVariants.{A, T, C}
use Rattle.run_audit.specs.declared.mark.Mark.{Mark}
use Rattle.run_audit.specs.ForcedWord.{with_acks, word_after, forced_word}

-- how many letters are acknowledgements
abbrev pub acks_in : List Letter → ℕ
acks_in [] = 0
acks_in (A ∷ rest) = 1 + acks_in rest
acks_in (T ∷ rest) = acks_in rest
acks_in (C ∷ rest) = acks_in rest

-- the letters that are none, each with the number of acknowledgements before it
abbrev pub marks_along : ℕ → List Letter → List Mark
marks_along at [] = []
marks_along at (A ∷ rest) = marks_along (at + 1) rest
marks_along at (T ∷ rest) = record { at = at; letter = T } ∷ marks_along at rest
marks_along at (C ∷ rest) = record { at = at; letter = C } ∷ marks_along at rest

one_ack : (letters : List Letter) (count : ℕ) → with_acks (letters ++ A ∷ []) count ≡ with_acks letters (count + 1)
one_ack letters count = append_assoc letters (A ∷ []) (replicate count A) ∙ ap (λ more. letters ++ more) (sym (more count))
  where
    more : (n : ℕ) → replicate (n + 1) A ≡ A ∷ replicate n A
    more n = ap (λ k. replicate k A) (add-one n)

-- an acknowledgement at the front of what is still to come
early : (acks : ℕ) (letters : List Letter) (at : ℕ) (marks : List Mark) (word : List Letter) → at < acks → word_after acks (letters ++ A ∷ []) (at + 1) marks ≡ Some word → word_after acks letters at marks ≡ Some word
early acks letters at [] word below is =
    let fewer : acks - at ≡ (acks - (at + 1)) + 1 = omega (arith, below) in
    ap (λ n. Some (with_acks letters n)) fewer ∙ ap (λ w. Some w) (sym (one_ack letters (acks - (at + 1)))) ∙ is
early acks letters at (mark ∷ rest) word below is = go (nat_le (at + 1) mark.at) (nat_le mark.at acks) refl refl is
  where
    next : ℕ → List Letter → Option (List Letter)
    next n before = word_after acks (with_acks before n ++ mark.letter ∷ []) mark.at rest

    go : (rises within : Bool) → nat_le (at + 1) mark.at ≡ rises → nat_le mark.at acks ≡ within
        → cond (rises && within) (next (mark.at - (at + 1)) (letters ++ A ∷ [])) None ≡ Some word
        → cond (nat_le at mark.at && nat_le mark.at acks) (next (mark.at - at) letters) None ≡ Some word
    go true true above inside is =
        let high : at + 1 ≤ mark.at = leb-true (at + 1) mark.at above in
        let fewer : mark.at - at ≡ (mark.at - (at + 1)) + 1 = omega (arith, high) in
        let low : nat_le at mark.at ≡ true = le-leb at mark.at (omega (arith, high)) in
        ap (λ b. cond (b && nat_le mark.at acks) (next (mark.at - at) letters) None) low
        ∙ ap (λ b. cond b (next (mark.at - at) letters) None) inside
        ∙ ap (λ n. next n letters) fewer
        ∙ ap (λ w. word_after acks (w ++ mark.letter ∷ []) mark.at rest) (sym (one_ack letters (mark.at - (at + 1))))
        ∙ is
    go true false above inside is = absurd (none-some word is)
    go false within above inside is = absurd (none-some word is)

at_once : (acks : ℕ) (letters : List Letter) (at : ℕ) (letter : Letter) (rest : List Mark) (word : List Letter) → at ≤ acks → word_after acks (letters ++ letter ∷ []) at rest ≡ Some word → word_after acks letters at (record { at = at; letter = letter } ∷ rest) ≡ Some word
at_once acks letters at letter rest word below is =
    ap (λ b. cond (b && nat_le at acks) (next (at - at)) None) (le-leb at at (omega arith))
    ∙ ap (λ b. cond b (next (at - at)) None) (le-leb at acks below)
    ∙ ap next none
    ∙ ap (λ w. word_after acks (w ++ letter ∷ []) at rest) (append-nil letters)
    ∙ is
  where
    none : at - at ≡ 0
    none = omega arith

    next : ℕ → Option (List Letter)
    next n = word_after acks (with_acks letters n ++ letter ∷ []) at rest

-- the word is the letters before and those along which the marks are
along : (acks : ℕ) (letters : List Letter) (at : ℕ) (word : List Letter) → at + acks_in word ≡ acks → word_after acks letters at (marks_along at word) ≡ Some (letters ++ word)
along acks letters at [] all = let none : acks - at ≡ 0 = omega (arith, all) in ap (λ n. Some (with_acks letters n)) none
along acks letters at (A ∷ rest) all =
    early acks letters at (marks_along (at + 1) rest) (letters ++ A ∷ rest) (omega (arith, all))
    (along acks (letters ++ A ∷ []) (at + 1) rest (omega (arith, all)) ∙ ap (λ w. Some w) (append_assoc letters (A ∷ []) rest))
along acks letters at (T ∷ rest) all =
    at_once acks letters at T (marks_along at rest) (letters ++ T ∷ rest) (omega (arith, all))
    (along acks (letters ++ T ∷ []) at rest all ∙ ap (λ w. Some w) (append_assoc letters (T ∷ []) rest))
along acks letters at (C ∷ rest) all =
    at_once acks letters at C (marks_along at rest) (letters ++ C ∷ rest) (omega (arith, all))
    (along acks (letters ++ C ∷ []) at rest all ∙ ap (λ w. Some w) (append_assoc letters (C ∷ []) rest))

pub forced : (acks : ℕ) (word : List Letter) → acks_in word ≡ acks → forced_word acks (marks_along 0 word) ≡ Some word
forced acks word all = along acks [] 0 word (omega (arith, all))

-- ---- how far the marks go

-- no mark stands above this number of acknowledgements
abbrev pub AreWithin : ℕ → List Mark → Type 0
AreWithin most [] = ⊤
AreWithin most (mark ∷ rest) = (mark.at ≤ most) × AreWithin most rest

pub along-within : (most at : ℕ) (word : List Letter) → at + acks_in word ≤ most → AreWithin most (marks_along at word)
along-within most at [] within = tt
along-within most at (A ∷ rest) within = along-within most (at + 1) rest (omega (arith, within))
along-within most at (T ∷ rest) within = (omega (arith, within), along-within most at rest within)
along-within most at (C ∷ rest) within = (omega (arith, within), along-within most at rest within)
