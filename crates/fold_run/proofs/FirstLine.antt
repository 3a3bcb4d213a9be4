-- The first part of a text: that it is the head of the parts, and where its end is found.
use Rattle.std.proofs.Common.{◌≡◌, ◌≢◌, ℕ, zero, suc, ◌<◌, ◌≤◌, true, false, List, [], ◌∷◌, length, take, drop, slice_index, refl, ap, ◌∙◌, arith, cond, eqb}
use Rattle.std.proofs.lemmas.Bool.{false_from_ne_true}
use Rattle.ccp_base.specs.declared.parts.Separator.{Separator}
use Rattle.ccp_base.specs.declared.parts.Separator.TheVariants.{LineFeed}
use Rattle.ccp_base.specs.Parts.{separates, with_first, parts_of}
use Rattle.fold_run.specs.FirstPart.{first_of, after_separator}

-- the first part is the head of the parts, and what follows it has the others
pub parts-first : (s : Separator) (text : List ℕ) → 0 < length text → parts_of s text ≡ first_of s text ∷ parts_of s (after_separator s text)
parts-first s [] some = absurd (omega arith)
parts-first s (byte ∷ []) some =
    elim (separates s byte) as (λ b. cond b ([] ∷ []) (with_first byte []) ≡ cond b [] (byte ∷ []) ∷ parts_of s (cond b [] [])) [ true ↦ refl | false ↦ refl ]
parts-first s (byte ∷ x ∷ rest) some =
    elim (separates s byte) as (λ b. cond b ([] ∷ parts_of s (x ∷ rest)) (with_first byte (parts_of s (x ∷ rest))) ≡ cond b [] (byte ∷ first_of s (x ∷ rest)) ∷ parts_of s (cond b (x ∷ rest) (after_separator s (x ∷ rest)))) [
      | true ↦ refl
      | false ↦ ap (with_first byte) (parts-first s (x ∷ rest) (omega arith))
    ]

-- without a line feed the text is one line
pub no-line-feed : (text : List ℕ) → ((k : ℕ) → 0 ≤ k → k < length text → eqb (slice_index text k) 10 ≢ true) → (first_of LineFeed text ≡ text) × (after_separator LineFeed text ≡ [])
no-line-feed [] none = (refl, refl)
no-line-feed (byte ∷ rest) none =
    let other : eqb byte 10 ≡ false = false_from_ne_true (eqb byte 10) (none 0 (omega arith) (omega arith)) in
    let later = no-line-feed rest (λ k low high. none (suc k) (omega arith) (omega arith)) in (
      ap (λ b. cond b [] (byte ∷ first_of LineFeed rest)) other ∙ ap (λ xs. byte ∷ xs) later.0,
      ap (λ b. cond b rest (after_separator LineFeed rest)) other ∙ later.1,
    )

-- the first line ends at the first line feed
pub at-line-feed : (text : List ℕ) (at : ℕ) → at < length text → ((k : ℕ) → 0 ≤ k → k < at → eqb (slice_index text k) 10 ≢ true) → eqb (slice_index text at) 10 ≡ true → (first_of LineFeed text ≡ take at text) × (after_separator LineFeed text ≡ drop (suc at) text)
at-line-feed [] at within before is = absurd (omega arith)
at-line-feed (byte ∷ rest) zero within before is =
    (ap (λ b. cond b [] (byte ∷ first_of LineFeed rest)) is, ap (λ b. cond b rest (after_separator LineFeed rest)) is)
at-line-feed (byte ∷ rest) (suc at) within before is =
    let other : eqb byte 10 ≡ false = false_from_ne_true (eqb byte 10) (before 0 (omega arith) (omega arith)) in
    let later = at-line-feed rest at (omega arith) (λ k low high. before (suc k) (omega arith) (omega arith)) is in (
      ap (λ b. cond b [] (byte ∷ first_of LineFeed rest)) other ∙ ap (λ xs. byte ∷ xs) later.0,
      ap (λ b. cond b rest (after_separator LineFeed rest)) other ∙ later.1,
    )
