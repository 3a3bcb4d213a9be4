-- The words of a slot, when words of a region are written.
use Rattle.std.proofs.Common.{◌≡◌, ◌≢◌, ℕ, ◌+◌, ◌-◌, ◌*◌, ◌<◌, ◌≤◌, List, ◌++◌, length, set, take, drop, append_assoc, refl, sym, ap, ◌∙◌, inl, inr, arith, rules}
use Rattle.std.proofs.Math.Nat.{mul-le-mul_right}
use Rattle.std.proofs.Math.Seq.{take-set-lt}
use Rattle.std.proofs.lemmas.Bool.{cases_order}
use Rattle.std.proofs.lemmas.List.{drop-set-add, drop-set-lt, take-set-le, drop-drop, drop-take, drop_at, take_at, length-take-le, length-append, length-take, length-drop, same_lists, places}
use Rattle.std.proofs.lemmas.Slice.{take-put_mid_below, drop-put_mid}
use borrow.Rule.Slice.PartMut.{put_mid}
use lib.Seq.{paste}
use Rattle.slot_pool.specs.Pool.{with_run}
use Rattle.slot_pool.specs.Region.{slot_words_in}

-- a slot ends before each later one begins
pub slots_in_order : (words a b : ℕ) → a < b → a * words + words ≤ b * words
slots_in_order words a b h = omega (arith, mul-le-mul_right words (suc_le a b h))
  where
    suc_le : (a b : ℕ) → a < b → a + 1 ≤ b
    suc_le a b h = omega arith

-- a slot has `words` words
pub length-words_in : (region : List ℕ) (words slot : ℕ) → slot * words + words ≤ length region → length (slot_words_in region words slot) ≡ words
length-words_in region words slot room = simp (length-take, length-drop) (omega arith)

-- after a write within a slot
pub words_in-set : (region : List ℕ) (words slot at word : ℕ) → at < words → slot_words_in (set region (slot * words + at) word) words slot ≡ set (slot_words_in region words slot) at word
words_in-set region words slot at word h =
    ap (take words) (drop-set-add (slot * words) region at word) ∙ take-set-lt words (drop (slot * words) region) at word h

pub words_in-set_other : (region : List ℕ) (words slot at word other : ℕ) → at < words → other ≢ slot → slot_words_in (set region (slot * words + at) word) words other ≡ slot_words_in region words other
words_in-set_other region words slot at word other h apart =
    elim (cases_order other slot) [
      | inl e ↦ absurd (apart e)
      | inr (inl below) ↦
          let order = slots_in_order words other slot below in
          sym (drop-take (other * words) words _)
          ∙ ap (drop (other * words)) (take-set-le (other * words + words) region (slot * words + at) word (omega arith))
          ∙ drop-take (other * words) words region
      | inr (inr above) ↦
          let order = slots_in_order words slot other above in
          ap (take words) (drop-set-lt (other * words) region (slot * words + at) word (omega arith))
    ]

-- after the words of a slot are written as a whole
pub words_in-put : (region : List ℕ) (words slot : ℕ) (written : List ℕ) → slot * words + words ≤ length region → length written ≡ words → slot_words_in (put_mid (slot * words) words region written) words slot ≡ written
words_in-put region words slot written room len =
    ap (take words) (drop_at (take (slot * words) region) _ (slot * words) (length-take-le (slot * words) region (omega arith)))
    ∙ take_at written _ words len

pub words_in-put_other : (region : List ℕ) (words slot : ℕ) (written : List ℕ) (other : ℕ) → slot * words + words ≤ length region → length written ≡ words → other ≢ slot → slot_words_in (put_mid (slot * words) words region written) words other ≡ slot_words_in region words other
words_in-put_other region words slot written other room len apart =
    elim (cases_order other slot) [
      | inl e ↦ absurd (apart e)
      | inr (inl below) ↦
          let order = slots_in_order words other slot below in
          sym (drop-take (other * words) words _)
          ∙ ap (drop (other * words)) (take-put_mid_below (slot * words) words region written (other * words + words) order (omega arith))
          ∙ drop-take (other * words) words region
      | inr (inr above) ↦
          let order = slots_in_order words slot other above in
          ap (take words) (drop-put_mid (slot * words) words region written (other * words) order (omega arith) len)
    ]

-- after some words of a slot are written
pub words_in-run : (region : List ℕ) (words slot at : ℕ) (run : List ℕ) → slot * words + words ≤ length region → at + length run ≤ words → slot_words_in (put_mid (slot * words + at) (length run) region run) words slot ≡ with_run (slot_words_in region words slot) at run
words_in-run region words slot at run room fits =
    same_lists _ _ (search (rules, places)) (λ k d h. grind (arith, places))

pub words_in-run_other : (region : List ℕ) (words slot at : ℕ) (run : List ℕ) (other : ℕ) → slot * words + words ≤ length region → at + length run ≤ words → other ≢ slot → slot_words_in (put_mid (slot * words + at) (length run) region run) words other ≡ slot_words_in region words other
words_in-run_other region words slot at run other room fits apart =
    elim (cases_order other slot) [
      | inl e ↦ absurd (apart e)
      | inr (inl below) ↦
          let order = slots_in_order words other slot below in
          sym (drop-take (other * words) words _)
          ∙ ap (drop (other * words)) (take-put_mid_below (slot * words + at) (length run) region run (other * words + words) (omega arith) (omega arith))
          ∙ drop-take (other * words) words region
      | inr (inr above) ↦
          let order = slots_in_order words slot other above in
          ap (take words) (drop-put_mid (slot * words + at) (length run) region run (other * words) (omega arith) (omega arith) refl)
    ]

-- a copy within a region is such a write
pub copied-put : (region : List ℕ) (source count start : ℕ) → paste region start (drop source region) (source + count - source) ≡ put_mid start count region (take count (drop source region))
copied-put region source count start =
    let many : source + count - source ≡ count = omega arith in
    let run = take count (drop source region) in
    ap (paste region start (drop source region)) many
    ∙ append_assoc (take start region) run (drop (start + count) region)
    ∙ ap (λ rest. take start region ++ (run ++ rest)) (sym (drop-drop count start region))

-- such a write keeps the length
pub length-put : (region : List ℕ) (start words : ℕ) (written : List ℕ) → start + words ≤ length region → length written ≡ words → length (put_mid start words region written) ≡ length region
length-put region start words written room len = simp (length-append, length-take, length-drop) (omega arith)
