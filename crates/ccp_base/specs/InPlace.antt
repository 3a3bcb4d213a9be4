-- Lists that are held in an array of a fixed size beside their length.
use Rattle.std.specs.Prelude.{◌≡◌, ℕ, ◌+◌, ◌-◌, ◌<◌, ◌≤◌, List, ◌++◌, length, take, drop, replicate, slice_set}
use Rattle.std.proofs.Common.{ap, ◌∙◌, sym, arith, length-append, length-set}
use Rattle.std.proofs.Math.Seq.{drop-append_seam}
use Rattle.std.proofs.lemmas.List.{take-append-drop, drop-set-lt, length-take-le, drop-replicate, drop-drop, length-replicate}

-- an array of this size holds a list of `count` items at its front, and `blank` in each place past it
pub record IsPadded {A : Type 0} (size : ℕ) (blank : A) (places : List A) (count : ℕ) : Type 0 where
  pub full : length places ≡ size
  pub within : count ≤ size
  pub rest : drop count places ≡ replicate (size - count) blank

-- the array that holds the list
abbrev pub pad : {A : Type 0} → ℕ → A → List A → List A
pad size blank items = items ++ replicate (size - length items) blank

pub length-held : {A : Type 0} (size : ℕ) (blank : A) (places : List A) (count : ℕ)
    → IsPadded size blank places count → length (take count places) ≡ count
length-held size blank places count held =
    let fits : count ≤ length places = omega (arith, held.full) in length-take-le count places fits

-- the list at the front determines the array
pub pad-held : {A : Type 0} (size : ℕ) (blank : A) (places : List A) (count : ℕ)
    → IsPadded size blank places count → pad size blank (take count places) ≡ places
pad-held size blank places count held =
    ap (λ n. take count places ++ replicate (size - n) blank) (length-held size blank places count held)
    ∙ ap (λ xs. take count places ++ xs) (sym held.rest)
    ∙ take-append-drop count places

-- one more item goes into the first place past the list
pub IsPadded-push : {A : Type 0} (size : ℕ) (blank : A) (places : List A) (count : ℕ) (item : A)
    → count < size → IsPadded size blank places count → IsPadded size blank (slice_set places count item) (count + 1)
IsPadded-push size blank places count item room held = record {
  full = length-set places count item ∙ held.full;
  within = omega arith;
  rest =
      drop-set-lt (count + 1) places count item (omega arith)
      ∙ sym (drop-drop 1 count places)
      ∙ ap (drop 1) held.rest
      ∙ drop-replicate 1 (size - count) blank
      ∙ ap (λ n. replicate n blank) (let n : (size - count) - 1 ≡ size - (count + 1) = omega arith in n);
}

-- the same, if only the length of the list at the front is known
pub IsPadded-push_held : {A : Type 0} (size : ℕ) (blank : A) (places : List A) (count : ℕ) (item : A)
    → IsPadded size blank places count
    → length (take count places) < size
    → IsPadded size blank (slice_set places count item) (count + 1)
IsPadded-push_held size blank places count item held room =
    let e = length-held size blank places count held in
    IsPadded-push size blank places count item (omega arith) held

-- the array that holds a list holds it
pub IsPadded-pad : {A : Type 0} (size : ℕ) (blank : A) (items : List A)
    → length items ≤ size → IsPadded size blank (pad size blank items) (length items)
IsPadded-pad size blank items fits = record {
  full =
      length-append items (replicate (size - length items) blank)
      ∙ ap (λ n. length items + n) (length-replicate (size - length items) blank)
      ∙ omega arith;
  within = fits;
  rest = drop-append_seam items (replicate (size - length items) blank);
}
