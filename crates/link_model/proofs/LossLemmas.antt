-- The losses listed: whether a number is among them, by the place of the first one that isn't below it.
use Rattle.std.proofs.Common.{◌≡◌, ◌≢◌, ℕ, zero, suc, ◌+◌, ◌<◌, ◌≤◌, true, false, eqb, List, [], ◌∷◌, length, get_or, refl, ap, sym, ◌∙◌, arith, inl, inr}
use Rattle.std.specs.List.Sorted.{IsStrictlyIncreasing}
use Rattle.std.proofs.lemmas.List.{get_or_default}
use Rattle.std.proofs.lemmas.Bool.{cases_lt, or_from, or_right, eq-eqb, ne_eqb}
use Rattle.std.proofs.lemmas.Bool.Decides.{nat_tests}
use Rattle.link_model.specs.Link.{is_listed}

pub is_listed-at : (number : ℕ) (losses : List ℕ) (i : ℕ) → i < length losses → get_or losses i 0 ≡ number → is_listed number losses ≡ true
is_listed-at number [] i within is = absurd (omega arith)
is_listed-at number (other ∷ rest) zero within is = grind (arith, nat_tests)
is_listed-at number (other ∷ rest) (suc i) within is = or_right (eqb other number) (is_listed number rest) (is_listed-at number rest i (omega arith) is)

pub is_listed-nowhere : (number : ℕ) (losses : List ℕ) → ((i : ℕ) → i < length losses → get_or losses i 0 ≢ number) → is_listed number losses ≡ false
is_listed-nowhere number [] nowhere = refl
is_listed-nowhere number (other ∷ rest) nowhere =
    or_from (eqb other number) (is_listed number rest) (ne_eqb other number (nowhere 0 (omega arith)))
    (is_listed-nowhere number rest (λ i within. nowhere (suc i) (omega arith)))

-- numbers that rise strictly don't fall
pub rises_along : (numbers : List ℕ) → IsStrictlyIncreasing numbers → (i j : ℕ) → i ≤ j → j < length numbers → get_or numbers i 0 ≤ get_or numbers j 0
rises_along numbers rises i zero order within =
    let same : i ≡ 0 = omega arith in
    let e : get_or numbers i 0 ≡ get_or numbers 0 0 = ap (λ k. get_or numbers k 0) same in omega arith
rises_along numbers rises i (suc j) order within =
    elim (cases_lt j i) as (λ _. get_or numbers i 0 ≤ get_or numbers (suc j) 0) [
      | inl last ↦
          (let same : i ≡ suc j = omega arith in
          let e : get_or numbers i 0 ≡ get_or numbers (suc j) 0 = ap (λ k. get_or numbers k 0) same in omega arith)
      | inr before ↦
          (let step = rises j (omega arith) in
          let next : j + 1 ≡ suc j = omega arith in
          let e : get_or numbers (j + 1) 0 ≡ get_or numbers (suc j) 0 = ap (λ k. get_or numbers k 0) next in
          omega (arith, rises_along numbers rises i j before (omega arith)))
    ]

-- none is listed if all are below the number
pub is_listed-past : (number : ℕ) (losses : List ℕ) (place : ℕ) → length losses ≤ place → ((i : ℕ) → i < place → get_or losses i 0 < number) → is_listed number losses ≡ false
is_listed-past number losses place past before =
    is_listed-nowhere number losses (λ i within same. (let h = before i (omega arith) in omega arith))

-- a number is listed exactly if it is the first one that isn't below it
pub is_listed-here : (number : ℕ) (losses : List ℕ) (place : ℕ) → IsStrictlyIncreasing losses → place < length losses
    → ((i : ℕ) → i < place → get_or losses i 0 < number) → number ≤ get_or losses place 0 → eqb (get_or losses place 0) number ≡ is_listed number losses
is_listed-here number losses place rises within before from =
    elim (cases_lt number (get_or losses place 0)) as (λ _. eqb (get_or losses place 0) number ≡ is_listed number losses) [
      | inl above ↦
          (let other : get_or losses place 0 ≢ number = λ same. omega arith in
          let nowhere : is_listed number losses ≡ false =
          is_listed-nowhere number losses (λ i inside same.
          elim (cases_lt i place) as (λ _. ⊥)
          [ inl below ↦ (let h = before i below in omega arith) | inr not_below ↦ (let h = rises_along losses rises place i not_below inside in omega arith) ]) in
          ne_eqb (get_or losses place 0) number other ∙ sym nowhere)
      | inr not_above ↦
          (let same : get_or losses place 0 ≡ number = omega arith in
          eq-eqb (get_or losses place 0) number same ∙ sym (is_listed-at number losses place within same))
    ]

-- a number below that of the next loss listed
pub is_listed-before : (number : ℕ) (losses : List ℕ) (place last : ℕ) → IsStrictlyIncreasing losses → ((i : ℕ) → i < place → get_or losses i 0 < number)
    → number < get_or losses place last → false ≡ is_listed number losses
is_listed-before number losses place last rises before under =
    elim (cases_lt place (length losses)) as (λ _. false ≡ is_listed number losses) [
      | inl within ↦
          (let same : get_or losses place last ≡ get_or losses place 0 = get_or_default losses place last 0 within in
          let other : get_or losses place 0 ≢ number = λ is. omega arith in
          sym (ne_eqb (get_or losses place 0) number other) ∙ is_listed-here number losses place rises within before (omega arith))
      | inr past ↦ sym (is_listed-past number losses place past before)
    ]
