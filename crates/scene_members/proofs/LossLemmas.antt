-- Losses that rise, and one more above the last of them.
use Rattle.std.proofs.Common.{◌≡◌, ℕ, zero, suc, ◌+◌, ◌-◌, ◌<◌, List, [], ◌∷◌, ◌++◌, length, refl, ap, ◌∙◌, subst, arith, slice_get, slice_index}
use Rattle.std.specs.Option.{ForSome}
use Rattle.std.specs.List.Sorted.{IsStrictlyIncreasing}
use Rattle.scene_members.specs.CaseWalk.{last_of}

pub rising_pushed : (losses : List ℕ) (next : ℕ) → IsStrictlyIncreasing losses → ForSome (last_of losses) (λ b. b < next) → IsStrictlyIncreasing (losses ++ next ∷ [])
rising_pushed [] next rise above = λ k within. absurd (omega (arith, within))
rising_pushed (x ∷ []) next rise above = two (above x refl)
  where
    two : x < next → IsStrictlyIncreasing (x ∷ next ∷ [])
    two below zero within = below
    two below (suc k) within = absurd (omega (arith, within))
rising_pushed (x ∷ y ∷ rest) next rise above =
    let last : suc (suc (length rest)) - 1 ≡ suc (length rest) = omega arith in
    let before : length rest ≡ suc (length rest) - 1 = omega arith in
    let later : IsStrictlyIncreasing (y ∷ rest) =
    λ k within.
    let one : suc k + 1 ≡ suc (k + 1) = omega arith in
    subst (λ n. slice_index (y ∷ rest) k < slice_index (x ∷ y ∷ rest) n) one (rise (suc k) (omega (arith, within))) in
    more (rise 0 (omega arith)) (rising_pushed (y ∷ rest) next later (λ b is. above b (ap (slice_get (x ∷ y ∷ rest)) last ∙ ap (slice_get (y ∷ rest)) before ∙ is)))
  where
    more : x < y → IsStrictlyIncreasing (y ∷ (rest ++ next ∷ [])) → IsStrictlyIncreasing (x ∷ y ∷ (rest ++ next ∷ []))
    more first later zero within = first
    more first later (suc k) within =
        let one : suc (k + 1) ≡ suc k + 1 = omega arith in
        subst (λ n. slice_index (x ∷ y ∷ (rest ++ next ∷ [])) (suc k) < slice_index (x ∷ y ∷ (rest ++ next ∷ [])) n) one (later k (omega (arith, within)))
