-- Every n-th item of a list, from a place on.
use Rattle.std.proofs.Common.{◌≡◌, ℕ, zero, suc, ◌+◌, ◌-◌, ◌<◌, List, [], ◌∷◌, ◌++◌, drop, slice_get, refl, sym, ap, ◌∙◌, append_assoc, arith}
use Rattle.std.specs.Prelude.{option_to_list}
use Rattle.std.proofs.lemmas.List.{drop-drop}
use Rattle.worker_desk.specs.EveryNth.{every}

pub every-drop : {X : Type 0} (step skip : ℕ) (xs : List X) → every step skip xs ≡ every step 0 (drop skip xs)
every-drop step zero xs = refl
every-drop step (suc skip) [] = refl
every-drop step (suc skip) (x ∷ rest) = every-drop step skip rest

-- the item at a place, if there is one, and then those after it
from-place : {X : Type 0} (step number : ℕ) (xs : List X)
    → every step 0 (drop number xs) ≡ option_to_list (slice_get xs number) ++ every step (step - 1) (drop (suc number) xs)
from-place step zero [] = refl
from-place step (suc number) [] = refl
from-place step zero (x ∷ rest) = refl
from-place step (suc number) (x ∷ rest) = from-place step number rest

every-next : {X : Type 0} (step number : ℕ) (xs : List X) → 0 < step
    → every step 0 (drop number xs) ≡ option_to_list (slice_get xs number) ++ every step 0 (drop (number + step) xs)
every-next step number xs some =
    let far : suc number + (step - 1) ≡ number + step = omega (arith, some) in
    from-place step number xs
    ∙ ap (λ (rest : List _). option_to_list (slice_get xs number) ++ rest)
    (every-drop step (step - 1) (drop (suc number) xs)
    ∙ ap (every step 0) (drop-drop (step - 1) (suc number) xs ∙ ap (λ (n : ℕ). drop n xs) far))

-- the results so far and those of the rest are the whole: with one more result
pub made-then : {X : Type 0} (step number : ℕ) (xs made next whole : List X) → 0 < step
    → next ≡ made ++ option_to_list (slice_get xs number)
    → made ++ every step 0 (drop number xs) ≡ whole → next ++ every step 0 (drop (number + step) xs) ≡ whole
made-then step number xs made next whole some put so_far =
    let left = every step 0 (drop (number + step) xs) in
    ap (λ (front : List _). front ++ left) put
    ∙ append_assoc made (option_to_list (slice_get xs number)) left
    ∙ ap (λ (rest : List _). made ++ rest) (sym (every-next step number xs some))
    ∙ so_far
