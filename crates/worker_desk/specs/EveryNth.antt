-- Every n-th item of a list.
use Rattle.std.specs.Prelude.{ℕ, zero, suc, ◌-◌, List, [], ◌∷◌}

-- the items at the places `skip`, `skip + step`, `skip + 2 * step` and so on
abbrev pub every : {X : Type 0} → ℕ → ℕ → List X → List X
every step skip [] = []
every step zero (x ∷ rest) = x ∷ every step (step - 1) rest
every step (suc skip) (x ∷ rest) = every step skip rest
