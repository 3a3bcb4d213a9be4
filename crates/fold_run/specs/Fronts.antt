-- A text and a front of it, both without their first bytes.
use Rattle.std.specs.Prelude.{◌≡◌, ℕ, List, ◌++◌}

-- if what is left of a text begins with what is left of a front, the text begins with the front
abbrev pub LeavesOf : List ℕ → List ℕ → List ℕ → List ℕ → Type 0
LeavesOf text front left known = (rest : List ℕ) → left ≡ known ++ rest → text ≡ front ++ rest
