-- Which flows a list of cases is of.
use Rattle.std.specs.Prelude.{◌≡◌, ℕ, ◌+◌, List, [], ◌∷◌, ⊤}

-- by what gives the number of a case's flow: the cases are those of the flows from this number on, in order
abbrev pub AreNumbered : {Case : Type 0} → (Case → ℕ) → ℕ → List Case → Type 0
AreNumbered number_of flow [] = ⊤
AreNumbered number_of flow (case ∷ rest) = (number_of case ≡ flow) × AreNumbered number_of (flow + 1) rest
