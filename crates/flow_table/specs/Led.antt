-- What the caller makes of flows once their workers are done: letter after letter.
use Rattle.std.specs.Prelude.{◌≡◌, List, [], ◌∷◌, ⊤}

-- one step after another leads from the old one, by those between, to the new one
abbrev pub AreSteps : {X : Type 0} → (X → X → Type 0) → X → List X → X → Type 0
AreSteps Next old [] new = old ≡ new
AreSteps Next old (middle ∷ rest) new = Next old middle × AreSteps Next middle rest new

pub record IsLedTo {X : Type 0} (Next : X → X → Type 0) (old new : X) : Type 0 where
  pub between : List X
  pub steps : AreSteps Next old between new

-- each one to the one at its place
abbrev pub AreLedTo : {X : Type 0} → (X → X → Type 0) → List X → List X → Type 0
AreLedTo Next [] [] = ⊤
AreLedTo Next [] (new ∷ news) = ⊥
AreLedTo Next (old ∷ olds) [] = ⊥
AreLedTo Next (old ∷ olds) (new ∷ news) = IsLedTo Next old new × AreLedTo Next olds news
