-- Lists that go on.
use Rattle.std.specs.Prelude.{◌≡◌, ℕ, ◌+◌, ◌<◌, zero, suc, List, [], ◌∷◌, ◌++◌, length, slice_get, refl}
use Rattle.std.proofs.Common.{◌∙◌, arith}
use Rattle.open_flow.specs.declared.entry.Entry.{Entry}
use Rattle.open_flow.specs.Entries.{AreStepsFrom}

-- an item stays where it is
pub slice_get-front : {X : Type 0} (xs more : List X) (i : ℕ) → i < length xs → slice_get (xs ++ more) i ≡ slice_get xs i
slice_get-front [] more i within = absurd (omega (arith, within))
slice_get-front (x ∷ xs) more zero within = refl
slice_get-front (x ∷ xs) more (suc i) within = slice_get-front xs more i (omega (arith, within))

pub steps-push : (step : ℕ) (entries : List Entry) (entry : Entry) → AreStepsFrom step entries → entry.step ≡ step + length entries
    → AreStepsFrom step (entries ++ entry ∷ [])
steps-push step [] entry are is = (is ∙ omega arith, tt)
steps-push step (first ∷ rest) entry are is = (are.0, steps-push (step + 1) rest entry are.1 (is ∙ omega arith))
