-- The flow number of the case at a place.
use Rattle.std.proofs.Common.{◌≡◌, ℕ, zero, suc, ◌+◌, List, [], ◌∷◌, Some, ◌<◌, length, map, slice_get, slice_index_or, arith, ap, sym}
use Rattle.flow_table.specs.NumberedCases.{AreNumbered}

-- what is at a place of a mapped list
got_mapped : {X Y : Type 0} → (f : X → Y) (xs : List X) (place : ℕ) (x : X)
    → place < length (map f xs) → x ≡ slice_index_or xs place x → slice_get (map f xs) place ≡ Some (f x)
got_mapped f [] place x below at = absurd (omega (arith, below))
got_mapped f (first ∷ rest) zero x below at = ap (λ one. Some (f one)) (sym at)
got_mapped f (first ∷ rest) (suc place) x below at = got_mapped f rest place x (omega (arith, below)) at

-- the case at a place of cases that are numbered from a flow on has the number of that place
pub number_at : {Case : Type 0} → (number_of : Case → ℕ) (flow : ℕ) (cases : List Case) (place : ℕ) (case : Case)
    → AreNumbered number_of flow cases → slice_get cases place ≡ Some case → number_of case ≡ flow + place
number_at number_of flow [] place case numbered at = absurd (cc at)
number_at number_of flow (first ∷ rest) zero case numbered at =
    let same : first ≡ case = cc at in omega (arith, numbered.0, ap number_of same)
number_at number_of flow (first ∷ rest) (suc place) case numbered at =
    omega (arith, number_at number_of (flow + 1) rest place case numbered.1 at)

-- so of what has cases that are numbered from 0 on
pub number_there : {Case X : Type 0} → (number_of : Case → ℕ) (case_of : X → Case) (cases : List Case) (all : List X)
    (place : ℕ) (one : X) → map case_of all ≡ cases → AreNumbered number_of 0 (map case_of all) → place < length cases
    → one ≡ slice_index_or all place one → number_of (case_of one) ≡ place
number_there number_of case_of cases all place one are numbered below at =
    let within : place < length (map case_of all) = omega (arith, below, ap length are) in
    let case_at = got_mapped case_of all place one within at in
    omega (arith, number_at number_of 0 (map case_of all) place (case_of one) numbered case_at)
