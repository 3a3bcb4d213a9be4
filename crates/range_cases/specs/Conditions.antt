-- What the truth of a conjunction or a disjunction says of its parts.
use Rattle.std.specs.Prelude.{◌≡◌, ℕ, Bool, Ok}
use Rattle.ccp_base.specs.declared.operation.Op2.{Op2}
use Rattle.ccp_base.specs.Operations.{apply}
use Rattle.ccp_base.specs.Truth.{is_true}
use Rattle.range_cases.specs.declared.way.Way.{Way}
use Rattle.range_cases.specs.declared.way.Way.TheVariants.{Both, Other}

-- if the operation's result has this truth, both its values have it
abbrev pub SaysOfParts : Way → Op2 → Bool → Type 0
SaysOfParts Both operation wanted =
    (a b value : ℕ) → apply operation a b ≡ Ok value → is_true value ≡ wanted
    → (is_true a ≡ wanted) × (is_true b ≡ wanted)
SaysOfParts Other operation wanted = Unit {0}
