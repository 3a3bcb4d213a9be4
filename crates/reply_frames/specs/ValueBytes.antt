-- The bytes of values, each with what it is written to.
use Rattle.std.specs.Prelude.{ℕ, ◌<◌, ◌^◌, List, [], ◌∷◌, ◌++◌}
use Rattle.std.specs.List.{flat_map, AllByRecursion}
use Rattle.std.specs.Int.{w64, to_le_bytes}
use Rattle.ccp_base.specs.declared.fields.FieldReg.{FieldReg}
use Rattle.ccp_base.specs.declared.fields.FieldReg.TheVariants.{Cwnd, Rate, Control}
use Rattle.ccp_base.specs.FieldReg.{Pair}
use Rattle.ccp_base.specs.Limits.{most_controls}

-- class and index of what a value is written to
abbrev pub target_bytes : FieldReg → List ℕ
target_bytes (Control number) = 3 ∷ number ∷ []
target_bytes Cwnd = 4 ∷ 4 ∷ []
target_bytes Rate = 4 ∷ 5 ∷ []

abbrev pub value_bytes : Pair → List ℕ
value_bytes value = target_bytes value.0 ++ to_le_bytes w64 value.1

abbrev pub values_bytes : List Pair → List ℕ
values_bytes values = flat_map value_bytes values

-- the number of a control variable fits a frame
abbrev pub FieldFits : FieldReg → Type 0
FieldFits (Control number) = number < most_controls
FieldFits Cwnd = Unit {0}
FieldFits Rate = Unit {0}

-- each control variable among these has such a number
abbrev pub AreTargets : List Pair → Type 0
AreTargets values = AllByRecursion (λ value. FieldFits value.0) values

-- the number of a value fits a frame
abbrev pub ValueFits : Pair → Type 0
ValueFits value = value.1 < 2 ^ 64

-- a value that has a place in a frame
abbrev pub IsSendable : Pair → Type 0
IsSendable value = FieldFits value.0 × ValueFits value
