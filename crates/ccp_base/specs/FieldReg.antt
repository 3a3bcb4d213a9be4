-- What a change or an update of a program writes, and which value has a register that doesn't exist.
use Rattle.std.specs.Prelude.{ℕ, Bool, false, not, nat_lt, Option, List, position}
use Rattle.ccp_base.specs.declared.fields.FieldReg.{FieldReg}
use Rattle.ccp_base.specs.declared.fields.FieldReg.TheVariants.{Cwnd, Rate, Control}

-- a value to be written, with what it is written to
abbrev pub Pair : Type 0
Pair = FieldReg × ℕ

abbrev pub pair_of : FieldReg → ℕ → Pair
pair_of reg value = (reg, value)

-- what a place past the list holds
abbrev pub blank : Pair
blank = (Cwnd, 0)

-- a register names a control variable with this number or a greater one
abbrev pub is_bad : ℕ → FieldReg → Bool
is_bad controls (Control i) = not (nat_lt i controls)
is_bad controls Cwnd = false
is_bad controls Rate = false

-- the place of the first such pair
abbrev pub first_bad_pair : ℕ → List Pair → Option ℕ
first_bad_pair controls values = position (λ pair. is_bad controls pair.0) values
