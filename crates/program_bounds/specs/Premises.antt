-- Which starts and which events meet the premises.
use Rattle.std.specs.Prelude.{◌≡◌, ℕ, ◌+◌, ◌⊎◌, ◌<◌, ◌≤◌, ◌^◌, Bool, true, false, IsTrue, ◌==◌, List, [], ◌∷◌, Option, Some, None, Contains, map, slice_index, if◌then◌else◌}
use Rattle.ccp_base.specs.declared.ack.Ack.{Ack}
use Rattle.ccp_base.specs.declared.fields.FieldReg.{FieldReg}
use Rattle.ccp_base.specs.declared.fields.FieldReg.TheVariants as reg
use Rattle.ccp_base.specs.Acknowledgement.{prim}
use Rattle.ccp_base.specs.FieldReg.{Pair}
use Rattle.value_ranges.specs.declared.range.Range.{Range}
use Rattle.value_ranges.specs.Ranges.{IsIn}
use Rattle.portus_core.specs.declared.env.Env.{Env}
use Rattle.portus_core.specs.declared.program.Decl.{Decl}
use Rattle.portus_core.specs.Programs.{Form}
use Rattle.portus_core.specs.OneAcknowledgement.{IsEnvOf}
use Rattle.portus_core.specs.Epoch.{Event, acknowledged, updated}
use Rattle.range_cases.specs.Cases.{AreIn}
use Rattle.program_bounds.specs.declared.premises.Item.{Item}
use Rattle.program_bounds.specs.declared.premises.Kind.{Kind}
use Rattle.program_bounds.specs.declared.premises.Order.{Order}
use Rattle.program_bounds.specs.declared.premises.Premises.{Premises}

-- ---- starts

abbrev pub is_register : FieldReg → FieldReg → Bool
is_register reg.Cwnd reg.Cwnd = true
is_register reg.Rate reg.Rate = true
is_register (reg.Control i) (reg.Control j) = i == j
is_register _ _ = false

-- the range that the items have for what is written
abbrev pub range_for : FieldReg → List Item → Option Range
range_for register [] = None
range_for register (item ∷ rest) =
    if is_register register item.register then Some item.range else range_for register rest

-- a value of the range that is given, or else one of those that are declared
abbrev pub IsStart : Option Range → (ℕ → Type 0) → ℕ → Type 0
IsStart (Some range) IsDeclared value = IsIn range value
IsStart None IsDeclared value = IsDeclared value

abbrev pub declared_values : List Decl → List ℕ
declared_values decls = map (λ (decl : Decl). decl.start) decls

-- a start meets the premises: each field has its declared value, each control variable a value of its range or else its
-- declared one, window and rate a value of their range or else any
pub record Starts (form : Form) (given : Premises) (start : Env) : Type 0 where
  pub shape : IsEnvOf form start
  pub fields : start.fields ≡ declared_values form.fields
  pub controls : (i : ℕ) → IsStart (range_for (reg.Control i) given.starts)
      (λ value. value ≡ slice_index (declared_values form.controls) i) (slice_index start.controls i)
  pub cwnd : IsStart (range_for reg.Cwnd given.starts) (λ value. value < 2 ^ 64) start.cwnd
  pub rate : IsStart (range_for reg.Rate given.starts) (λ value. value < 2 ^ 64) start.rate

-- ---- events

-- each primitive of the acknowledgement is in the kind's range
abbrev pub IsOfKind : Kind → Ack → Type 0
IsOfKind kind ack = AreIn kind.primitives (λ i. prim i ack)

-- the acknowledgement is of one of the kinds
abbrev pub IsOfSome : List Kind → Ack → Type 0
IsOfSome [] ack = ⊥
IsOfSome (kind ∷ rest) ack = IsOfKind kind ack ⊎ IsOfSome rest ack

-- the acknowledgement is of a kind and meets the orders
pub record MeetsAck (given : Premises) (ack : Ack) : Type 0 where
  pub kind : IsOfSome given.kinds ack
  pub orders : (order : Order) → Contains given.orders order → prim order.low ack ≤ prim order.high ack

-- a value is written that one of the items allows
abbrev pub IsAllowed : List Item → Pair → Type 0
IsAllowed [] pair = ⊥
IsAllowed (item ∷ rest) pair = (item.register ≡ pair.0 × IsIn item.range pair.1) ⊎ IsAllowed rest pair

-- each value that is written is allowed
abbrev pub AreUpdates : Premises → List Pair → Type 0
AreUpdates given [] = Unit {0}
AreUpdates given (pair ∷ rest) = IsAllowed given.updates pair × AreUpdates given rest

-- events after an acknowledgement at this time meet the premises
abbrev pub Follows : Premises → ℕ → List Event → Type 0
Follows given since [] = Unit {0}
Follows given since (acknowledged ack room ∷ rest) =
    MeetsAck given ack × (IsTrue given.is_rising → since ≤ ack.now) × (IsTrue given.has_room → IsTrue room)
    × Follows given ack.now rest
Follows given since (updated values ∷ rest) = AreUpdates given values × Follows given since rest

-- how many acknowledgements there are among the events
abbrev pub acks_in : List Event → ℕ
acks_in [] = 0
acks_in (acknowledged ack room ∷ rest) = acks_in rest + 1
acks_in (updated values ∷ rest) = acks_in rest

-- the events of an epoch meet the premises
pub record Meets (given : Premises) (events : List Event) : Type 0 where
  pub few : acks_in events ≤ given.acks
  pub follows : Follows given 0 events
