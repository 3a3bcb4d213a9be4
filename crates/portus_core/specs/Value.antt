-- The value of an expression.
use Rattle.std.specs.Prelude.{ℕ, ◌-◌, Option, None, unwrap_or, Result, Ok, Err, slice_index}
use Rattle.ccp_base.specs.declared.arithmetic.FaultKind.{FaultKind}
use Rattle.ccp_base.specs.declared.place.Place.{Place}
use Rattle.ccp_base.specs.declared.ack.Ack.{Ack}
use Rattle.ccp_base.specs.Acknowledgement.{bool_number, prim}
use Rattle.ccp_base.specs.Chaining.{then_do}
use Rattle.ccp_base.specs.Operations.{apply}
use Rattle.portus_core.specs.declared.env.Env.{Env}
use Rattle.portus_core.specs.declared.program.Var.{Var}
use Rattle.portus_core.specs.declared.program.Var.TheVariants as var
use Rattle.portus_core.specs.Programs.{Term, number, truth, name, pair}

-- a fault, with the place of its operation
abbrev pub Cause : Type 0
Cause = FaultKind × Place

-- the value of each local that has one
abbrev pub Locals : Type 0
Locals = ℕ → Option ℕ

abbrev pub no_locals : Locals
no_locals i = None

-- a fault of an operation, with its place
abbrev pub at_place : Place → Result ℕ FaultKind → Result ℕ Cause
at_place place (Ok value) = Ok value
at_place place (Err kind) = Err (kind, place)

-- the value of a name; `Micros` is the time since time zero, 0 before it
abbrev pub read_of : Var → Env → Locals → Ack → ℕ
read_of (var.Field i) env locals ack = slice_index env.fields i
read_of (var.Control i) env locals ack = slice_index env.controls i
read_of (var.Local i) env locals ack = unwrap_or (locals i) 0
read_of var.Cwnd env locals ack = env.cwnd
read_of var.Rate env locals ack = env.rate
read_of var.Micros env locals ack = ack.now - env.zero
read_of (var.Prim n) env locals ack = prim n ack

-- the value of an expression: of an operation both parts are evaluated, the left one first
abbrev pub value_of : Term → Env → Locals → Ack → Result ℕ Cause
value_of (number n) env locals ack = Ok n
value_of (truth b) env locals ack = Ok (bool_number b)
value_of (name v) env locals ack = Ok (read_of v env locals ack)
value_of (pair o place left right) env locals ack =
    then_do (value_of left env locals ack) (λ a.
    then_do (value_of right env locals ack) (λ b. at_place place (apply o a b)))
