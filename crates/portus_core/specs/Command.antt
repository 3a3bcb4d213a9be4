-- What a command does.
use Rattle.std.specs.Prelude.{ℕ, Bool, true, false, not, ◌==◌, if◌then◌else◌, Some, Result, Ok, List, [], ◌∷◌, slice_set}
use Rattle.ccp_base.specs.declared.ack.Ack.{Ack}
use Rattle.ccp_base.specs.Blending.{moving_average}
use Rattle.ccp_base.specs.Chaining.{then_do}
use Rattle.ccp_base.specs.Truth.{is_true}
use Rattle.portus_core.specs.declared.env.Env.{Env}
use Rattle.portus_core.specs.declared.program.Var.{Var}
use Rattle.portus_core.specs.declared.program.Var.TheVariants as var
use Rattle.portus_core.specs.Programs.{Term, Action, set, set_if, set_unless, ewma, zero_micros, report, fall}
use Rattle.portus_core.specs.Value.{Cause, Locals, at_place, read_of, value_of}

-- what one command passes to the next: whether a report was asked for, and whether the body falls through
pub record Going : Type 0 where
  pub env : Env
  pub locals : Locals
  pub asked : Bool
  pub falls : Bool

-- the locals with one more value
abbrev pub with_local : Locals → ℕ → ℕ → Locals
with_local locals i value j = if j == i then Some value else locals j

-- an assignment
abbrev pub with_written : Var → ℕ → Going → Going
with_written (var.Field i) value going =
    record going { env = record going.env { fields = slice_set going.env.fields i value } }
with_written (var.Control i) value going =
    record going { env = record going.env { controls = slice_set going.env.controls i value } }
with_written (var.Local i) value going = record going { locals = with_local going.locals i value }
with_written var.Cwnd value going = record going { env = record going.env { cwnd = value } }
with_written var.Rate value going = record going { env = record going.env { rate = value } }
with_written var.Micros value going = going
with_written (var.Prim n) value going = going

abbrev pub written_where : Bool → Var → ℕ → Going → Going
written_where true v value going = with_written v value going
written_where false v value going = going

abbrev pub value_in : Term → Ack → Going → Result ℕ Cause
value_in term ack going = value_of term going.env going.locals ack

-- one command; the condition is evaluated before the value, and the value whatever the condition is
abbrev pub command_of : Action → Ack → Going → Result Going Cause
command_of (set v term) ack going = then_do (value_in term ack going) (λ value. Ok (with_written v value going))
command_of (set_if place v condition term) ack going =
    then_do (value_in condition ack going) (λ held.
    then_do (value_in term ack going) (λ value. Ok (written_where (is_true held) v value going)))
command_of (set_unless place v condition term) ack going =
    then_do (value_in condition ack going) (λ held.
    then_do (value_in term ack going) (λ value. Ok (written_where (not (is_true held)) v value going)))
command_of (ewma place v weight term) ack going =
    then_do (value_in term ack going) (λ value.
    then_do (at_place place (moving_average weight (read_of v going.env going.locals ack) value)) (λ mixed.
    Ok (with_written v mixed going)))
command_of zero_micros ack going = Ok (record going { env = record going.env { zero = ack.now } })
command_of report ack going = Ok (record going { asked = true })
command_of fall ack going = Ok (record going { falls = true })

-- the commands of a body in turn
abbrev pub run_commands : List Action → Ack → Going → Result Going Cause
run_commands [] ack going = Ok going
run_commands (action ∷ rest) ack going = then_do (command_of action ack going) (run_commands rest ack)
