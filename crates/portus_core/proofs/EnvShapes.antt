-- That the env of a program keeps its shape.
use Rattle.std.specs.Prelude.{◌≡◌, ℕ, suc, Bool, true, false, not, Result, Ok, Err, IfOk, List, [], ◌∷◌, length, refl}
use Rattle.std.proofs.Common.{ap, ◌∙◌, length-set}
use Rattle.std.proofs.lemmas.List.{length-map}
use Rattle.ccp_base.specs.declared.ack.Ack.{Ack}
use Rattle.ccp_base.specs.declared.fields.FieldReg.{FieldReg}
use Rattle.ccp_base.specs.declared.fields.FieldReg.TheVariants as reg
use Rattle.ccp_base.specs.FieldReg.{Pair}
use Rattle.portus_core.specs.declared.env.Env.{Env}
use Rattle.portus_core.specs.declared.program.Decl.{Decl}
use Rattle.portus_core.specs.declared.program.Var.{Var}
use Rattle.portus_core.specs.declared.program.Var.TheVariants as var
use Rattle.portus_core.specs.Programs.{Action, set, set_if, set_unless, ewma, zero_micros, report, fall, Part, Form}
use Rattle.ccp_base.specs.Blending.{moving_average}
use Rattle.ccp_base.specs.Chaining.{then_do}
use Rattle.ccp_base.specs.Truth.{is_true}
use Rattle.portus_core.specs.Value.{Cause, at_place, read_of}
use Rattle.portus_core.specs.Command.{Going, with_written, written_where, value_in, command_of, run_commands}
use Rattle.portus_core.specs.Blocks.{before_blocks, at_block, after_body, after_condition, blocks_of}
use Rattle.portus_core.specs.OneAcknowledgement.{IsEnvOf, reset, answered, settled, one_of}
use Rattle.portus_core.specs.Epoch.{with_value, with_values, declared_env}

pub IsEnvOf-declared_env : (form : Form) (cwnd rate now : ℕ) → IsEnvOf form (declared_env form cwnd rate now)
IsEnvOf-declared_env form cwnd rate now = record {
  fields = length-map form.fields (λ (decl : Decl). decl.start);
  controls = length-map form.controls (λ (decl : Decl). decl.start);
}

pub IsEnvOf-with_value : (form : Form) (register : FieldReg) (value : ℕ) (env : Env) → IsEnvOf form env → IsEnvOf form (with_value register value env)
IsEnvOf-with_value form reg.Cwnd value env shape = record { fields = shape.fields; controls = shape.controls }
IsEnvOf-with_value form reg.Rate value env shape = record { fields = shape.fields; controls = shape.controls }
IsEnvOf-with_value form (reg.Control i) value env shape = record {
  fields = shape.fields;
  controls = length-set env.controls i value ∙ shape.controls;
}

pub IsEnvOf-with_values : (form : Form) (values : List Pair) (env : Env) → IsEnvOf form env → IsEnvOf form (with_values values env)
IsEnvOf-with_values form [] env shape = shape
IsEnvOf-with_values form (pair ∷ rest) env shape =
    IsEnvOf-with_values form rest (with_value pair.0 pair.1 env) (IsEnvOf-with_value form pair.0 pair.1 env shape)

-- what each Ok of the next step keeps, each Ok of both keeps
pub IfOk-then_do : {A B F : Type 0} (result : Result A F) (next : A → Result B F) (P : B → Type 0) → ((a : A) → IfOk (next a) P) → IfOk (then_do result next) P
IfOk-then_do (Ok a) next P keeps = keeps a
IfOk-then_do (Err fault) next P keeps = tt

pub IfOk-then_do_from : {A B F : Type 0} (result : Result A F) (next : A → Result B F) (Q : A → Type 0) (P : B → Type 0) → IfOk result Q → ((a : A) → Q a → IfOk (next a) P) → IfOk (then_do result next) P
IfOk-then_do_from (Ok a) next Q P holds keeps = keeps a holds
IfOk-then_do_from (Err fault) next Q P holds keeps = tt

abbrev Keeps : Form → Going → Type 0
Keeps form going = IsEnvOf form going.env

IsEnvOf-written : (form : Form) (v : Var) (value : ℕ) (going : Going) → Keeps form going → Keeps form (with_written v value going)
IsEnvOf-written form (var.Field i) value going shape = record {
  fields = length-set going.env.fields i value ∙ shape.fields;
  controls = shape.controls;
}
IsEnvOf-written form (var.Control i) value going shape = record {
  fields = shape.fields;
  controls = length-set going.env.controls i value ∙ shape.controls;
}
IsEnvOf-written form (var.Local i) value going shape = shape
IsEnvOf-written form var.Cwnd value going shape = record { fields = shape.fields; controls = shape.controls }
IsEnvOf-written form var.Rate value going shape = record { fields = shape.fields; controls = shape.controls }
IsEnvOf-written form var.Micros value going shape = shape
IsEnvOf-written form (var.Prim n) value going shape = shape

IsEnvOf-written_where : (form : Form) (holds : Bool) (v : Var) (value : ℕ) (going : Going) → Keeps form going → Keeps form (written_where holds v value going)
IsEnvOf-written_where form true v value going shape = IsEnvOf-written form v value going shape
IsEnvOf-written_where form false v value going shape = shape

IsEnvOf-command : (form : Form) (action : Action) (ack : Ack) (going : Going) → Keeps form going → IfOk (command_of action ack going) (Keeps form)
IsEnvOf-command form (set v term) ack going shape =
    IfOk-then_do (value_in term ack going) (λ value. Ok (with_written v value going)) (Keeps form) (λ value. IsEnvOf-written form v value going shape)
IsEnvOf-command form (set_if place v condition term) ack going shape =
    IfOk-then_do (value_in condition ack going) (λ held. then_do (value_in term ack going) (λ value. Ok (written_where (is_true held) v value going))) (Keeps form) (λ held.
    IfOk-then_do (value_in term ack going) (λ value. Ok (written_where (is_true held) v value going)) (Keeps form) (λ value.
    IsEnvOf-written_where form (is_true held) v value going shape))
IsEnvOf-command form (set_unless place v condition term) ack going shape =
    IfOk-then_do (value_in condition ack going) (λ held. then_do (value_in term ack going) (λ value. Ok (written_where (not (is_true held)) v value going))) (Keeps form) (λ held.
    IfOk-then_do (value_in term ack going) (λ value. Ok (written_where (not (is_true held)) v value going)) (Keeps form) (λ value.
    IsEnvOf-written_where form (not (is_true held)) v value going shape))
IsEnvOf-command form (ewma place v weight term) ack going shape =
    IfOk-then_do (value_in term ack going) (λ value. then_do (at_place place (moving_average weight (read_of v going.env going.locals ack) value)) (λ mixed. Ok (with_written v mixed going))) (Keeps form) (λ value.
    IfOk-then_do (at_place place (moving_average weight (read_of v going.env going.locals ack) value)) (λ mixed. Ok (with_written v mixed going)) (Keeps form) (λ mixed.
    IsEnvOf-written form v mixed going shape))
IsEnvOf-command form zero_micros ack going shape = record { fields = shape.fields; controls = shape.controls }
IsEnvOf-command form report ack going shape = shape
IsEnvOf-command form fall ack going shape = shape

IsEnvOf-body : (form : Form) (actions : List Action) (ack : Ack) (going : Going) → Keeps form going → IfOk (run_commands actions ack going) (Keeps form)
IsEnvOf-body form [] ack going shape = shape
IsEnvOf-body form (action ∷ rest) ack going shape =
    IfOk-then_do_from (command_of action ack going) (run_commands rest ack) (Keeps form) (Keeps form) (IsEnvOf-command form action ack going shape) (λ done kept.
    IsEnvOf-body form rest ack done kept)

IsEnvOf-after_body : (form : Form) (falls : Bool) (rest : Going → Result Going Cause) (going : Going) → ((g : Going) → Keeps form g → IfOk (rest g) (Keeps form)) → Keeps form going → IfOk (after_body falls rest going) (Keeps form)
IsEnvOf-after_body form true rest going keeps shape = keeps going shape
IsEnvOf-after_body form false rest going keeps shape = shape

IsEnvOf-after_condition : (form : Form) (held : Bool) (body : List Action) (rest : Going → Result Going Cause) (ack : Ack) (going : Going) → ((g : Going) → Keeps form g → IfOk (rest g) (Keeps form)) → Keeps form going → IfOk (after_condition held body rest ack going) (Keeps form)
IsEnvOf-after_condition form true body rest ack going keeps shape =
    IfOk-then_do_from (run_commands body ack going) (λ done. after_body done.falls rest done) (Keeps form) (Keeps form) (IsEnvOf-body form body ack going shape) (λ done kept.
    IsEnvOf-after_body form done.falls rest done keeps kept)
IsEnvOf-after_condition form false body rest ack going keeps shape = keeps going shape

pub IsEnvOf-blocks : (form : Form) (parts : List Part) (ack : Ack) (going : Going) → IsEnvOf form going.env → IfOk (blocks_of parts ack going) (λ done. IsEnvOf form done.env)
IsEnvOf-blocks form [] ack going shape = shape
IsEnvOf-blocks form (part ∷ rest) ack going shape =
    IfOk-then_do (value_in part.condition ack (at_block going)) (λ held. after_condition (is_true held) part.body (blocks_of rest ack) ack (at_block going)) (Keeps form) (λ held.
    IsEnvOf-after_condition form (is_true held) part.body (blocks_of rest ack) ack (at_block going) (λ g kept. IsEnvOf-blocks form rest ack g kept) shape)

length-reset : (decls : List Decl) (values : List ℕ) → length (reset decls values) ≡ length values
length-reset [] values = refl
length-reset (decl ∷ decls) [] = refl
length-reset (decl ∷ decls) (value ∷ values) = ap (λ n. suc n) (length-reset decls values)

pub IsEnvOf-answered : (form : Form) (asked room : Bool) (env : Env) → IsEnvOf form env → IsEnvOf form (answered form asked room env).1
IsEnvOf-answered form false room env shape = shape
IsEnvOf-answered form true false env shape = shape
IsEnvOf-answered form true true env shape = record {
  fields = length-reset form.fields env.fields ∙ shape.fields;
  controls = length-reset form.controls env.controls ∙ shape.controls;
}

IsEnvOf-settled : (form : Form) (env : Env) (room : Bool) (run : Result Going Cause) → IsEnvOf form env → IfOk run (Keeps form) → IsEnvOf form (settled form env room run).1
IsEnvOf-settled form env room (Ok going) shape kept = IsEnvOf-answered form going.asked room going.env kept
IsEnvOf-settled form env room (Err cause) shape kept = shape

-- an acknowledgement keeps the shape of the env
pub IsEnvOf-one_of : (form : Form) (env : Env) (ack : Ack) (room : Bool) → IsEnvOf form env → IsEnvOf form (one_of form env ack room).1
IsEnvOf-one_of form env ack room shape =
    IsEnvOf-settled form env room (blocks_of form.blocks ack (before_blocks env)) shape (IsEnvOf-blocks form form.blocks ack (before_blocks env) shape)
