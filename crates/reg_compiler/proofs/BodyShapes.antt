-- What a body keeps of the source's state: how many fields and control variables there are, and that each local that is
-- known so far has a value.
use Rattle.std.proofs.Common.{◌≡◌, refl, ◌∙◌, ℕ, ◌<◌, ◌==◌, nat_lt, not, Bool, true, false, cond, Some, unwrap_or, Ok, List, [], ◌∷◌, ◌++◌, length, arith, length-set, length-append}
use Rattle.std.proofs.lemmas.Bool.{and_parts, eqb-true, eqb-false}
use Rattle.std.specs.Prelude.{IfOk}
use Rattle.std.proofs.lemmas.Result.{IfOk-weaker}
use Rattle.ccp_base.specs.declared.ack.Ack.{Ack}
use Rattle.portus_core.specs.declared.env.Env.{Env}
use Rattle.portus_core.specs.declared.program.Var.{Var}
use Rattle.portus_core.specs.declared.program.Var.TheVariants as var
use Rattle.portus_core.specs.Programs.{Action, set, set_if, set_unless, ewma, zero_micros, report, fall}
use Rattle.ccp_base.specs.Chaining.{then_do}
use Rattle.ccp_base.specs.Truth.{is_true}
use Rattle.portus_core.specs.Value.{at_place, read_of}
use Rattle.ccp_base.specs.Blending.{moving_average}
use Rattle.portus_core.specs.Command.{Going, with_local, with_written, written_where, value_in, command_of, run_commands}
use Rattle.portus_core.specs.ValidPrograms.{KnownNames, is_next_local, term_is_truth, known_after}
use Rattle.portus_core.specs.ValidPrograms as names
use Rattle.portus_core.proofs.EnvShapes.{IfOk-then_do, IfOk-then_do_from}

pub record Sized (known : KnownNames) (env : Env) : Type 0 where
  pub fields : length env.fields ≡ length known.fields
  pub controls : length env.controls ≡ length known.controls

pub record Fits (known : KnownNames) (going : Going) : Type 0 where
  pub sized : Sized known going.env
  pub locals : (i : ℕ) → i < length known.locals → going.locals i ≡ Some (unwrap_or (going.locals i) 0)

local-written : (known : KnownNames) (going : Going) (i value : ℕ) → Fits known going → (j : ℕ) → j < length known.locals → with_local going.locals i value j ≡ Some (unwrap_or (with_local going.locals i value j) 0)
local-written known going i value fits j below =
    elim (j == i) as (λ b. cond b (Some value) (going.locals j) ≡ Some (unwrap_or (cond b (Some value) (going.locals j)) 0)) [ true ↦ refl | false ↦ fits.locals j below ]

Fits-written : (known : KnownNames) (v : Var) (value : ℕ) (going : Going) → Fits known going → Fits known (with_written v value going)
Fits-written known (var.Field i) value going fits = record {
  sized = record { fields = length-set going.env.fields i value ∙ fits.sized.fields; controls = fits.sized.controls };
  locals = fits.locals;
}
Fits-written known (var.Control i) value going fits = record {
  sized = record { fields = fits.sized.fields; controls = length-set going.env.controls i value ∙ fits.sized.controls };
  locals = fits.locals;
}
Fits-written known (var.Local i) value going fits = record { sized = fits.sized; locals = local-written known going i value fits }
Fits-written known var.Cwnd value going fits = record { sized = record { fields = fits.sized.fields; controls = fits.sized.controls }; locals = fits.locals }
Fits-written known var.Rate value going fits = record { sized = record { fields = fits.sized.fields; controls = fits.sized.controls }; locals = fits.locals }
Fits-written known var.Micros value going fits = fits
Fits-written known (var.Prim n) value going fits = fits

Fits-written_where : (known : KnownNames) (holds : Bool) (v : Var) (value : ℕ) (going : Going) → Fits known going → Fits known (written_where holds v value going)
Fits-written_where known true v value going fits = Fits-written known v value going fits
Fits-written_where known false v value going fits = fits

-- one more local
next-written : (known : KnownNames) (is_bool is : Bool) (going : Going) (i value j : ℕ) → i ≡ length known.locals → Fits known going → (j == i) ≡ is → j < length (known.locals ++ is_bool ∷ []) → cond is (Some value) (going.locals j) ≡ Some (unwrap_or (cond is (Some value) (going.locals j)) 0)
next-written known is_bool true going i value j next fits is below = refl
next-written known is_bool false going i value j next fits is below =
    fits.locals j (omega (arith, below, length-append known.locals (is_bool ∷ []), next, eqb-false j i is))

Fits-next : (known : KnownNames) (v : Var) (is_bool : Bool) (value : ℕ) (going : Going) → is_next_local known v ≡ true → Fits known going → Fits (names.with_known_local known true is_bool) (with_written v value going)
Fits-next known (var.Local i) is_bool value going is fits = record {
  sized = record { fields = fits.sized.fields; controls = fits.sized.controls };
  locals = λ j below. next-written known is_bool (j == i) going i value j (eqb-true i (length known.locals) (and_parts (i == length known.locals) (nat_lt i 8) is).0) fits refl below;
}
Fits-next known (var.Field i) is_bool value going is fits = absurd (cc)
Fits-next known (var.Control i) is_bool value going is fits = absurd (cc)
Fits-next known (var.Prim n) is_bool value going is fits = absurd (cc)
Fits-next known var.Cwnd is_bool value going is fits = absurd (cc)
Fits-next known var.Rate is_bool value going is fits = absurd (cc)
Fits-next known var.Micros is_bool value going is fits = absurd (cc)

Fits-set : (known : KnownNames) (v : Var) (is is_bool : Bool) (value : ℕ) (going : Going) → is_next_local known v ≡ is → Fits known going → Fits (names.with_known_local known is is_bool) (with_written v value going)
Fits-set known v true is_bool value going is fits = Fits-next known v is_bool value going is fits
Fits-set known v false is_bool value going is fits = Fits-written known v value going fits

pub Fits-command : (known : KnownNames) (action : Action) (ack : Ack) (going : Going) → Fits known going → IfOk (command_of action ack going) (Fits (known_after known action))
Fits-command known (set v term) ack going fits =
    IfOk-then_do (value_in term ack going) (λ value. Ok (with_written v value going)) (Fits (known_after known (set v term)))
    (λ value. Fits-set known v (is_next_local known v) (term_is_truth known term) value going refl fits)
Fits-command known (set_if place v condition term) ack going fits =
    IfOk-then_do (value_in condition ack going) (λ held. then_do (value_in term ack going) (λ value. Ok (written_where (is_true held) v value going))) (Fits known) (λ held.
    IfOk-then_do (value_in term ack going) (λ value. Ok (written_where (is_true held) v value going)) (Fits known) (λ value.
    Fits-written_where known (is_true held) v value going fits))
Fits-command known (set_unless place v condition term) ack going fits =
    IfOk-then_do (value_in condition ack going) (λ held. then_do (value_in term ack going) (λ value. Ok (written_where (not (is_true held)) v value going))) (Fits known) (λ held.
    IfOk-then_do (value_in term ack going) (λ value. Ok (written_where (not (is_true held)) v value going)) (Fits known) (λ value.
    Fits-written_where known (not (is_true held)) v value going fits))
Fits-command known (ewma place v weight term) ack going fits =
    IfOk-then_do (value_in term ack going) (λ value. then_do (at_place place (moving_average weight (read_of v going.env going.locals ack) value)) (λ mixed. Ok (with_written v mixed going))) (Fits known) (λ value.
    IfOk-then_do (at_place place (moving_average weight (read_of v going.env going.locals ack) value)) (λ mixed. Ok (with_written v mixed going)) (Fits known) (λ mixed.
    Fits-written known v mixed going fits))
Fits-command known zero_micros ack going fits = record { sized = record { fields = fits.sized.fields; controls = fits.sized.controls }; locals = fits.locals }
Fits-command known report ack going fits = record { sized = fits.sized; locals = fits.locals }
Fits-command known fall ack going fits = record { sized = fits.sized; locals = fits.locals }

-- a command adds a local at most
Sized-without : (known : KnownNames) (is is_bool : Bool) (env : Env) → Sized (names.with_known_local known is is_bool) env → Sized known env
Sized-without known true is_bool env sized = record { fields = sized.fields; controls = sized.controls }
Sized-without known false is_bool env sized = sized

Sized-before : (known : KnownNames) (action : Action) (env : Env) → Sized (known_after known action) env → Sized known env
Sized-before known (set v term) env sized = Sized-without known (is_next_local known v) (term_is_truth known term) env sized
Sized-before known (set_if place v condition term) env sized = sized
Sized-before known (set_unless place v condition term) env sized = sized
Sized-before known (ewma place v weight term) env sized = sized
Sized-before known zero_micros env sized = sized
Sized-before known report env sized = sized
Sized-before known fall env sized = sized

pub Sized-body : (known : KnownNames) (actions : List Action) (ack : Ack) (going : Going) → Fits known going → IfOk (run_commands actions ack going) (λ after. Sized known after.env)
Sized-body known [] ack going fits = fits.sized
Sized-body known (action ∷ rest) ack going fits =
    IfOk-then_do_from (command_of action ack going) (run_commands rest ack) (Fits (known_after known action)) (λ after. Sized known after.env)
    (Fits-command known action ack going fits)
    (λ after fits_after. IfOk-weaker (run_commands rest ack after) (λ last. Sized (known_after known action) last.env) (λ last. Sized known last.env)
    (λ last. Sized-before known action last.env) (Sized-body (known_after known action) rest ack after fits_after))
