-- What a program makes of one acknowledgement.
use Rattle.std.specs.Prelude.{◌≡◌, ℕ, Bool, true, false, if◌then◌else◌, Result, Ok, Err, List, ◌∷◌, length}
use Rattle.ccp_base.specs.declared.ack.Ack.{Ack}
use Rattle.portus_core.specs.declared.env.Env.{Env}
use Rattle.portus_core.specs.declared.env.Effect.{Effect}
use Rattle.portus_core.specs.declared.env.Effect.TheVariants as effect
use Rattle.portus_core.specs.declared.env.Mean.{Mean}
use Rattle.portus_core.specs.declared.env.Mean.TheVariants.{Quiet, Reported, Held, Fault}
use Rattle.portus_core.specs.declared.program.Decl.{Decl}
use Rattle.portus_core.specs.Programs.{Form}
use Rattle.portus_core.specs.Value.{Cause}
use Rattle.portus_core.specs.Command.{Going}
use Rattle.portus_core.specs.Blocks.{before_blocks, blocks_of}

-- an env of a program has a number for each field and each control variable that it declares; that each of its
-- numbers is a value below 2^64 is what the types of `Env` say
pub record IsEnvOf (form : Form) (env : Env) : Type 0 where
  pub fields : length env.fields ≡ length form.fields
  pub controls : length env.controls ≡ length form.controls

-- each volatile name with its declared value again
abbrev pub reset : List Decl → List ℕ → List ℕ
reset (decl ∷ decls) (value ∷ values) = (if decl.volatile then decl.start else value) ∷ reset decls values
reset _ values = values

abbrev pub reset_of : Form → Env → Env
reset_of form env = record env { fields = reset form.fields env.fields; controls = reset form.controls env.controls }

-- the outcome with this effect, and with these fields of a report
abbrev pub mean_with : List ℕ → Effect → Mean
mean_with fields effect.Quiet = Quiet
mean_with fields effect.Reported = Reported fields
mean_with fields effect.Held = Held
mean_with fields (effect.Fault kind place) = Fault kind place

-- a report that was asked for is made if there is room, else held
abbrev pub answered : Form → Bool → Bool → Env → Mean × Env
answered form false room env = (Quiet, env)
answered form true false env = (Held, env)
answered form true true env = (Reported env.fields, reset_of form env)

-- a fault leaves all as it was
abbrev pub settled : Form → Env → Bool → Result Going Cause → Mean × Env
settled form env room (Ok going) = answered form going.asked room going.env
settled form env room (Err cause) = (Fault cause.0 cause.1, env)

-- what the program makes of one acknowledgement; `room` says whether there is room for a report
abbrev pub one_of : Form → Env → Ack → Bool → Mean × Env
one_of form env ack room = settled form env room (blocks_of form.blocks ack (before_blocks env))
