-- When code is a simulation of a program.
use Rattle.std.specs.Prelude.{◌≡◌, ℕ, Bool, Option, Some, None, option_map, unwrap_or, List, length, map, slice_get}
use Rattle.ccp_base.specs.declared.ack.Ack.{Ack}
use Rattle.ccp_base.specs.declared.place.Place.{Place}
use Rattle.portus_core.specs.declared.env.Env.{Env}
use Rattle.portus_core.specs.declared.env.Mean.{Mean}
use Rattle.portus_core.specs.declared.env.Mean.TheVariants.{Quiet, Reported, Held, Fault}
use Rattle.portus_core.specs.declared.program.Decl.{Decl}
use Rattle.portus_core.specs.Programs.{Form}
use Rattle.portus_core.specs.OneAcknowledgement.{IsEnvOf, one_of}
use Rattle.reg_code.specs.declared.code.Code.{Code}
use Rattle.reg_code.specs.declared.code.Start.{Start}
use Rattle.reg_code.specs.AcceptedCode.{IsAccepted}
use Rattle.reg_code.specs.CodeStep.{Kept, CodeOutcome, quiet, reported, held, faulted, lost, one_by_code}

-- the registers that hold an env: fields are reports, control variables are controls, number by number
abbrev pub kept_of : Env → Kept
kept_of env =
    record { reports = env.fields; controls = env.controls; cwnd = env.cwnd; rate = env.rate; zero = env.zero }

-- the env that registers hold
abbrev pub env_of : Kept → Env
env_of kept =
    record { fields = kept.reports; controls = kept.controls; cwnd = kept.cwnd; rate = kept.rate; zero = kept.zero }

-- how the register of a declaration starts
abbrev pub register_start : Decl → Start
register_start decl = record { volatile = decl.volatile; value = decl.start }

-- what stands for the place of an instruction that isn't there
abbrev pub missing_place : Place
missing_place = record { line = 0; column = 0 }

-- the place of an instruction, if these are the places of the code's instructions
abbrev pub place_at : List Place → ℕ → Place
place_at places index = unwrap_or (slice_get places index) missing_place

-- what an outcome of the code means; `places` has the place of each instruction
abbrev pub seen : List Place → CodeOutcome → Option Mean
seen places quiet = Some Quiet
seen places (reported fields) = Some (Reported fields)
seen places held = Some Held
seen places (faulted kind index) = option_map (λ place. Fault kind place) (slice_get places index)
seen places lost = None

-- declared values and volatile flags agree
abbrev pub StartsAlike : Form → Code → Type 0
StartsAlike form code =
    (code.reports ≡ map register_start form.fields) × (code.controls ≡ map register_start form.controls)

-- an acknowledgement has the same result by the code as by the program: the outcome with its fields, or the fault with
-- its place, and the env afterwards
abbrev pub MeansAlike : Form → Code → List Place → Type 0
MeansAlike form code places =
    (env : Env) (ack : Ack) (room : Bool) → IsEnvOf form env
    → (seen places (one_by_code code (kept_of env) ack room).outcome ≡ Some (one_of form env ack room).0)
    × ((one_by_code code (kept_of env) ack room).kept ≡ kept_of (one_of form env ack room).1)

-- the code simulates the program: it is accepted, has one place per instruction, starts alike, and means alike for
-- every env, every acknowledgement and either room
abbrev pub Simulates : Form → Code → List Place → Type 0
Simulates form code places =
    IsAccepted code × (length places ≡ length code.instrs) × StartsAlike form code × MeansAlike form code places
