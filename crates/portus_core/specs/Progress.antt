-- A run on trees against the meaning of its program.
use Rattle.std.specs.Prelude.{◌≡◌, ℕ, Option, Result, Ok, Err, List, length, slice_get}
use Rattle.std.specs.Option.{option_flatten}
use Rattle.portus_core.specs.declared.env.Env.{Env}
use Rattle.portus_core.specs.declared.progress.Progress.{Progress}
use Rattle.portus_core.specs.Value.{Cause, Locals}
use Rattle.portus_core.specs.Command.{Going}

-- the locals whose values stand in a list, each at its number
abbrev pub locals_of : List (Option ℕ) → Locals
locals_of values i = option_flatten (slice_get values i)

abbrev pub going_of : Env → Progress → Going
going_of env progress =
    record { env = env; locals = locals_of progress.locals; asked = progress.asked; falls = progress.falls }

-- the env has as many fields and control variables as before
pub record KeepsShape (old new : Env) : Type 0 where
  pub fields : length new.fields ≡ length old.fields
  pub controls : length new.controls ≡ length old.controls

-- a run gave the state that the definition gives, or its fault
abbrev pub RunsAs : Result (Unit {0}) Cause → Env → Progress → Result Going Cause → Type 0
RunsAs (Ok done) env progress meant = meant ≡ Ok (going_of env progress)
RunsAs (Err fault) env progress meant = meant ≡ Err fault
