-- What a name means among those in scope.
use Rattle.std.specs.Prelude.{ℕ, ◌+◌, List, [], ◌∷◌, drop, Option, Some, None, if◌then◌else◌, bytes_eq}
use Rattle.portus_core.specs.declared.program.Decl.{Decl}
use Rattle.portus_core.specs.declared.program.Var.{Var}
use Rattle.portus_core.specs.declared.program.Var.TheVariants as var
use Rattle.scope_types.specs.declared.names.Local.{Local}
use Rattle.scope_types.specs.Scope.{Scope}
use Rattle.portus_core.specs.Words.{is_field_use}
use Rattle.ccp_base.specs.PrimitiveNames.{primitive_named}

-- the number of the declaration that has this name, counted from `i`
abbrev pub decl_from : ℕ → List Decl → List ℕ → Option ℕ
decl_from i [] w = None
decl_from i (decl ∷ rest) w = if bytes_eq decl.name w then Some i else decl_from (i + 1) rest w

-- the number of the local that has this name, counted from `i`
abbrev pub local_from : ℕ → List Local → List ℕ → Option ℕ
local_from i [] w = None
local_from i (local ∷ rest) w = if bytes_eq local.name w then Some i else local_from (i + 1) rest w

-- the variable of this kind with the number, if there is a number, else the other variable
abbrev pub variable_or : (ℕ → Var) → Option ℕ → Option Var → Option Var
variable_or kind (Some i) else_ = Some (kind i)
variable_or kind None else_ = else_

-- the meaning of a word that isn't reserved
abbrev pub meaning_of : Scope → List ℕ → Option Var
meaning_of names w =
    if is_field_use w then variable_or var.Field (decl_from 0 names.fields (drop 7 w)) None
    else variable_or var.Prim (primitive_named w) (variable_or var.Control (decl_from 0 names.controls w)
    (variable_or var.Local (local_from 0 names.locals w) None))
