-- The names in scope.
use Rattle.std.specs.Prelude.{ℕ, Bool, List, [], ◌∷◌, ◌++◌, map}
use Rattle.portus_core.specs.declared.program.Decl.{Decl}
use Rattle.portus_core.specs.ValidPrograms.{KnownNames}
use Rattle.scope_types.specs.declared.names.Local.{Local}
use Rattle.scope_types.specs.declared.names.Names.{Names}

-- the names that have a meaning beside those of the language
pub record Scope : Type 0 where
  pub fields : List Decl
  pub controls : List Decl
  pub locals : List Local

abbrev pub scope_of : Names → Scope
scope_of names = record { fields = names.fields; controls = names.controls; locals = names.locals }

-- the names without their texts
abbrev pub known_in : Scope → KnownNames
known_in names =
    record { fields = names.fields; controls = names.controls; locals = map (λ (l : Local). l.truth) names.locals }

-- the names with one more local
abbrev pub with_local_name : Scope → List ℕ → Bool → Scope
with_local_name scope w truth = record scope { locals = scope.locals ++ record { name = w; truth = truth } ∷ [] }
