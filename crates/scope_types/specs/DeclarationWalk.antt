-- The walk over the parts of `def`, in the order of its checks.
use Rattle.std.specs.Prelude.{◌≡◌, ℕ, ◌-◌, ◌^◌, Bool, true, false, not, nat_le, List, [], ◌∷◌, ◌++◌, length, Option, Some, None, is_some, Result, Ok, Err, codes, if◌then◌else◌, bytes_eq}
use Rattle.ccp_base.specs.Limits.{most_fields, most_controls}
use Rattle.ccp_base.specs.declared.place.Place.{Place}
use Rattle.portus_core.specs.declared.program.Decl.{Decl}
use Rattle.portus_core.specs.Trees.{Node, Nodes, number, word, list, none, more}
use Rattle.scope_types.specs.declared.fault.ScopeFault.{ScopeFault}
use Rattle.scope_types.specs.declared.fault.ScopeFault.TheVariants.{Misplaced, Twice, TooMany}
use Rattle.scope_types.specs.declared.fault.What.TheVariants as what
use Rattle.scope_types.specs.declared.declaration.Start.{Start}
use Rattle.scope_types.specs.declared.declaration.Declaration.{Declaration}
use Rattle.scope_types.specs.declared.declaration.Declared.{Declared}
use Rattle.portus_core.specs.Words.{is_field_name, is_control_name}
use Rattle.scope_types.specs.Names.{decl_from}
use Rattle.scope_types.specs.Scope.{Scope, scope_of}
use Rattle.scope_types.specs.Cuts.{node_place}
use Rattle.scope_types.specs.WalkResults.{and_then}

-- what the parts of `def` so far declare, and whether a group of fields was among them
pub record Declaring : Type 0 where
  pub names : Scope
  pub grouped : Bool

abbrev pub declaring_of : Declared → Declaring
declaring_of declared = record { names = scope_of declared.names; grouped = declared.grouped }

-- the walk gives what is declared in the code
abbrev pub GivesDeclared : Result Declaring ScopeFault → Declared → Type 0
GivesDeclared outcome declared = outcome ≡ Ok (declaring_of declared)

-- a declared value, with whether it is a Bool
abbrev pub start_word : List ℕ → Option Start
start_word w =
    if bytes_eq w (codes "true") then Some (record { value = 1; truth = true })
    else if bytes_eq w (codes "false") then Some (record { value = 0; truth = true })
    else if bytes_eq w (codes "+infinity") then Some (record { value = 2 ^ 64 - 1; truth = false })
    else None

abbrev pub declared_start : Node → Option Start
declared_start (number at n) = Some (record { value = n; truth = false })
declared_start (word at w) = start_word w
declared_start (list at parts) = None

abbrev pub declares : Place → Bool → Place → List ℕ → Option Start → Result Declaration ScopeFault
declares at volatile word_at w None = Err (Misplaced at)
declares at volatile word_at w (Some start) =
    Ok (record {
      at = word_at;
      decl = record { name = w; volatile = volatile; start = start.value; truth = start.truth };
    })

-- a word and a value, or `volatile`, a word and a value
abbrev pub declaration_walk : Node → Result Declaration ScopeFault
declaration_walk (list at (more (word word_at w) (more value none))) =
    declares at false word_at w (declared_start value)
declaration_walk (list at (more (word head v) (more (word word_at w) (more value none)))) =
    if bytes_eq v (codes "volatile") then declares at true word_at w (declared_start value) else Err (Misplaced at)
declaration_walk node = Err (Misplaced (node_place node))

abbrev pub with_field : Scope → Decl → Scope
with_field names decl = record names { fields = names.fields ++ decl ∷ [] }

abbrev pub with_control : Scope → Decl → Scope
with_control names decl = record names { controls = names.controls ++ decl ∷ [] }

-- one more field: the checks are of the word, then of an earlier declaration, then of the limit
abbrev pub field_walk : Scope → Declaration → Result Scope ScopeFault
field_walk names d =
    if not (is_field_name d.decl.name) then Err (Misplaced d.at)
    else if is_some (decl_from 0 names.fields d.decl.name) then Err (Twice d.at)
    else if nat_le most_fields (length names.fields) then Err (TooMany d.at what.Fields)
    else Ok (with_field names d.decl)

-- one more control variable
abbrev pub control_walk : Scope → Declaration → Result Scope ScopeFault
control_walk names d =
    if not (is_control_name d.decl.name) then Err (Misplaced d.at)
    else if is_some (decl_from 0 names.controls d.decl.name) then Err (Twice d.at)
    else if nat_le most_controls (length names.controls) then Err (TooMany d.at what.Controls)
    else Ok (with_control names d.decl)

-- the parts of a group
abbrev pub fields_walk : Scope → Nodes → Result Scope ScopeFault
fields_walk names none = Ok names
fields_walk names (more node rest) =
    and_then (declaration_walk node) (λ d. and_then (field_walk names d) (λ after. fields_walk after rest))

abbrev pub group_walk : Declaring → Place → Nodes → Result Declaring ScopeFault
group_walk declared head fields =
    if declared.grouped then Err (Twice head)
    else and_then (fields_walk declared.names fields) (λ names. Ok (record { names = names; grouped = true }))

abbrev pub control_part_walk : Declaring → Node → Result Declaring ScopeFault
control_part_walk declared node =
    and_then (declaration_walk node)
    (λ d. and_then (control_walk declared.names d) (λ names. Ok (record { names = names; grouped = declared.grouped })))

-- a part of `def`: the group of fields, or a control variable
abbrev pub part_walk : Declaring → Node → Result Declaring ScopeFault
part_walk declared (list at (more (word head w) fields)) =
    if bytes_eq w (codes "Report") then group_walk declared head fields
    else control_part_walk declared (list at (more (word head w) fields))
part_walk declared node = control_part_walk declared node

-- the parts of `def`
abbrev pub parts_walk : Declaring → Nodes → Result Declaring ScopeFault
parts_walk declared none = Ok declared
parts_walk declared (more node rest) = and_then (part_walk declared node) (λ after. parts_walk after rest)
