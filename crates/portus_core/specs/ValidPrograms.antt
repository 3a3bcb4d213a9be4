-- Which programs are well scoped, typed and within the limits.
use Rattle.std.specs.Prelude.{ℕ, ◌^◌, Bool, true, false, not, ◌&&◌, ◌||◌, ◌==◌, nat_lt, nat_le, Option, Some, None, List, [], ◌∷◌, ◌++◌, length, slice_get, bytes_eq}
use Rattle.ccp_base.specs.Acknowledgement.{is_flag}
use Rattle.ccp_base.specs.Operations.{gives_truth}
use Rattle.ccp_base.specs.Limits.{most_fields, most_controls, most_blocks, most_locals, most_tenths, primitive_count}
use Rattle.portus_core.specs.declared.program.Var.{Var}
use Rattle.portus_core.specs.declared.program.Var.TheVariants as var
use Rattle.portus_core.specs.declared.program.Decl.{Decl}
use Rattle.portus_core.specs.Words.{is_field_name, is_control_name}
use Rattle.portus_core.specs.Programs.{Term, number, truth, name, pair, Action, set, set_if, set_unless, ewma, zero_micros, report, fall, Part, Form}

-- the names that an expression may use: the declared ones, and of each local of the body so far whether it is a Bool
pub record KnownNames : Type 0 where
  pub fields : List Decl
  pub controls : List Decl
  pub locals : List Bool

abbrev pub declares_truth : Option Decl → Bool
declares_truth (Some decl) = decl.truth
declares_truth None = false

-- whether the local is there and is a Bool
abbrev pub is_bool_there : Option Bool → Bool
is_bool_there (Some is_bool) = is_bool
is_bool_there None = false

-- whether the name has a meaning
abbrev pub is_known : KnownNames → Var → Bool
is_known known (var.Field i) = nat_lt i (length known.fields)
is_known known (var.Control i) = nat_lt i (length known.controls)
is_known known (var.Local i) = nat_lt i (length known.locals)
is_known known (var.Prim n) = nat_lt n primitive_count
is_known known var.Cwnd = true
is_known known var.Rate = true
is_known known var.Micros = true

-- whether the name is a Bool
abbrev pub is_truth : KnownNames → Var → Bool
is_truth known (var.Field i) = declares_truth (slice_get known.fields i)
is_truth known (var.Control i) = declares_truth (slice_get known.controls i)
is_truth known (var.Local i) = is_bool_there (slice_get known.locals i)
is_truth known (var.Prim n) = is_flag n
is_truth known var.Cwnd = false
is_truth known var.Rate = false
is_truth known var.Micros = false

-- whether a plain assignment may name it
abbrev pub is_writable : Var → Bool
is_writable (var.Prim n) = false
is_writable var.Micros = false
is_writable (var.Field i) = true
is_writable (var.Control i) = true
is_writable (var.Local i) = true
is_writable var.Cwnd = true
is_writable var.Rate = true

-- whether the expression is a Bool
abbrev pub term_is_truth : KnownNames → Term → Bool
term_is_truth known (number n) = false
term_is_truth known (truth b) = true
term_is_truth known (name v) = is_truth known v
term_is_truth known (pair o place left right) = gives_truth o

-- whether each name of the expression has a meaning
abbrev pub is_term : KnownNames → Term → Bool
is_term known (number n) = nat_lt n (2 ^ 64)
is_term known (truth b) = true
is_term known (name v) = is_known known v
is_term known (pair o place left right) = is_term known left && is_term known right

-- an expression that is a Bool
abbrev pub is_condition : KnownNames → Term → Bool
is_condition known term = is_term known term && term_is_truth known term

-- a value that may be assigned to the name: a Bool if the name is one
abbrev pub fits_target : KnownNames → Var → Term → Bool
fits_target known v term = is_term known term && (not (is_truth known v) || term_is_truth known term)

-- a name that has a meaning and may be assigned
abbrev pub is_target : KnownNames → Var → Bool
is_target known v = is_known known v && is_writable v

-- the first assignment of the body's next local
abbrev pub is_next_local : KnownNames → Var → Bool
is_next_local known (var.Local i) = (i == length known.locals) && nat_lt i most_locals
is_next_local known _ = false

abbrev pub is_action : KnownNames → Action → Bool
is_action known (set v term) =
    (is_target known v && fits_target known v term) || (is_next_local known v && is_term known term)
is_action known (set_if place v condition term) =
    is_target known v && is_condition known condition && fits_target known v term
is_action known (set_unless place v condition term) =
    is_target known v && is_condition known condition && fits_target known v term
is_action known (ewma place v weight term) =
    is_target known v && not (is_truth known v) && nat_le weight most_tenths && is_term known term
is_action known zero_micros = true
is_action known report = true
is_action known fall = true

-- the names with one more local, if there is one: whether it is a Bool
abbrev pub with_known_local : KnownNames → Bool → Bool → KnownNames
with_known_local known true is_bool =
    record { fields = known.fields; controls = known.controls; locals = known.locals ++ is_bool ∷ [] }
with_known_local known false is_bool = known

-- the names after the command
abbrev pub known_after : KnownNames → Action → KnownNames
known_after known (set v term) = with_known_local known (is_next_local known v) (term_is_truth known term)
known_after known (set_if place v condition term) = known
known_after known (set_unless place v condition term) = known
known_after known (ewma place v weight term) = known
known_after known zero_micros = known
known_after known report = known
known_after known fall = known

-- whether each command is right at its place, and the body has exactly `locals` locals
abbrev pub is_body : KnownNames → ℕ → List Action → Bool
is_body known locals [] = locals == length known.locals
is_body known locals (action ∷ rest) = is_action known action && is_body (known_after known action) locals rest

abbrev pub is_part : KnownNames → Part → Bool
is_part known part = is_condition known part.condition && is_body known part.locals part.body

abbrev pub are_parts : KnownNames → List Part → Bool
are_parts known [] = true
are_parts known (part ∷ rest) = is_part known part && are_parts known rest

-- the names that each block begins with
abbrev pub known_of : Form → KnownNames
known_of form = record { fields = form.fields; controls = form.controls; locals = [] }

-- a declared value, which for a Bool is 0 or 1
abbrev pub is_start : Decl → Bool
is_start decl = not decl.truth || nat_le decl.start 1

-- whether one of the declarations has this name
abbrev pub is_named_in : List ℕ → List Decl → Bool
is_named_in w [] = false
is_named_in w (decl ∷ rest) = bytes_eq w decl.name || is_named_in w rest

-- whether the declarations have values and names of their kind, and no name twice
abbrev pub are_declared : (List ℕ → Bool) → List Decl → Bool
are_declared is_allowed [] = true
are_declared is_allowed (decl ∷ rest) =
    is_allowed decl.name && is_start decl && not (is_named_in decl.name rest) && are_declared is_allowed rest

-- whether the declarations of a program are well scoped
abbrev pub is_declared : Form → Bool
is_declared form = are_declared is_field_name form.fields && are_declared is_control_name form.controls

-- whether the blocks of a program are well scoped and typed, and all is within the limits
abbrev pub is_valid : Form → Bool
is_valid form =
    nat_le (length form.fields) most_fields && nat_le (length form.controls) most_controls
    && nat_le (length form.blocks) most_blocks && are_parts (known_of form) form.blocks
