-- The walk over the commands of a body, in the order of its checks.
use Rattle.std.specs.Prelude.{ℕ, ◌==◌, Bool, true, false, not, ◌&&◌, ◌||◌, nat_le, List, [], ◌∷◌, ◌++◌, length, Option, Some, None, Result, Ok, Err, codes, if◌then◌else◌, bytes_eq}
use Rattle.ccp_base.specs.Limits.{most_locals, most_tenths}
use Rattle.ccp_base.specs.declared.place.Place.{Place}
use Rattle.portus_core.specs.declared.program.Var.{Var}
use Rattle.portus_core.specs.declared.program.Var.TheVariants as var
use Rattle.portus_core.specs.Programs.{Term, Action, set, set_if, set_unless, ewma, zero_micros, report, fall}
use Rattle.portus_core.specs.Trees.{Node, Nodes, number, word, list, none, more}
use Rattle.portus_core.specs.ValidPrograms.{is_truth, term_is_truth}
use Rattle.scope_types.specs.declared.fault.ScopeFault.{ScopeFault}
use Rattle.scope_types.specs.declared.fault.ScopeFault.TheVariants as fault
use Rattle.scope_types.specs.declared.fault.What.TheVariants as what
use Rattle.scope_types.specs.declared.target.Target.{Target}
use Rattle.scope_types.specs.declared.target.Target.TheVariants.{Known, Fresh}
use Rattle.portus_core.specs.Words.{variable_of, is_reserved, is_field_use, is_primitive_use}
use Rattle.scope_types.specs.Names.{meaning_of}
use Rattle.scope_types.specs.Scope.{Scope, known_in, with_local_name}
use Rattle.scope_types.specs.Cuts.{node_place}
use Rattle.scope_types.specs.WalkResults.{and_then}
use Rattle.scope_types.specs.ExpressionWalk.{expression_walk}

-- a command, and the names after it
abbrev pub Step : Type 0
Step = Action × Scope

abbrev pub named_target_walk : Place → List ℕ → Option Var → Result Target ScopeFault
named_target_walk at w (Some (var.Prim n)) = Err (fault.NotWritable at)
named_target_walk at w (Some v) = Ok (Known at v)
named_target_walk at w None = if is_field_use w || is_primitive_use w then Err (fault.Unknown at) else Ok (Fresh at w)

abbrev pub word_target_walk : Scope → Place → List ℕ → Option Var → Result Target ScopeFault
word_target_walk names at w (Some v) = Ok (Known at v)
word_target_walk names at w None =
    if is_reserved w then Err (fault.Misplaced at) else named_target_walk at w (meaning_of names w)

-- the target of an assignment: a variable, or a word without a meaning
abbrev pub target_walk : Scope → Node → Result Target ScopeFault
target_walk names (word at w) = word_target_walk names at w (variable_of w)
target_walk names (number at n) = Err (fault.Misplaced at)
target_walk names (list at parts) = Err (fault.Misplaced at)

-- only the numeral 0 is assigned to `Micros`
abbrev pub micros_walk : Scope → Node → Result Step ScopeFault
micros_walk names (number at n) = if n == 0 then Ok (zero_micros, names) else Err (fault.Micros at)
micros_walk names (word at w) = Err (fault.Micros at)
micros_walk names (list at parts) = Err (fault.Micros at)

abbrev pub is_bool : Scope → Term → Bool
is_bool names term = term_is_truth (known_in names) term

abbrev pub wants_bool : Scope → Var → Bool
wants_bool names v = is_truth (known_in names) v

-- the name has a meaning
abbrev pub known_variable_walk : Target → Result Var ScopeFault
known_variable_walk (Known at v) = Ok v
known_variable_walk (Fresh at w) = Err (fault.Unknown at)

-- a Bool, if one is required
abbrev pub kind_walk : Scope → Bool → Place → Term → Result Term ScopeFault
kind_walk names wanted at term = if wanted && not (is_bool names term) then Err (fault.Kind at) else Ok term

abbrev pub choice_action : Bool → Place → Var → Term → Term → Action
choice_action true head v condition value = set_if head v condition value
choice_action false head v condition value = set_unless head v condition value

-- `if` and `!if`, of which the first assigns if its condition is true: both parts are expressions; then the first
-- is a Bool, and so is the second if the target is one
abbrev pub choice_walk : Scope → Target → Bool → Place → Place → Nodes → Result Step ScopeFault
choice_walk names target when_true value_at head (more condition (more value none)) =
    and_then (known_variable_walk target) (λ v.
    and_then (expression_walk names condition) (λ c.
    and_then (expression_walk names value) (λ e.
    and_then (kind_walk names true (node_place condition) c) (λ c'.
    and_then (kind_walk names (wants_bool names v) (node_place value) e) (λ e'.
    Ok (choice_action when_true head v c' e', names))))))
choice_walk names target when_true value_at head parts = Err (fault.Misplaced value_at)

-- a weight in tenths
abbrev pub weight_walk : Node → Result ℕ ScopeFault
weight_walk (number at n) = if nat_le n most_tenths then Ok n else Err (fault.Kind at)
weight_walk (word at w) = Err (fault.Kind at)
weight_walk (list at parts) = Err (fault.Kind at)

-- the target of `ewma` is a number
abbrev pub number_walk : Scope → Target → Result Var ScopeFault
number_walk names (Known at v) = if wants_bool names v then Err (fault.Kind at) else Ok v
number_walk names (Fresh at w) = Err (fault.Unknown at)

abbrev pub ewma_walk : Scope → Target → Place → Place → Nodes → Result Step ScopeFault
ewma_walk names target value_at head (more weight (more value none)) =
    and_then (number_walk names target) (λ v.
    and_then (weight_walk weight) (λ w.
    and_then (expression_walk names value) (λ e.
    Ok (ewma head v w e, names))))
ewma_walk names target value_at head parts = Err (fault.Misplaced value_at)

-- a target that is a Bool requires a Bool; a word without a meaning becomes a local
abbrev pub set_walk : Scope → Target → Place → Term → Result Step ScopeFault
set_walk names (Known at v) value_at term =
    and_then (kind_walk names (wants_bool names v) value_at term) (λ e. Ok (set v e, names))
set_walk names (Fresh at w) value_at term =
    if nat_le most_locals (length names.locals) then Err (fault.TooMany at what.Locals)
    else Ok (set (var.Local (length names.locals)) term, with_local_name names w (is_bool names term))

abbrev pub plain_assignment_walk : Scope → Target → Node → Result Step ScopeFault
plain_assignment_walk names target node =
    and_then (expression_walk names node) (λ term. set_walk names target (node_place node) term)

-- what is assigned: `if`, `!if`, `ewma` or an expression
abbrev pub value_walk : Scope → Target → Node → Result Step ScopeFault
value_walk names target (list value_at (more (word head w) parts)) =
    if bytes_eq w (codes "if") then choice_walk names target true value_at head parts
    else if bytes_eq w (codes "!if") then choice_walk names target false value_at head parts
    else if bytes_eq w (codes "ewma") then ewma_walk names target value_at head parts
    else plain_assignment_walk names target (list value_at (more (word head w) parts))
value_walk names target node = plain_assignment_walk names target node

abbrev pub assigned_walk : Scope → Target → Node → Result Step ScopeFault
assigned_walk names (Known at var.Micros) value = micros_walk names value
assigned_walk names target value = value_walk names target value

-- an assignment: its target is checked first
abbrev pub assignment_walk : Scope → Node → Node → Result Step ScopeFault
assignment_walk names target value =
    and_then (target_walk names target) (λ found. assigned_walk names found value)

-- a command
abbrev pub command_walk : Scope → Node → Result Step ScopeFault
command_walk names (list at (more (word head w) none)) =
    if bytes_eq w (codes "report") then Ok (report, names)
    else if bytes_eq w (codes "fallthrough") then Ok (fall, names)
    else Err (fault.Misplaced at)
command_walk names (list at (more (word head w) (more target (more value none)))) =
    if bytes_eq w (codes ":=") || bytes_eq w (codes "bind") then assignment_walk names target value
    else Err (fault.Misplaced at)
command_walk names node = Err (fault.Misplaced (node_place node))

-- the commands of a body, after those that are done
abbrev pub body_walk : Scope → List Action → Nodes → Result (List Action × Scope) ScopeFault
body_walk names done none = Ok (done, names)
body_walk names done (more node rest) =
    and_then (command_walk names node) (λ step. body_walk step.1 (done ++ step.0 ∷ []) rest)
