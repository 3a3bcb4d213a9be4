-- Which nodes are commands among the names in scope, the action of each, and the names after it.
use Rattle.std.specs.Prelude.{◌≡◌, ◌⊎◌, ℕ, ◌<◌, ◌≤◌, Bool, true, IsTrue, IsFalse, List, [], ◌∷◌, length, codes}
use Rattle.ccp_base.specs.Limits.{most_locals, most_tenths}
use Rattle.portus_core.specs.declared.program.Var.{Var}
use Rattle.portus_core.specs.declared.program.Var.TheVariants as var
use Rattle.portus_core.specs.Programs.{Term, Action, set, set_if, set_unless, ewma, zero_micros, report, fall}
use Rattle.portus_core.specs.Trees.{Node, Nodes, number, word, list, none, more}
use Rattle.portus_core.specs.ValidPrograms.{is_writable}
use Rattle.ccp_base.specs.declared.place.Place.{Place}
use Rattle.scope_types.specs.Scope.{Scope, with_local_name}
use Rattle.portus_core.specs.Words.{variable_of, is_reserved, is_field_use, is_primitive_use}
use Rattle.scope_types.specs.ExpressionRules.{Means, NamesVariable, IsTerm}

-- a value that is a Bool if one is required
abbrev pub FitsKind : Bool → Bool → Type 0
FitsKind wanted truth = IsTrue wanted → IsTrue truth

-- the assignment of an expression
pub record IsPlain (scope : Scope) (v : Var) (wanted : Bool) (value : Node) (action : Action) : Type 0 where
  pub term : Term
  pub truth : Bool
  pub is_value : IsTerm scope value term truth
  pub fits : FitsKind wanted truth
  pub command : action ≡ set v term

-- the assignment of a value under a condition
pub record IsChoice (scope : Scope) (wanted : Bool) (make : Term → Term → Action) (condition value : Node)
    (action : Action) : Type 0 where
  pub condition_term : Term
  pub is_condition : IsTerm scope condition condition_term true
  pub term : Term
  pub truth : Bool
  pub is_value : IsTerm scope value term truth
  pub fits : FitsKind wanted truth
  pub command : action ≡ make condition_term term

abbrev pub IsWeight : Node → ℕ → Type 0
IsWeight (number at m) n = (m ≡ n) × (n ≤ most_tenths)
IsWeight (word at w) n = ⊥
IsWeight (list at parts) n = ⊥

-- the move of a number towards a value
pub record IsEwma (scope : Scope) (v : Var) (wanted : Bool) (head : Place) (weight value : Node)
    (action : Action) : Type 0 where
  pub number : IsFalse wanted
  pub tenths : ℕ
  pub is_weight : IsWeight weight tenths
  pub term : Term
  pub truth : Bool
  pub is_value : IsTerm scope value term truth
  pub command : action ≡ ewma head v tenths term

abbrev pub IsSpecial : Scope → Var → Bool → Node → Action → Type 0
IsSpecial scope v wanted (list at (more (word head w) (more first (more second none)))) action =
    ((w ≡ codes "if") × IsChoice scope wanted (set_if head v) first second action)
    ⊎ (((w ≡ codes "!if") × IsChoice scope wanted (set_unless head v) first second action)
    ⊎ ((w ≡ codes "ewma") × IsEwma scope v wanted head first second action))
IsSpecial scope v wanted value action = ⊥

-- what a variable may be assigned
abbrev pub IsValue : Scope → Var → Bool → Node → Action → Type 0
IsValue scope v wanted value action = IsPlain scope v wanted value action ⊎ IsSpecial scope v wanted value action

abbrev pub IsZero : Node → Type 0
IsZero (number at n) = n ≡ 0
IsZero (word at w) = ⊥
IsZero (list at parts) = ⊥

pub record IsZeroAssignment (scope : Scope) (w : List ℕ) (value : Node) (action : Action) (after : Scope) : Type 0 where
  pub named : w ≡ codes "Micros"
  pub zero : IsZero value
  pub command : action ≡ zero_micros
  pub names : after ≡ scope

pub record IsKnownAssignment (scope : Scope) (w : List ℕ) (value : Node) (action : Action)
    (after : Scope) : Type 0 where
  pub variable : Var
  pub truth : Bool
  pub named : NamesVariable scope w (variable_of w) variable truth
  pub writable : IsTrue (is_writable variable)
  pub assigned : IsValue scope variable truth value action
  pub names : after ≡ scope

-- a word that has no meaning, and may get one
pub record IsFresh (scope : Scope) (w : List ℕ) : Type 0 where
  pub unreserved : IsFalse (is_reserved w)
  pub no_field : IsFalse (is_field_use w)
  pub no_primitive : IsFalse (is_primitive_use w)
  pub unknown : (v : Var) (truth : Bool) → Means scope w v truth → ⊥

-- the first assignment of the body's next local
pub record IsFirstAssignment (scope : Scope) (w : List ℕ) (value : Node) (action : Action)
    (after : Scope) : Type 0 where
  pub fresh : IsFresh scope w
  pub term : Term
  pub truth : Bool
  pub is_value : IsTerm scope value term truth
  pub few : length scope.locals < most_locals
  pub command : action ≡ set (var.Local (length scope.locals)) term
  pub names : after ≡ with_local_name scope w truth

abbrev pub IsAssignment : Scope → List ℕ → Node → Action → Scope → Type 0
IsAssignment scope w value action after =
    IsZeroAssignment scope w value action after
    ⊎ (IsKnownAssignment scope w value action after ⊎ IsFirstAssignment scope w value action after)

-- a command, with the names before and after it
abbrev pub IsCommand : Scope → Node → Action → Scope → Type 0
IsCommand scope (list at (more (word head w) none)) action after =
    ((w ≡ codes "report") × (action ≡ report) × (after ≡ scope))
    ⊎ ((w ≡ codes "fallthrough") × (action ≡ fall) × (after ≡ scope))
IsCommand scope (list at (more (word head w) (more (word target_at target) (more value none)))) action after =
    ((w ≡ codes ":=") ⊎ (w ≡ codes "bind")) × IsAssignment scope target value action after
IsCommand scope node action after = ⊥

pub record IsNext (Command : Action → Scope → Type 0) (Rest : Scope → Type 0) (action : Action) : Type 0 where
  pub between : Scope
  pub command : Command action between
  pub rest : Rest between

-- the commands of a body, with the names before and after them
abbrev pub IsBody : Scope → Nodes → List Action → Scope → Type 0
IsBody scope none [] after = after ≡ scope
IsBody scope none (action ∷ actions) after = ⊥
IsBody scope (more node rest) [] after = ⊥
IsBody scope (more node rest) (action ∷ actions) after =
    IsNext (IsCommand scope node) (λ between. IsBody between rest actions after) action
