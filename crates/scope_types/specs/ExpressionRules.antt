-- Which nodes are expressions among the names in scope, the term of each, and whether it is a Bool.
use Rattle.std.specs.Prelude.{◌≡◌, ℕ, ◌<◌, ◌^◌, Bool, false, IsFalse, List, ◌++◌, Option, Some, None, codes, slice_get}
use Rattle.ccp_base.specs.Acknowledgement.{is_flag}
use Rattle.portus_core.specs.declared.program.Decl.{Decl}
use Rattle.ccp_base.specs.declared.operation.Op2.{Op2}
use Rattle.portus_core.specs.declared.program.Var.{Var}
use Rattle.portus_core.specs.declared.program.Var.TheVariants as var
use Rattle.portus_core.specs.Programs.{Term, name, pair}
use Rattle.portus_core.specs.Programs as term
use Rattle.portus_core.specs.Trees.{Node, number, word, list, none, more}
use Rattle.ccp_base.specs.Operations.{gives_truth}
use Rattle.ccp_base.specs.declared.place.Place.{Place}
use Rattle.scope_types.specs.declared.names.Local.{Local}
use Rattle.scope_types.specs.Scope.{Scope}
use Rattle.portus_core.specs.Words.{variable_of, is_reserved}
use Rattle.ccp_base.specs.Operations.{operator_of}
use Rattle.ccp_base.specs.PrimitiveNames.{primitive_named}
use Rattle.scope_types.specs.ValueWords.{constant_of, constant_truth}

-- the declaration of this number has this name
pub record IsDeclaredName (decls : List Decl) (i : ℕ) (w : List ℕ) (truth : Bool) : Type 0 where
  pub decl : Decl
  pub there : slice_get decls i ≡ Some decl
  pub named : decl.name ≡ w
  pub kind : truth ≡ decl.truth

-- a field is used with `Report.` before its name
pub record IsField (decls : List Decl) (i : ℕ) (w : List ℕ) (truth : Bool) : Type 0 where
  pub rest : List ℕ
  pub spelt : w ≡ codes "Report." ++ rest
  pub declared : IsDeclaredName decls i rest truth

-- the local of this number has this name
pub record IsLocal (locals : List Local) (i : ℕ) (w : List ℕ) (truth : Bool) : Type 0 where
  pub local : Local
  pub there : slice_get locals i ≡ Some local
  pub named : local.name ≡ w
  pub kind : truth ≡ local.truth

pub record IsPrimitive (n : ℕ) (w : List ℕ) (truth : Bool) : Type 0 where
  pub spelt : primitive_named w ≡ Some n
  pub kind : truth ≡ is_flag n

-- a word that a declaration, an assignment or the acknowledgement gives a meaning, and whether it is a Bool
abbrev pub Means : Scope → List ℕ → Var → Bool → Type 0
Means scope w (var.Field i) truth = IsField scope.fields i w truth
Means scope w (var.Control i) truth = IsDeclaredName scope.controls i w truth
Means scope w (var.Local i) truth = IsLocal scope.locals i w truth
Means scope w (var.Prim n) truth = IsPrimitive n w truth
Means scope w var.Cwnd truth = ⊥
Means scope w var.Rate truth = ⊥
Means scope w var.Micros truth = ⊥

-- a word that names a variable: one of the language, or one that has a meaning
abbrev pub NamesVariable : Scope → List ℕ → Option Var → Var → Bool → Type 0
NamesVariable scope w (Some u) v truth = (v ≡ u) × (truth ≡ false)
NamesVariable scope w None v truth = IsFalse (is_reserved w) × Means scope w v truth

pub record IsName (scope : Scope) (w : List ℕ) (t : Term) (truth : Bool) : Type 0 where
  pub variable : Var
  pub names : NamesVariable scope w (variable_of w) variable truth
  pub term : t ≡ name variable

-- a word that is an expression: a value, or a name
abbrev pub IsWord : Scope → List ℕ → Option Term → Term → Bool → Type 0
IsWord scope w (Some constant) t truth = (t ≡ constant) × (truth ≡ constant_truth constant)
IsWord scope w None t truth = IsName scope w t truth

-- an operation on two parts; it is a Bool if its operator gives one
pub record IsPair (op : Option Op2) (head : Place) (Left Right : Term → Bool → Type 0) (t : Term)
    (truth : Bool) : Type 0 where
  pub operator : Op2
  pub spelt : op ≡ Some operator
  pub left : Term
  pub left_truth : Bool
  pub is_left : Left left left_truth
  pub right : Term
  pub right_truth : Bool
  pub is_right : Right right right_truth
  pub term : t ≡ pair operator head left right
  pub kind : truth ≡ gives_truth operator

-- an expression, and whether it is a Bool
abbrev pub IsTerm : Scope → Node → Term → Bool → Type 0
IsTerm scope (number at n) t truth = (n < 2 ^ 64) × (t ≡ term.number n) × (truth ≡ false)
IsTerm scope (word at w) t truth = IsWord scope w (constant_of w) t truth
IsTerm scope (list at (more (word head o) (more left (more right none)))) t truth =
    IsPair (operator_of o) head (IsTerm scope left) (IsTerm scope right) t truth
IsTerm scope (list at parts) t truth = ⊥
