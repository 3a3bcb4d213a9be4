-- Programs as data.
use Rattle.std.specs.Prelude.{◌≡◌, ℕ, Bool, List, map}
use Rattle.std.proofs.Common.{ap, ◌∙◌, sym}
use Rattle.std.specs.declared.boxed.Box.{Box}
use Rattle.std.specs.declared.alloc.Global.{Global}
use Rattle.ccp_base.specs.declared.place.Place.{Place}
use Rattle.ccp_base.specs.declared.operation.Op2.{Op2}
use Rattle.portus_core.specs.declared.program.Var.{Var}
use Rattle.portus_core.specs.declared.program.Decl.{Decl}
use Rattle.portus_core.specs.declared.program.Block.{Block}
use Rattle.portus_core.specs.declared.program.Cmd.{Cmd}
use Rattle.portus_core.specs.declared.program.Cmd.TheVariants as rust
use Rattle.portus_core.specs.declared.program.Expr.{Expr}
use Rattle.portus_core.specs.declared.program.Expr.TheVariants as expr
use Rattle.portus_core.specs.declared.program.Expr.TheOpen.{Expr-F}
use Rattle.portus_core.specs.declared.program.Expr.TheOpen as layer
use Rattle.portus_core.specs.declared.program.Expr.TheViews.{rolls-Num, rolls-Truth, rolls-Var, rolls-Pair}
use Rattle.portus_core.specs.declared.program.Expr.TheFolds.{fold-Expr, fold-roll-Expr}

-- an expression as data: what definitions speak of
pub data Term : Type 0 where
  number : ℕ → Term
  truth : Bool → Term
  name : Var → Term
  pair : Op2 → Place → Term → Term → Term

-- a command as data
pub data Action : Type 0 where
  set : Var → Term → Action
  set_if : Place → Var → Term → Term → Action
  set_unless : Place → Var → Term → Term → Action
  ewma : Place → Var → ℕ → Term → Action
  zero_micros : Action
  report : Action
  fall : Action

-- a block as data
pub record Part : Type 0 where
  pub condition : Term
  pub body : List Action
  pub locals : ℕ

-- a program as data
pub record Form : Type 0 where
  pub fields : List Decl
  pub controls : List Decl
  pub blocks : List Part

-- one operation, with the data of its parts in their place
abbrev pub term_step : Expr-F Term → Term
term_step (layer.Num value) = number value
term_step (layer.Truth value) = truth value
term_step (layer.Var var) = name var
term_step (layer.Pair op place left right) = pair op place left.value right.value

-- the data of an expression
abbrev pub term_of : Expr → Term
term_of = fold-Expr Term term_step

-- the data of a command
abbrev pub action_of : Cmd → Action
action_of (rust.Set var value) = set var (term_of value)
action_of (rust.SetIf place var condition value) = set_if place var (term_of condition) (term_of value)
action_of (rust.SetUnless place var condition value) = set_unless place var (term_of condition) (term_of value)
action_of (rust.Ewma place var weight value) = ewma place var weight (term_of value)
action_of rust.ZeroMicros = zero_micros
action_of rust.Report = report
action_of rust.Fall = fall

-- the data of a block
abbrev pub part_of : Block → Part
part_of block = record {
  condition = term_of block.condition;
  body = map action_of block.body.items;
  locals = block.locals;
}

-- the data of the lists of a program
abbrev pub form_over : List Decl → List Decl → List Block → Form
form_over fields controls blocks = record { fields = fields; controls = controls; blocks = map part_of blocks }

pub term_of-Num : (value : ℕ) → term_of (expr.Num value) ≡ number value
term_of-Num value = ap term_of (sym (rolls-Num value)) ∙ fold-roll-Expr Term term_step (layer.Num value)

pub term_of-Truth : (value : Bool) → term_of (expr.Truth value) ≡ truth value
term_of-Truth value = ap term_of (sym (rolls-Truth value)) ∙ fold-roll-Expr Term term_step (layer.Truth value)

pub term_of-Var : (var : Var) → term_of (expr.Var var) ≡ name var
term_of-Var var = ap term_of (sym (rolls-Var var)) ∙ fold-roll-Expr Term term_step (layer.Var var)

pub term_of-Pair : (op : Op2) (place : Place) (left right : Box Expr Global)
    → term_of (expr.Pair op place left right) ≡ pair op place (term_of left.value) (term_of right.value)
term_of-Pair op place left right =
    ap term_of (sym (rolls-Pair op place left right)) ∙ fold-roll-Expr Term term_step (layer.Pair op place left right)

pub ruleset terms = (term_of-Num, term_of-Truth, term_of-Var, term_of-Pair)
