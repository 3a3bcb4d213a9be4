-- The walk over an expression, in the order of its checks.
use Rattle.std.specs.Prelude.{ℕ, ◌^◌, List, Option, Some, None, Result, Ok, Err, if◌then◌else◌, nat_lt}
use Rattle.ccp_base.specs.declared.place.Place.{Place}
use Rattle.ccp_base.specs.declared.operation.Op2.{Op2}
use Rattle.portus_core.specs.declared.program.Var.{Var}
use Rattle.portus_core.specs.Programs.{Term, number, name, pair}
use Rattle.portus_core.specs.Trees.{Node, Nodes, none, more}
use Rattle.portus_core.specs.Trees as node
use Rattle.scope_types.specs.declared.fault.ScopeFault.{ScopeFault}
use Rattle.scope_types.specs.declared.fault.ScopeFault.TheVariants.{Unknown, Misplaced}
use Rattle.portus_core.specs.Words.{variable_of, is_reserved}
use Rattle.ccp_base.specs.Operations.{operator_of}
use Rattle.scope_types.specs.ValueWords.{constant_of}
use Rattle.scope_types.specs.Names.{meaning_of}
use Rattle.scope_types.specs.Scope.{Scope}

-- the value if there is one, else this refusal
abbrev pub or_refused : {A : Type 0} → Option A → ScopeFault → Result A ScopeFault
or_refused (Some a) fault = Ok a
or_refused None fault = Err fault

abbrev pub name_walk : Result Var ScopeFault → Result Term ScopeFault
name_walk (Ok v) = Ok (name v)
name_walk (Err e) = Err e

-- the variable that a word names
abbrev pub variable_walk : Scope → Place → List ℕ → Option Var → Result Var ScopeFault
variable_walk names at w (Some v) = Ok v
variable_walk names at w None =
    if is_reserved w then Err (Misplaced at) else or_refused (meaning_of names w) (Unknown at)

abbrev pub word_walk : Scope → Place → List ℕ → Option Term → Result Term ScopeFault
word_walk names at w (Some term) = Ok term
word_walk names at w None = name_walk (variable_walk names at w (variable_of w))

abbrev pub pair_walk : Place → Place → Option Op2 → Result Term ScopeFault → Result Term ScopeFault
    → Result Term ScopeFault
pair_walk at head None left right = Err (Misplaced at)
pair_walk at head (Some op) (Err e) right = Err e
pair_walk at head (Some op) (Ok left) (Err e) = Err e
pair_walk at head (Some op) (Ok left) (Ok right) = Ok (pair op head left right)

-- an expression: the left part is walked before the right one; each numeral of a text is below 2^64, so no text
-- meets the first refusal
abbrev pub expression_walk : Scope → Node → Result Term ScopeFault
expression_walk names (node.number at n) = if nat_lt n (2 ^ 64) then Ok (number n) else Err (Misplaced at)
expression_walk names (node.word at w) = word_walk names at w (constant_of w)
expression_walk names (node.list at (more (node.word head w) (more left (more right none)))) =
    pair_walk at head (operator_of w) (expression_walk names left) (expression_walk names right)
expression_walk names (node.list at parts) = Err (Misplaced at)
