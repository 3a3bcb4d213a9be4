-- The values of an operation's parts, and what a value says of a range.
use Rattle.std.proofs.Common.{◌≡◌, ℕ, Option, Some, Result, Ok, Err, refl, subst, sym, ap, ◌∙◌}
use Rattle.ccp_base.specs.declared.arithmetic.FaultKind.{FaultKind}
use Rattle.ccp_base.specs.declared.operation.Op2.{Op2}
use Rattle.ccp_base.specs.declared.place.Place.{Place}
use Rattle.ccp_base.specs.Operations.{apply}
use Rattle.value_ranges.specs.declared.range.Range.{Range}
use Rattle.value_ranges.specs.Ranges.{IsIn}
use Rattle.std.specs.declared.boxed.Box.{Box}
use Rattle.std.specs.declared.alloc.Global.{Global}
use Rattle.ccp_base.specs.declared.ack.Ack.{Ack}
use Rattle.portus_core.specs.declared.program.Expr.{Expr}
use Rattle.portus_core.specs.declared.program.Expr.TheVariants as expr
use Rattle.portus_core.specs.Programs.{Term, term_of, term_of-Pair}
use Rattle.portus_core.specs.Command.{Going, value_in}
use Rattle.portus_core.specs.Value.{Cause, at_place}
use Rattle.range_cases.specs.Cases.{pair_of, Gives}

-- the values of the parts of an operation that has this value
pub record IsPairOk (operation : Op2) (left right : Result ℕ Cause) (value : ℕ) : Type 0 where
  pub a : ℕ
  pub b : ℕ
  pub left_ok : left ≡ Ok a
  pub right_ok : right ≡ Ok b
  pub applied : apply operation a b ≡ Ok value

placed_ok : (place : Place) (met : Result ℕ FaultKind) (value : ℕ) → at_place place met ≡ Ok value → met ≡ Ok value
placed_ok place (Ok n) value same = cc
placed_ok place (Err kind) value same = cc

pub pair_ok : (operation : Op2) (place : Place) (left right : Result ℕ Cause) (value : ℕ) → pair_of operation place left right ≡ Ok value → IsPairOk operation left right value
pair_ok operation place (Ok a) (Ok b) value same = record { a = a; b = b; left_ok = refl; right_ok = refl; applied = placed_ok place (apply operation a b) value same }
pair_ok operation place (Ok a) (Err cause) value same = cc
pair_ok operation place (Err cause) right value same = cc

-- the values of the parts of an expression that is an operation
pub pair_term : (condition : Expr) (operation : Op2) (place : Place) (left right : Box Expr Global) (ack : Ack) (going : Going) (value : ℕ)
    → condition ≡ expr.Pair operation place left right → value_in (term_of condition) ack going ≡ Ok value
    → IsPairOk operation (value_in (term_of left.value) ack going) (value_in (term_of right.value) ack going) value
pair_term condition operation place left right ack going value is same =
    let split : value_in (term_of condition) ack going ≡ pair_of operation place (value_in (term_of left.value) ack going) (value_in (term_of right.value) ack going) =
    ap (λ (e : Expr). value_in (term_of e) ack going) is ∙ ap (λ (t : Term). value_in t ack going) (term_of-Pair operation place left right) in
    pair_ok operation place (value_in (term_of left.value) ack going) (value_in (term_of right.value) ack going) value (sym split ∙ same)

-- a value is in the range that was found
pub gives_some : (found : Option Range) (range : Range) (met : Result ℕ Cause) (value : ℕ) → found ≡ Some range → Gives found met → met ≡ Ok value → IsIn range value
gives_some found range met value some gives same =
    subst (λ (r : Result ℕ Cause). Gives (Some range) r) same (subst (λ (f : Option Range). Gives f met) some gives)
