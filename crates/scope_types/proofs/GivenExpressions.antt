-- Names and expressions that are well scoped are given by the look-up and the walk over them.
use Rattle.std.proofs.Common.{◌≡◌, ℕ, ◌^◌, Bool, true, false, List, drop, Option, Some, None, IfSome, Result, Ok, Err, if◌then◌else◌, ap, ◌∙◌, sym, subst}
use Rattle.std.proofs.lemmas.Bool.{lt-ltb}
use Rattle.ccp_base.specs.declared.place.Place.{Place}
use Rattle.ccp_base.specs.declared.operation.Op2.{Op2}
use Rattle.portus_core.specs.declared.program.Var.{Var}
use Rattle.portus_core.specs.declared.program.Var.TheVariants as var
use Rattle.portus_core.specs.Programs.{Term, name, pair}
use Rattle.portus_core.specs.Programs as term
use Rattle.portus_core.specs.Trees.{Node, none, more, number, word, list}
use Rattle.portus_core.specs.ValidPrograms.{term_is_truth, declares_truth}
use Rattle.scope_types.specs.declared.fault.ScopeFault.{ScopeFault}
use Rattle.scope_types.specs.declared.fault.ScopeFault.TheVariants.{Unknown, Misplaced}
use Rattle.portus_core.specs.Words.{variable_of, is_field_use, is_primitive_use}
use Rattle.ccp_base.specs.Operations.{operator_of}
use Rattle.ccp_base.specs.PrimitiveNames.{primitive_named}
use Rattle.scope_types.specs.ValueWords.{constant_of, constant_truth}
use Rattle.scope_types.specs.Scope.{Scope, known_in}
use Rattle.scope_types.specs.Names.{decl_from, local_from, variable_or, meaning_of}
use Rattle.scope_types.specs.ExpressionWalk.{or_refused, name_walk, variable_walk, word_walk, pair_walk, expression_walk}
use Rattle.scope_types.specs.ExpressionRules.{IsDeclaredName, IsField, IsLocal, IsPrimitive, Means, NamesVariable, IsWord, IsTerm}
use Rattle.scope_types.proofs.ScopedExpressions.{truth_of, IsControl, IsOwnLocal, IsProper, primitive_word, variable_kind, constant_kind, local_truth}

-- the look-up of a word gives this variable, of this kind
pub record IsMeaning (scope : Scope) (w : List ℕ) (v : Var) (truth : Bool) : Type 0 where
  pub gives : meaning_of scope w ≡ Some v
  pub kind : truth ≡ truth_of scope v

pub outside_fields : (scope : Scope) (w : List ℕ) → is_field_use w ≡ false → meaning_of scope w ≡ variable_or var.Prim (primitive_named w) (variable_or var.Control (decl_from 0 scope.controls w) (variable_or var.Local (local_from 0 scope.locals w) None))
outside_fields scope w h = ap (λ b. if b then variable_or var.Field (decl_from 0 scope.fields (drop 7 w)) None else variable_or var.Prim (primitive_named w) (variable_or var.Control (decl_from 0 scope.controls w) (variable_or var.Local (local_from 0 scope.locals w) None))) h

field_given : (scope : Scope) (i : ℕ) (w : List ℕ) (truth : Bool) → IsProper scope → IsField scope.fields i w truth → IsMeaning scope w (var.Field i) truth
field_given scope i w truth p f = record {
  gives =
      ap (meaning_of scope) f.spelt
      ∙ ap (λ r. variable_or var.Field (decl_from 0 scope.fields r) None) (sym f.declared.named)
      ∙ ap (λ n. variable_or var.Field n None) (p.fields i f.declared.decl f.declared.there);
  kind = f.declared.kind ∙ sym (ap declares_truth f.declared.there);
}

control_given : (scope : Scope) (i : ℕ) (w : List ℕ) (truth : Bool) → IsProper scope → IsDeclaredName scope.controls i w truth → IsMeaning scope w (var.Control i) truth
control_given scope i w truth p f =
    let c = subst (IsControl scope i) f.named (p.controls i f.decl f.there) in
    record {
      gives =
          outside_fields scope w c.no_field
          ∙ ap (λ n. variable_or var.Prim n (variable_or var.Control (decl_from 0 scope.controls w) (variable_or var.Local (local_from 0 scope.locals w) None))) c.no_primitive
          ∙ ap (λ n. variable_or var.Control n (variable_or var.Local (local_from 0 scope.locals w) None)) c.found;
      kind = f.kind ∙ sym (ap declares_truth f.there);
    }

local_given : (scope : Scope) (i : ℕ) (w : List ℕ) (truth : Bool) → IsProper scope → IsLocal scope.locals i w truth → IsMeaning scope w (var.Local i) truth
local_given scope i w truth p f =
    let c = subst (IsOwnLocal scope i) f.named (p.locals i f.local f.there) in
    record {
      gives =
          outside_fields scope w c.no_field
          ∙ ap (λ n. variable_or var.Prim n (variable_or var.Control (decl_from 0 scope.controls w) (variable_or var.Local (local_from 0 scope.locals w) None))) c.no_primitive
          ∙ ap (λ n. variable_or var.Control n (variable_or var.Local (local_from 0 scope.locals w) None)) c.no_control
          ∙ ap (λ n. variable_or var.Local n None) c.found;
      kind = f.kind ∙ sym (local_truth scope.locals i f.local f.there);
    }

primitive_given : (scope : Scope) (n : ℕ) (w : List ℕ) (truth : Bool) → IsPrimitive n w truth → IsMeaning scope w (var.Prim n) truth
primitive_given scope n w truth f =
    let c = subst (λ (o : Option ℕ). IfSome o (λ _. (is_field_use w ≡ false) × (is_primitive_use w ≡ true))) f.spelt (primitive_word w) in
    record {
      gives = outside_fields scope w c.0 ∙ ap (λ n. variable_or var.Prim n (variable_or var.Control (decl_from 0 scope.controls w) (variable_or var.Local (local_from 0 scope.locals w) None))) f.spelt;
      kind = f.kind;
    }

-- what a word means, its look-up gives
pub meaning_given : (scope : Scope) (w : List ℕ) (v : Var) (truth : Bool) → IsProper scope → Means scope w v truth → IsMeaning scope w v truth
meaning_given scope w (var.Field i) truth p m = field_given scope i w truth p m
meaning_given scope w (var.Control i) truth p m = control_given scope i w truth p m
meaning_given scope w (var.Local i) truth p m = local_given scope i w truth p m
meaning_given scope w (var.Prim n) truth p m = primitive_given scope n w truth m
meaning_given scope w var.Cwnd truth p m = absurd m
meaning_given scope w var.Rate truth p m = absurd m
meaning_given scope w var.Micros truth p m = absurd m

-- the walk gives this, and the kind is its own
pub record IsGiven (scope : Scope) (r : Result Term ScopeFault) (t : Term) (truth : Bool) : Type 0 where
  pub gives : r ≡ Ok t
  pub kind : truth ≡ term_is_truth (known_in scope) t

pub record IsGivenVariable (scope : Scope) (r : Result Var ScopeFault) (v : Var) (truth : Bool) : Type 0 where
  pub gives : r ≡ Ok v
  pub kind : truth ≡ truth_of scope v

variable_given : (scope : Scope) (at : Place) (w : List ℕ) (lang : Option Var) (v : Var) (truth : Bool) → IsProper scope → IfSome lang (λ v. truth_of scope v ≡ false) → NamesVariable scope w lang v truth → IsGivenVariable scope (variable_walk scope at w lang) v truth
variable_given scope at w (Some u) v truth p k n = record { gives = ap Ok (sym n.0); kind = n.1 ∙ sym (ap (truth_of scope) n.0 ∙ k) }
variable_given scope at w None v truth p k n =
    let m = meaning_given scope w v truth p n.1 in
    record {
      gives =
          ap (λ b. if b then Err (Misplaced at) else or_refused (meaning_of scope w) (Unknown at)) n.0
          ∙ ap (λ (o : Option Var). or_refused o (Unknown at)) m.gives;
      kind = m.kind;
    }

word_given : (scope : Scope) (at : Place) (w : List ℕ) (c : Option Term) (t : Term) (truth : Bool) → IsProper scope → IfSome c (λ t. term_is_truth (known_in scope) t ≡ constant_truth t) → IsWord scope w c t truth → IsGiven scope (word_walk scope at w c) t truth
word_given scope at w (Some c) t truth p k h = record { gives = ap Ok (sym h.0); kind = h.1 ∙ sym (ap (term_is_truth (known_in scope)) h.0 ∙ k) }
word_given scope at w None t truth p k h =
    let g = variable_given scope at w (variable_of w) h.variable truth p (variable_kind scope w) h.names in
    record {
      gives = ap name_walk g.gives ∙ ap Ok (sym h.term);
      kind = g.kind ∙ sym (ap (term_is_truth (known_in scope)) h.term);
    }

pair_given : (scope : Scope) (at head : Place) (op : Option Op2) (l r : Result Term ScopeFault) (o : Op2) (left right : Term) → op ≡ Some o → l ≡ Ok left → r ≡ Ok right → pair_walk at head op l r ≡ Ok (pair o head left right)
pair_given scope at head op l r o left right e f g =
    ap (λ (x : Option Op2). pair_walk at head x l r) e
    ∙ ap (λ (x : Result Term ScopeFault). pair_walk at head (Some o) x r) f
    ∙ ap (λ (x : Result Term ScopeFault). pair_walk at head (Some o) (Ok left) x) g

-- what is scoped, an expression's walk gives
pub expression_given : (scope : Scope) (node : Node) (t : Term) (truth : Bool) → IsProper scope → IsTerm scope node t truth → IsGiven scope (expression_walk scope node) t truth
expression_given scope (number at n) t truth p h = record {
  gives = ap (λ b. if b then Ok (term.number n) else Err (Misplaced at)) (lt-ltb n (2 ^ 64) h.0) ∙ ap Ok (sym h.1);
  kind = h.2 ∙ sym (ap (term_is_truth (known_in scope)) h.1);
}
expression_given scope (word at w) t truth p h = word_given scope at w (constant_of w) t truth p (constant_kind scope w) h
expression_given scope (list at (more (word head o) (more left (more right none)))) t truth p h =
    let l = expression_given scope left h.left h.left_truth p h.is_left in
    let r = expression_given scope right h.right h.right_truth p h.is_right in
    record {
      gives = pair_given scope at head (operator_of o) _ _ h.operator h.left h.right h.spelt l.gives r.gives ∙ ap Ok (sym h.term);
      kind = h.kind ∙ sym (ap (term_is_truth (known_in scope)) h.term);
    }
expression_given scope (list at parts) t truth p h = absurd h
