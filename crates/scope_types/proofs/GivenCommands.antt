-- Commands that are well scoped are given by the walk over them.
use Rattle.std.proofs.Common.{◌≡◌, inl, inr, ℕ, ◌==◌, Bool, true, false, not, ◌&&◌, ◌||◌, refl, List, [], ◌∷◌, ◌++◌, length, Option, Some, None, IfSome, is_some, Result, Ok, IsTrue, nat_le, if◌then◌else◌, bytes_eq, codes, ap, ◌∙◌, sym, subst, append-nil, append_assoc}
use Rattle.std.proofs.lemmas.Bool.{or_parts, or_from, le-leb, lt-leb}
use Rattle.std.proofs.lemmas.Bool.Decides.{Decides-eqb}
use Rattle.std.proofs.option.Match.{None-if_not_some}
use Rattle.ccp_base.specs.declared.place.Place.{Place}
use Rattle.ccp_base.specs.declared.operation.Op2.{Op2}
use Rattle.portus_core.specs.declared.program.Var.{Var}
use Rattle.portus_core.specs.declared.program.Var.TheVariants as var
use Rattle.portus_core.specs.Programs.{Term, Action, set, zero_micros}
use Rattle.portus_core.specs.Trees.{Node, Nodes, none, more, number, word, list}
use Rattle.portus_core.specs.ValidPrograms.{is_writable, term_is_truth}
use Rattle.scope_types.specs.declared.fault.ScopeFault.{ScopeFault}
use Rattle.scope_types.specs.declared.target.Target.{Target}
use Rattle.scope_types.specs.declared.target.Target.TheVariants.{Known as Meant, Fresh}
use Rattle.portus_core.specs.Words.{variable_of, is_name_shaped, is_heading, is_constant, is_reserved, is_field_use, is_primitive_use}
use Rattle.ccp_base.specs.Operations.{operator_of}
use Rattle.scope_types.specs.Scope.{Scope, known_in, with_local_name}
use Rattle.scope_types.specs.Names.{decl_from, local_from, variable_or, meaning_of}
use Rattle.scope_types.specs.Cuts.{node_place}
use Rattle.scope_types.specs.WalkResults.{and_then}
use Rattle.scope_types.specs.ExpressionWalk.{expression_walk}
use Rattle.scope_types.specs.CommandWalk as walk
use Rattle.scope_types.specs.ExpressionRules.{NamesVariable, IsTerm}
use Rattle.scope_types.specs.CommandRules.{FitsKind, IsPlain, IsChoice, IsWeight, IsEwma, IsSpecial, IsValue, IsZero, IsZeroAssignment, IsKnownAssignment, IsFresh, IsFirstAssignment, IsAssignment, IsCommand, IsBody}
use Rattle.scope_types.proofs.ScopedExpressions.{truth_of, spelt, variable_kind, IsProper}
use Rattle.scope_types.proofs.GivenExpressions.{outside_fields, meaning_given, expression_given}
use Rattle.scope_types.proofs.ProperScopes.{fresh_local, fresh_control, fresh_primitive}
use Rattle.scope_types.proofs.ScopedCommands.{command_proper}

-- the second walk starts from what the first gives
pub then_given : {A B E : Type 0} (r : Result A E) (walk : A → Result B E) (a : A) (s : Result B E) → r ≡ Ok a → walk a ≡ s → and_then r walk ≡ s
then_given r walk a s e f = ap (λ x. and_then x walk) e ∙ f

pub if_false : {A : Type 0} (b : Bool) (x y z : A) → b ≡ false → y ≡ z → (if b then x else y) ≡ z
if_false b x y z e f = ap (λ c. if c then x else y) e ∙ f

pub if_true : {A : Type 0} (b : Bool) (x y z : A) → b ≡ true → x ≡ z → (if b then x else y) ≡ z
if_true b x y z e f = ap (λ c. if c then x else y) e ∙ f

-- the target of a name that may be assigned
record IsTarget (scope : Scope) (r : Result Target ScopeFault) (at : Place) (v : Var) (truth : Bool) : Type 0 where
  gives : r ≡ Ok (Meant at v)
  kind : truth ≡ truth_of scope v

writable_named : (at : Place) (w : List ℕ) (v : Var) → IsTrue (is_writable v) → walk.named_target_walk at w (Some v) ≡ Ok (Meant at v)
writable_named at w (var.Prim n) h = absurd (cc)
writable_named at w (var.Field i) h = refl
writable_named at w (var.Control i) h = refl
writable_named at w (var.Local i) h = refl
writable_named at w var.Cwnd h = refl
writable_named at w var.Rate h = refl
writable_named at w var.Micros h = refl

target_given : (scope : Scope) (at : Place) (w : List ℕ) (lang : Option Var) (v : Var) (truth : Bool) → IsProper scope → IfSome lang (λ v. truth_of scope v ≡ false) → NamesVariable scope w lang v truth → IsTrue (is_writable v) → IsTarget scope (walk.word_target_walk scope at w lang) at v truth
target_given scope at w (Some u) v truth p k n h = record { gives = ap (λ x. Ok (Meant at x)) (sym n.0); kind = n.1 ∙ sym (ap (truth_of scope) n.0 ∙ k) }
target_given scope at w None v truth p k n h =
    let m = meaning_given scope w v truth p n.1 in
    record {
      gives = if_false (is_reserved w) _ _ _ n.0 (ap (walk.named_target_walk at w) m.gives ∙ writable_named at w v h);
      kind = m.kind;
    }

writable_assigned : (scope : Scope) (at : Place) (v : Var) (value : Node) → IsTrue (is_writable v) → walk.assigned_walk scope (Meant at v) value ≡ walk.value_walk scope (Meant at v) value
writable_assigned scope at (var.Prim n) value h = refl
writable_assigned scope at (var.Field i) value h = refl
writable_assigned scope at (var.Control i) value h = refl
writable_assigned scope at (var.Local i) value h = refl
writable_assigned scope at var.Cwnd value h = refl
writable_assigned scope at var.Rate value h = refl
writable_assigned scope at var.Micros value h = absurd (cc)

-- a word that is an operator isn't this one
not_spelt : (w lit : List ℕ) (op : Op2) → operator_of lit ≡ None → operator_of w ≡ Some op → bytes_eq w lit ≡ false
not_spelt w lit op e h =
    elim (bytes_eq w lit) as (λ b. bytes_eq w lit ≡ b → b ≡ false)
    [ true ↦ λ k. absurd (let f : None ≡ Some op = sym e ∙ ap operator_of (sym (spelt w lit k)) ∙ h in cc) | false ↦ λ k. refl ] refl

-- an expression is walked as one
value_plain : (scope : Scope) (target : Target) (value : Node) (t : Term) (truth : Bool) → IsTerm scope value t truth → walk.value_walk scope target value ≡ walk.plain_assignment_walk scope target value
value_plain scope target (list at (more (word head w) (more left (more right none)))) t truth h =
    if_false (bytes_eq w (codes "if")) _ _ _ (not_spelt w (codes "if") h.operator refl h.spelt)
    (if_false (bytes_eq w (codes "!if")) _ _ _ (not_spelt w (codes "!if") h.operator refl h.spelt)
    (if_false (bytes_eq w (codes "ewma")) _ _ _ (not_spelt w (codes "ewma") h.operator refl h.spelt) refl))
value_plain scope target (number at n) t truth h = refl
value_plain scope target (word at w) t truth h = refl
value_plain scope target (list at parts) t truth h = absurd h

kind_test : (wanted truth : Bool) → FitsKind wanted truth → (wanted && not truth) ≡ false
kind_test true truth h = ap not (h refl)
kind_test false truth h = refl

pub kind_given : (scope : Scope) (wanted : Bool) (at : Place) (term : Term) (truth : Bool) → truth ≡ term_is_truth (known_in scope) term → FitsKind wanted truth → walk.kind_walk scope wanted at term ≡ Ok term
kind_given scope wanted at term truth e h =
    if_false (wanted && not (walk.is_bool scope term)) _ _ _ (kind_test wanted _ (subst (FitsKind wanted) e h)) refl

plain_given : (scope : Scope) (at : Place) (v : Var) (value : Node) (action : Action) → IsProper scope → IsPlain scope v (truth_of scope v) value action → walk.value_walk scope (Meant at v) value ≡ Ok (action, scope)
plain_given scope at v value action p h =
    let g = expression_given scope value h.term h.truth p h.is_value in
    value_plain scope (Meant at v) value h.term h.truth h.is_value
    ∙ then_given (expression_walk scope value) _ h.term _ g.gives
    (then_given (walk.kind_walk scope (truth_of scope v) (node_place value) h.term) _ h.term _ (kind_given scope (truth_of scope v) (node_place value) h.term h.truth g.kind h.fits)
    (ap (λ a. Ok (a, scope)) (sym h.command)))

choice_given : (scope : Scope) (at : Place) (v : Var) (when_so : Bool) (value_at head : Place) (condition value : Node) (action : Action) → IsProper scope → IsChoice scope (truth_of scope v) (λ c e. walk.choice_action when_so head v c e) condition value action → walk.choice_walk scope (Meant at v) when_so value_at head (more condition (more value none)) ≡ Ok (action, scope)
choice_given scope at v when_so value_at head condition value action p h =
    let c = expression_given scope condition h.condition_term true p h.is_condition in
    let g = expression_given scope value h.term h.truth p h.is_value in
    then_given (expression_walk scope condition) _ h.condition_term _ c.gives
    (then_given (expression_walk scope value) _ h.term _ g.gives
    (then_given (walk.kind_walk scope true (node_place condition) h.condition_term) _ h.condition_term _ (kind_given scope true (node_place condition) h.condition_term true c.kind (λ k. k))
    (then_given (walk.kind_walk scope (truth_of scope v) (node_place value) h.term) _ h.term _ (kind_given scope (truth_of scope v) (node_place value) h.term h.truth g.kind h.fits)
    (ap (λ a. Ok (a, scope)) (sym h.command)))))

weight_given : (node : Node) (n : ℕ) → IsWeight node n → walk.weight_walk node ≡ Ok n
weight_given (number at m) n h = if_true (nat_le m 10) _ _ _ (ap (λ k. nat_le k 10) h.0 ∙ le-leb n 10 h.1) (ap Ok h.0)
weight_given (word at w) n h = absurd h
weight_given (list at parts) n h = absurd h

ewma_given : (scope : Scope) (at : Place) (v : Var) (value_at head : Place) (weight value : Node) (action : Action) → IsProper scope → IsEwma scope v (truth_of scope v) head weight value action → walk.ewma_walk scope (Meant at v) value_at head (more weight (more value none)) ≡ Ok (action, scope)
ewma_given scope at v value_at head weight value action p h =
    let g = expression_given scope value h.term h.truth p h.is_value in
    then_given (walk.number_walk scope (Meant at v)) _ v _ (if_false (truth_of scope v) _ _ _ h.number refl)
    (then_given (walk.weight_walk weight) _ h.tenths _ (weight_given weight h.tenths h.is_weight)
    (then_given (expression_walk scope value) _ h.term _ g.gives
    (ap (λ a. Ok (a, scope)) (sym h.command))))

special_given : (scope : Scope) (at : Place) (v : Var) (value : Node) (action : Action) → IsProper scope → IsSpecial scope v (truth_of scope v) value action → walk.value_walk scope (Meant at v) value ≡ Ok (action, scope)
special_given scope at v (list value_at (more (word head w) (more first (more second none)))) action p h =
    let headed : List ℕ → Result walk.Step ScopeFault = λ u. walk.value_walk scope (Meant at v) (list value_at (more (word head u) (more first (more second none)))) in
    elim h [
      | inl c ↦ ap headed c.0 ∙ choice_given scope at v true value_at head first second action p c.1
      | inr o ↦ elim o [
        | inl c ↦ ap headed c.0 ∙ choice_given scope at v false value_at head first second action p c.1
        | inr c ↦ ap headed c.0 ∙ ewma_given scope at v value_at head first second action p c.1
      ]
    ]
special_given scope at v value action p h = absurd h

value_given : (scope : Scope) (at : Place) (v : Var) (value : Node) (action : Action) → IsProper scope → IsValue scope v (truth_of scope v) value action → walk.value_walk scope (Meant at v) value ≡ Ok (action, scope)
value_given scope at v value action p h =
    elim h [ inl k ↦ plain_given scope at v value action p k | inr k ↦ special_given scope at v value action p k ]

known_given : (scope : Scope) (at : Place) (w : List ℕ) (value : Node) (action : Action) (after : Scope) → IsProper scope → IsKnownAssignment scope w value action after → walk.assignment_walk scope (word at w) value ≡ Ok (action, after)
known_given scope at w value action after p h =
    let t = target_given scope at w (variable_of w) h.variable h.truth p (variable_kind scope w) h.named h.writable in
    then_given (walk.target_walk scope (word at w)) _ (Meant at h.variable) _ t.gives
    (writable_assigned scope at h.variable value h.writable
    ∙ value_given scope at h.variable value action p (subst (λ b. IsValue scope h.variable b value action) t.kind h.assigned)
    ∙ ap (λ s. Ok (action, s)) (sym h.names))

zero_given : (scope : Scope) (value : Node) → IsZero value → walk.micros_walk scope value ≡ Ok (zero_micros, scope)
zero_given scope (number at n) h = if_true (n == 0) _ _ _ ((Decides-eqb n 0).1 h) refl
zero_given scope (word at w) h = absurd h
zero_given scope (list at parts) h = absurd h

micros_given : (scope : Scope) (at : Place) (w : List ℕ) (value : Node) (action : Action) (after : Scope) → IsZeroAssignment scope w value action after → walk.assignment_walk scope (word at w) value ≡ Ok (action, after)
micros_given scope at w value action after h =
    ap (λ u. walk.assignment_walk scope (word at u) value) h.named
    ∙ zero_given scope value h.zero
    ∙ ap (λ a. Ok (a, scope)) (sym h.command)
    ∙ ap (λ s. Ok (action, s)) (sym h.names)

unreserved_variable : (w : List ℕ) → is_reserved w ≡ false → variable_of w ≡ None
unreserved_variable w h =
    let others = not (is_name_shaped w) || is_heading w || is_constant w in
    let unnamed = (or_parts (others || is_some (variable_of w)) (is_some (operator_of w)) h).0 in
    None-if_not_some (variable_of w) (or_parts others (is_some (variable_of w)) unnamed).1

fresh_meaning : (scope : Scope) (w : List ℕ) → IsFresh scope w → meaning_of scope w ≡ None
fresh_meaning scope w f =
    outside_fields scope w f.no_field
    ∙ ap (λ n. variable_or var.Prim n (variable_or var.Control (decl_from 0 scope.controls w) (variable_or var.Local (local_from 0 scope.locals w) None))) (fresh_primitive scope w f)
    ∙ ap (λ n. variable_or var.Control n (variable_or var.Local (local_from 0 scope.locals w) None)) (fresh_control scope w f)
    ∙ ap (λ n. variable_or var.Local n None) (fresh_local scope w f)

fresh_target : (scope : Scope) (at : Place) (w : List ℕ) → IsFresh scope w → walk.target_walk scope (word at w) ≡ Ok (Fresh at w)
fresh_target scope at w f =
    ap (walk.word_target_walk scope at w) (unreserved_variable w f.unreserved)
    ∙ if_false (is_reserved w) _ _ _ f.unreserved
    (ap (walk.named_target_walk at w) (fresh_meaning scope w f)
    ∙ if_false (is_field_use w || is_primitive_use w) _ _ _ (or_from _ _ f.no_field f.no_primitive) refl)

first_given : (scope : Scope) (at : Place) (w : List ℕ) (value : Node) (action : Action) (after : Scope) → IsProper scope → IsFirstAssignment scope w value action after → walk.assignment_walk scope (word at w) value ≡ Ok (action, after)
first_given scope at w value action after p h =
    let g = expression_given scope value h.term h.truth p h.is_value in
    then_given (walk.target_walk scope (word at w)) _ (Fresh at w) _ (fresh_target scope at w h.fresh)
    (value_plain scope (Fresh at w) value h.term h.truth h.is_value
    ∙ then_given (expression_walk scope value) _ h.term _ g.gives
    (if_false (nat_le 8 (length scope.locals)) _ _ _ (lt-leb 8 _ h.few)
    (ap (λ b. Ok (set (var.Local (length scope.locals)) h.term, with_local_name scope w b)) (sym g.kind)
    ∙ ap (λ a. Ok (a, with_local_name scope w h.truth)) (sym h.command)
    ∙ ap (λ s. Ok (action, s)) (sym h.names))))

assignment_given : (scope : Scope) (at : Place) (w : List ℕ) (value : Node) (action : Action) (after : Scope) → IsProper scope → IsAssignment scope w value action after → walk.assignment_walk scope (word at w) value ≡ Ok (action, after)
assignment_given scope at w value action after p h =
    elim h [
      | inl z ↦ micros_given scope at w value action after z
      | inr o ↦ elim o [ inl k ↦ known_given scope at w value action after p k | inr f ↦ first_given scope at w value action after p f ]
    ]

-- what is scoped, a command's walk gives
pub command_given : (scope : Scope) (node : Node) (action : Action) (after : Scope) → IsProper scope → IsCommand scope node action after → walk.command_walk scope node ≡ Ok (action, after)
command_given scope (list at (more (word head w) none)) action after p h =
    let headed : List ℕ → Result walk.Step ScopeFault = λ u. walk.command_walk scope (list at (more (word head u) none)) in
    elim h [
      | inl r ↦ ap headed r.0 ∙ ap (λ a. Ok (a, scope)) (sym r.1) ∙ ap (λ s. Ok (action, s)) (sym r.2)
      | inr r ↦ ap headed r.0 ∙ ap (λ a. Ok (a, scope)) (sym r.1) ∙ ap (λ s. Ok (action, s)) (sym r.2)
    ]
command_given scope (list at (more (word head w) (more (word target_at target) (more value none)))) action after p h =
    let headed : List ℕ → Result walk.Step ScopeFault = λ u. walk.command_walk scope (list at (more (word head u) (more (word target_at target) (more value none)))) in
    let given = assignment_given scope target_at target value action after p h.1 in
    elim h.0 [ inl e ↦ ap headed e ∙ given | inr e ↦ ap headed e ∙ given ]
command_given scope node action after p h = absurd h

-- what is scoped, a body's walk gives
pub body_given : (scope : Scope) (done : List Action) (nodes : Nodes) (actions : List Action) (after : Scope) → IsProper scope → IsBody scope nodes actions after → walk.body_walk scope done nodes ≡ Ok (done ++ actions, after)
body_given scope done none [] after p h = ap (λ ds. Ok (ds, scope)) (sym (append-nil done)) ∙ ap (λ s. Ok (done ++ [], s)) (sym h)
body_given scope done none (action ∷ actions) after p h = absurd h
body_given scope done (more node rest) [] after p h = absurd h
body_given scope done (more node rest) (action ∷ actions) after p h =
    then_given (walk.command_walk scope node) _ (action, h.between) _ (command_given scope node action h.between p h.command)
    (body_given h.between (done ++ action ∷ []) rest actions after (command_proper scope node action h.between p h.command) h.rest
    ∙ ap (λ ds. Ok (ds, after)) (append_assoc done (action ∷ []) actions))
