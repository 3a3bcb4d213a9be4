-- Commands that their walk gives are valid where they stand.
use Rattle.std.proofs.Common.{◌≡◌, ℕ, ◌==◌, Bool, true, false, not, ◌&&◌, ◌||◌, refl, List, [], ◌∷◌, ◌++◌, length, Option, Some, None, IfSome, IfOk, IsTrue, nat_lt, nat_le, bytes_eq, codes, arith, ap, ◌∙◌, sym, append-nil, append_assoc, eq-eqb}
use Rattle.std.proofs.lemmas.List.{length-map, map-append}
use Rattle.std.proofs.lemmas.Bool.{and_parts, and_from, or_left, or_right, not_from_false}
use Rattle.std.proofs.lemmas.Result.{IfOk-weaker}
use Rattle.std.proofs.lemmas.Bool.Decides.{nat_tests}
use Rattle.ccp_base.specs.declared.place.Place.{Place}
use Rattle.portus_core.specs.declared.program.Var.{Var}
use Rattle.portus_core.specs.declared.program.Var.TheVariants as var
use Rattle.portus_core.specs.Programs.{Term, Action, set, set_if, set_unless, ewma, zero_micros, report, fall}
use Rattle.portus_core.specs.Trees.{Node, Nodes, none, more, number, word, list}
use Rattle.portus_core.specs.ValidPrograms.{KnownNames, is_known, is_term, is_truth, is_target, term_is_truth, is_condition, fits_target, is_next_local, is_action, with_known_local, known_after, is_body}
use Rattle.scope_types.specs.declared.names.Local.{Local}
use Rattle.scope_types.specs.declared.target.Target.{Target}
use Rattle.scope_types.specs.declared.target.Target.TheVariants.{Known as Meant, Fresh}
use Rattle.portus_core.specs.Words.{variable_of, is_reserved, is_field_use, is_primitive_use}
use Rattle.scope_types.specs.Names.{meaning_of}
use Rattle.scope_types.specs.Scope.{Scope, known_in}
use Rattle.scope_types.specs.ExpressionWalk.{expression_walk}
use Rattle.scope_types.specs.Scope as scope
use Rattle.scope_types.specs.CommandWalk as walk
use Rattle.scope_types.proofs.Results.{if_ok, then_ok}
use Rattle.scope_types.proofs.ValidExpressions.{meaning_known, expression_valid}

-- a target: `Micros`, a name that may be assigned, or a word without a meaning
abbrev pub IsGoal : Scope → Target → Type 0
IsGoal names (Meant at var.Micros) = Unit {0}
IsGoal names (Meant at v) = IsTrue (is_target (known_in names) v)
IsGoal names (Fresh at w) = Unit {0}

-- the same without `Micros`
abbrev pub IsOther : Scope → Target → Type 0
IsOther names (Meant at v) = IsTrue (is_target (known_in names) v)
IsOther names (Fresh at w) = Unit {0}

-- a right command with the names after it
abbrev pub IsStep : Scope → walk.Step → Type 0
IsStep names step = IsTrue (is_action (known_in names) step.0) × (known_in step.1 ≡ known_after (known_in names) step.0)

variable_goal : (names : Scope) (at : Place) (w : List ℕ) → IfSome (variable_of w) (λ v. IsGoal names (Meant at v))
variable_goal names at w = grind (arith, nat_tests)

named_goal : (names : Scope) (at : Place) (w : List ℕ) (v : Option Var) → IfSome v (λ v. IsTrue (is_known (known_in names) v)) → IfOk (walk.named_target_walk at w v) (IsGoal names)
named_goal names at w (Some (var.Prim n)) h = tt
named_goal names at w (Some var.Micros) h = tt
named_goal names at w (Some (var.Field i)) h = and_from _ _ h refl
named_goal names at w (Some (var.Control i)) h = and_from _ _ h refl
named_goal names at w (Some (var.Local i)) h = and_from _ _ h refl
named_goal names at w (Some var.Cwnd) h = refl
named_goal names at w (Some var.Rate) h = refl
named_goal names at w None h = if_ok (is_field_use w || is_primitive_use w) _ _ _ (λ _. tt) (λ _. tt)

word_goal : (names : Scope) (at : Place) (w : List ℕ) (v : Option Var) → IfSome v (λ v. IsGoal names (Meant at v)) → IfOk (walk.word_target_walk names at w v) (IsGoal names)
word_goal names at w (Some v) h = h
word_goal names at w None h = if_ok (is_reserved w) _ _ _ (λ _. tt) (λ _. named_goal names at w (meaning_of names w) (meaning_known names w))

target_goal : (names : Scope) (node : Node) → IfOk (walk.target_walk names node) (IsGoal names)
target_goal names (word at w) = word_goal names at w (variable_of w) (variable_goal names at w)
target_goal names (number at n) = tt
target_goal names (list at parts) = tt

fits_from : (wanted truth : Bool) → (wanted && not truth) ≡ false → (not wanted || truth) ≡ true
fits_from true true h = refl
fits_from true false h = sym h
fits_from false truth h = refl

pub kind_fits : (names : Scope) (wanted : Bool) (at : Place) (term : Term) → IsTrue (is_term (known_in names) term) → IfOk (walk.kind_walk names wanted at term) (λ t. IsTrue (is_term (known_in names) t && (not wanted || term_is_truth (known_in names) t)))
kind_fits names wanted at term h =
    if_ok (wanted && not (walk.is_bool names term)) _ _ _ (λ _. tt) (λ k. and_from _ _ h (fits_from wanted (walk.is_bool names term) k))

known_target : (names : Scope) (target : Target) → IsOther names target → IfOk (walk.known_variable_walk target) (λ v. IsTrue (is_target (known_in names) v))
known_target names (Meant at v) h = h
known_target names (Fresh at w) h = tt

choice_step : (names : Scope) (when_so : Bool) (head : Place) (v : Var) (condition value : Term) → IsTrue (is_target (known_in names) v) → IsTrue (is_condition (known_in names) condition) → IsTrue (fits_target (known_in names) v value) → IsStep names (walk.choice_action when_so head v condition value, names)
choice_step names true head v condition value t c f = (and_from _ _ (and_from _ _ t c) f, refl)
choice_step names false head v condition value t c f = (and_from _ _ (and_from _ _ t c) f, refl)

choice_valid : (names : Scope) (target : Target) (when_so : Bool) (value_at head : Place) (parts : Nodes) → IsOther names target → IfOk (walk.choice_walk names target when_so value_at head parts) (IsStep names)
choice_valid names target when_so value_at head (more condition (more value none)) h =
    then_ok (walk.known_variable_walk target) _ _ _ (known_target names target h) (λ v t.
    then_ok (expression_walk names condition) _ _ _ (expression_valid names condition) (λ c p.
    then_ok (expression_walk names value) _ _ _ (expression_valid names value) (λ e q.
    then_ok (walk.kind_walk names true _ c) _ _ _ (kind_fits names true _ c p) (λ c' p'.
    then_ok (walk.kind_walk names (walk.wants_bool names v) _ e) _ _ _ (kind_fits names (walk.wants_bool names v) _ e q) (λ e' q'.
    choice_step names when_so head v c' e' t p' q')))))
choice_valid names target when_so value_at head parts h = tt

weight_valid : (node : Node) → IfOk (walk.weight_walk node) (λ n. IsTrue (nat_le n 10))
weight_valid (number at n) = if_ok (nat_le n 10) _ _ _ (λ h. h) (λ _. tt)
weight_valid (word at w) = tt
weight_valid (list at parts) = tt

number_valid : (names : Scope) (target : Target) → IsOther names target → IfOk (walk.number_walk names target) (λ v. IsTrue (is_target (known_in names) v && not (is_truth (known_in names) v)))
number_valid names (Meant at v) h = if_ok (walk.wants_bool names v) _ _ _ (λ _. tt) (λ k. and_from _ _ h (not_from_false _ k))
number_valid names (Fresh at w) h = tt

ewma_valid : (names : Scope) (target : Target) (value_at head : Place) (parts : Nodes) → IsOther names target → IfOk (walk.ewma_walk names target value_at head parts) (IsStep names)
ewma_valid names target value_at head (more weight (more value none)) h =
    then_ok (walk.number_walk names target) _ _ _ (number_valid names target h) (λ v t.
    then_ok (walk.weight_walk weight) _ _ _ (weight_valid weight) (λ w k.
    then_ok (expression_walk names value) _ _ _ (expression_valid names value) (λ e q.
    (and_from _ _ (and_from _ _ t k) q, refl))))
ewma_valid names target value_at head parts h = tt

not_next : (i n : ℕ) → nat_lt i n ≡ true → ((i == n) && nat_lt i 8) ≡ false
not_next i n h = grind (arith, nat_tests)

-- a name that is known isn't the next local
known_not_next : (known : KnownNames) (v : Var) → IsTrue (is_known known v) → is_next_local known v ≡ false
known_not_next known (var.Local i) h = not_next i (length known.locals) h
known_not_next known (var.Field i) h = refl
known_not_next known (var.Control i) h = refl
known_not_next known (var.Prim n) h = refl
known_not_next known var.Cwnd h = refl
known_not_next known var.Rate h = refl
known_not_next known var.Micros h = refl

set_known : (names : Scope) (v : Var) (term : Term) → IsTrue (is_target (known_in names) v) → IsTrue (fits_target (known_in names) v term) → IsStep names (set v term, names)
set_known names v term t f = (
  or_left _ _ (and_from _ _ t f),
  ap (λ b. with_known_local (known_in names) b (term_is_truth (known_in names) term)) (sym (known_not_next (known_in names) v (and_parts _ _ t).0)),
)

next_test : (n m : ℕ) → m ≡ n → nat_le 8 n ≡ false → ((n == m) && nat_lt n 8) ≡ true
next_test n m e h = grind (arith, nat_tests)

set_fresh : (names : Scope) (w : List ℕ) (term : Term) → nat_le 8 (length names.locals) ≡ false → IsTrue (is_term (known_in names) term) → IsStep names (set (var.Local (length names.locals)) term, scope.with_local_name names w (walk.is_bool names term))
set_fresh names w term room t =
    let next : is_next_local (known_in names) (var.Local (length names.locals)) ≡ true = next_test (length names.locals) _ (length-map names.locals (λ (l : Local). l.truth)) room in (
      or_right _ _ (and_from _ _ next t),
      ap (λ ls. let known : KnownNames = record { fields = names.fields; controls = names.controls; locals = ls } in known) (map-append (λ (l : Local). l.truth) names.locals _)
          ∙ ap (λ b. with_known_local (known_in names) b (walk.is_bool names term)) (sym next),
    )

set_valid : (names : Scope) (target : Target) (value_at : Place) (term : Term) → IsOther names target → IsTrue (is_term (known_in names) term) → IfOk (walk.set_walk names target value_at term) (IsStep names)
set_valid names (Meant at v) value_at term h t =
    then_ok (walk.kind_walk names (walk.wants_bool names v) value_at term) _ _ _ (kind_fits names (walk.wants_bool names v) value_at term t)
    (λ e f. set_known names v e h f)
set_valid names (Fresh at w) value_at term h t =
    if_ok (nat_le 8 (length names.locals)) _ _ _ (λ _. tt) (λ room. set_fresh names w term room t)

plain_valid : (names : Scope) (target : Target) (node : Node) → IsOther names target → IfOk (walk.plain_assignment_walk names target node) (IsStep names)
plain_valid names target node h =
    then_ok (expression_walk names node) _ _ _ (expression_valid names node) (λ term t. set_valid names target _ term h t)

value_valid : (names : Scope) (target : Target) (node : Node) → IsOther names target → IfOk (walk.value_walk names target node) (IsStep names)
value_valid names target (list value_at (more (word head w) parts)) h =
    if_ok (bytes_eq w (codes "if")) _ _ _ (λ _. choice_valid names target true value_at head parts h) (λ _.
    if_ok (bytes_eq w (codes "!if")) _ _ _ (λ _. choice_valid names target false value_at head parts h) (λ _.
    if_ok (bytes_eq w (codes "ewma")) _ _ _ (λ _. ewma_valid names target value_at head parts h) (λ _.
    plain_valid names target (list value_at (more (word head w) parts)) h)))
value_valid names target (list value_at none) h = plain_valid names target (list value_at none) h
value_valid names target (list value_at (more (number at n) parts)) h = plain_valid names target (list value_at (more (number at n) parts)) h
value_valid names target (list value_at (more (list at ps) parts)) h = plain_valid names target (list value_at (more (list at ps) parts)) h
value_valid names target (word at w) h = plain_valid names target (word at w) h
value_valid names target (number at n) h = plain_valid names target (number at n) h

micros_valid : (names : Scope) (node : Node) → IfOk (walk.micros_walk names node) (IsStep names)
micros_valid names (number at n) = if_ok (n == 0) _ _ _ (λ _. (refl, refl)) (λ _. tt)
micros_valid names (word at w) = tt
micros_valid names (list at parts) = tt

assigned_valid : (names : Scope) (target : Target) (node : Node) → IsGoal names target → IfOk (walk.assigned_walk names target node) (IsStep names)
assigned_valid names (Meant at var.Micros) node h = micros_valid names node
assigned_valid names (Meant at (var.Field i)) node h = value_valid names (Meant at (var.Field i)) node h
assigned_valid names (Meant at (var.Control i)) node h = value_valid names (Meant at (var.Control i)) node h
assigned_valid names (Meant at (var.Local i)) node h = value_valid names (Meant at (var.Local i)) node h
assigned_valid names (Meant at (var.Prim n)) node h = value_valid names (Meant at (var.Prim n)) node h
assigned_valid names (Meant at var.Cwnd) node h = value_valid names (Meant at var.Cwnd) node h
assigned_valid names (Meant at var.Rate) node h = value_valid names (Meant at var.Rate) node h
assigned_valid names (Fresh at w) node h = value_valid names (Fresh at w) node h

assignment_valid : (names : Scope) (target value : Node) → IfOk (walk.assignment_walk names target value) (IsStep names)
assignment_valid names target value =
    then_ok (walk.target_walk names target) _ _ _ (target_goal names target) (λ t h. assigned_valid names t value h)

-- what a command's walk gives is right where it stands
pub command_valid : (names : Scope) (node : Node) → IfOk (walk.command_walk names node) (IsStep names)
command_valid names (list at (more (word head w) none)) =
    if_ok (bytes_eq w (codes "report")) _ _ _ (λ _. (refl, refl)) (λ _.
    if_ok (bytes_eq w (codes "fallthrough")) _ _ _ (λ _. (refl, refl)) (λ _. tt))
command_valid names (list at (more (word head w) (more target (more value none)))) =
    if_ok (bytes_eq w (codes ":=") || bytes_eq w (codes "bind")) _ _ _ (λ _. assignment_valid names target value) (λ _. tt)
command_valid names node = tt

with_local_fields : (known : KnownNames) (more_ truth : Bool) → (with_known_local known more_ truth).fields ≡ known.fields
with_local_fields known true truth = refl
with_local_fields known false truth = refl

with_local_controls : (known : KnownNames) (more_ truth : Bool) → (with_known_local known more_ truth).controls ≡ known.controls
with_local_controls known true truth = refl
with_local_controls known false truth = refl

after_fields : (known : KnownNames) (action : Action) → (known_after known action).fields ≡ known.fields
after_fields known (set v term) = with_local_fields known (is_next_local known v) (term_is_truth known term)
after_fields known (set_if place v condition term) = refl
after_fields known (set_unless place v condition term) = refl
after_fields known (ewma place v weight term) = refl
after_fields known zero_micros = refl
after_fields known report = refl
after_fields known fall = refl

after_controls : (known : KnownNames) (action : Action) → (known_after known action).controls ≡ known.controls
after_controls known (set v term) = with_local_controls known (is_next_local known v) (term_is_truth known term)
after_controls known (set_if place v condition term) = refl
after_controls known (set_unless place v condition term) = refl
after_controls known (ewma place v weight term) = refl
after_controls known zero_micros = refl
after_controls known report = refl
after_controls known fall = refl

-- the commands after those that are done, with the names after them
pub record IsRest (names : Scope) (done : List Action) (body : List Action × Scope) : Type 0 where
  pub rest : List Action
  pub whole : body.0 ≡ done ++ rest
  pub valid : IsTrue (is_body (known_in names) (length body.1.locals) rest)
  pub fields : body.1.fields ≡ names.fields
  pub controls : body.1.controls ≡ names.controls

nothing_left : (names : Scope) (done : List Action) → IsRest names done (done, names)
nothing_left names done = record {
  rest = [];
  whole = sym (append-nil done);
  valid = eq-eqb (length names.locals) _ (sym (length-map names.locals (λ (l : Local). l.truth)));
  fields = refl;
  controls = refl;
}

one_more : (names : Scope) (done : List Action) (step : walk.Step) (body : List Action × Scope) → IsStep names step → IsRest step.1 (done ++ step.0 ∷ []) body → IsRest names done body
one_more names done step body s r = record {
  rest = step.0 ∷ r.rest;
  whole = r.whole ∙ append_assoc done (step.0 ∷ []) r.rest;
  valid = and_from _ _ s.0 (ap (λ known. is_body known (length body.1.locals) r.rest) (sym s.1) ∙ r.valid);
  fields = r.fields ∙ ap (λ (known : KnownNames). known.fields) s.1 ∙ after_fields (known_in names) step.0;
  controls = r.controls ∙ ap (λ (known : KnownNames). known.controls) s.1 ∙ after_controls (known_in names) step.0;
}

-- what a body's walk gives is right
pub body_valid : (names : Scope) (done : List Action) (nodes : Nodes) → IfOk (walk.body_walk names done nodes) (IsRest names done)
body_valid names done none = nothing_left names done
body_valid names done (more node rest) =
    then_ok (walk.command_walk names node) _ _ _ (command_valid names node)
    (λ step s. IfOk-weaker (walk.body_walk step.1 (done ++ step.0 ∷ []) rest) _ _ (λ body r. one_more names done step body s r) (body_valid step.1 (done ++ step.0 ∷ []) rest))
