-- What the walk over commands gives is well scoped, and keeps a scope in order.
use Rattle.std.proofs.Common.{◌≡◌, ◌⊎◌, inl, inr, ℕ, ◌==◌, Bool, true, false, not, ◌&&◌, ◌||◌, refl, List, [], ◌∷◌, ◌++◌, length, Option, Some, None, IfSome, IfOk, IsTrue, IsFalse, nat_le, bytes_eq, codes, ap, ◌∙◌, sym, subst, append-nil, append_assoc}
use Rattle.std.proofs.lemmas.Bool.{or_parts, leb-true, leb-false}
use Rattle.std.proofs.lemmas.Bool.Decides.{Decides-eqb}
use Rattle.std.proofs.lemmas.Result.{IfOk-weaker}
use Rattle.ccp_base.specs.declared.place.Place.{Place}
use Rattle.portus_core.specs.declared.program.Var.{Var}
use Rattle.portus_core.specs.declared.program.Var.TheVariants as var
use Rattle.portus_core.specs.Programs.{Term, Action, set, ewma}
use Rattle.portus_core.specs.Trees.{Node, Nodes, none, more, number, word, list}
use Rattle.portus_core.specs.ValidPrograms.{is_writable, term_is_truth}
use Rattle.scope_types.specs.declared.target.Target.{Target}
use Rattle.scope_types.specs.declared.target.Target.TheVariants.{Known as Meant, Fresh}
use Rattle.portus_core.specs.Words.{variable_of, is_reserved, is_field_use, is_primitive_use}
use Rattle.scope_types.specs.Scope.{Scope, known_in}
use Rattle.scope_types.specs.Names.{meaning_of}
use Rattle.scope_types.specs.ExpressionWalk.{expression_walk}
use Rattle.scope_types.specs.CommandWalk as walk
use Rattle.scope_types.specs.ExpressionRules.{Means, NamesVariable, IsTerm}
use Rattle.scope_types.specs.CommandRules.{FitsKind, IsPlain, IsChoice, IsWeight, IsEwma, IsValue, IsFresh, IsFirstAssignment, IsAssignment, IsCommand, IsBody}
use Rattle.scope_types.proofs.Results.{if_ok, then_ok}
use Rattle.scope_types.proofs.ScopedExpressions.{truth_of, some_case, spelt, meaning_means, expression_scoped, IsProper}
use Rattle.scope_types.proofs.GivenExpressions.{meaning_given}
use Rattle.scope_types.proofs.ProperScopes.{proper_with_local}

-- what a target's walk finds of a word
abbrev pub TargetIs : Scope → List ℕ → Option Var → Target → Type 0
TargetIs scope w lang (Meant at var.Micros) = w ≡ codes "Micros"
TargetIs scope w lang (Meant at v) = NamesVariable scope w lang v (truth_of scope v) × IsTrue (is_writable v)
TargetIs scope w lang (Fresh at u) = (u ≡ w) × IsFresh scope w

-- a variable of the language, with the spelling of `Micros`
abbrev IsLanguage : List ℕ → Var → Type 0
IsLanguage w var.Micros = w ≡ codes "Micros"
IsLanguage w var.Cwnd = Unit {0}
IsLanguage w var.Rate = Unit {0}
IsLanguage w (var.Field i) = ⊥
IsLanguage w (var.Control i) = ⊥
IsLanguage w (var.Local i) = ⊥
IsLanguage w (var.Prim n) = ⊥

pub variable_language : (w : List ℕ) → IfSome (variable_of w) (IsLanguage w)
variable_language w =
    some_case (bytes_eq w (codes "Cwnd")) _ _ _ (λ _. tt) (λ _.
    some_case (bytes_eq w (codes "Rate")) _ _ _ (λ _. tt) (λ _.
    some_case (bytes_eq w (codes "Micros")) _ _ _ (λ h. spelt w (codes "Micros") h) (λ _. tt)))

language_target : (scope : Scope) (at : Place) (w : List ℕ) (v : Var) → IsLanguage w v → TargetIs scope w (Some v) (Meant at v)
language_target scope at w var.Micros h = h
language_target scope at w var.Cwnd h = ((refl, refl), refl)
language_target scope at w var.Rate h = ((refl, refl), refl)
language_target scope at w (var.Field i) h = absurd h
language_target scope at w (var.Control i) h = absurd h
language_target scope at w (var.Local i) h = absurd h
language_target scope at w (var.Prim n) h = absurd h

not_some : (scope : Scope) (w : List ℕ) (v : Var) (truth : Bool) → IsProper scope → meaning_of scope w ≡ None → Means scope w v truth → ⊥
not_some scope w v truth p e m = let g = meaning_given scope w v truth p m in let f : None ≡ Some v = sym e ∙ g.gives in cc

meaning_target : (scope : Scope) (at : Place) (w : List ℕ) (o : Option Var) → IsProper scope → IsFalse (is_reserved w) → meaning_of scope w ≡ o → IfSome o (λ v. Means scope w v (truth_of scope v)) → IfOk (walk.named_target_walk at w o) (TargetIs scope w None)
meaning_target scope at w (Some (var.Prim n)) p k e m = tt
meaning_target scope at w (Some (var.Field i)) p k e m = ((k, m), refl)
meaning_target scope at w (Some (var.Control i)) p k e m = ((k, m), refl)
meaning_target scope at w (Some (var.Local i)) p k e m = ((k, m), refl)
meaning_target scope at w (Some var.Cwnd) p k e m = absurd m
meaning_target scope at w (Some var.Rate) p k e m = absurd m
meaning_target scope at w (Some var.Micros) p k e m = absurd m
meaning_target scope at w None p k e m =
    if_ok (is_field_use w || is_primitive_use w) _ _ _ (λ _. tt) (λ h.
    let u = or_parts (is_field_use w) (is_primitive_use w) h in
    (refl, record { unreserved = k; no_field = u.0; no_primitive = u.1; unknown = λ v truth means. not_some scope w v truth p e means }))

word_target : (scope : Scope) (at : Place) (w : List ℕ) (lang : Option Var) → IsProper scope → IfSome lang (IsLanguage w) → IfOk (walk.word_target_walk scope at w lang) (TargetIs scope w lang)
word_target scope at w (Some v) p h = language_target scope at w v h
word_target scope at w None p h =
    if_ok (is_reserved w) _ _ _ (λ _. tt) (λ k. meaning_target scope at w (meaning_of scope w) p k refl (meaning_means scope w))

-- the expression itself, which is a Bool if one is wanted
pub record IsKind (scope : Scope) (wanted : Bool) (term found : Term) : Type 0 where
  pub same : found ≡ term
  pub fits : FitsKind wanted (term_is_truth (known_in scope) term)

fits_kind : (wanted truth : Bool) → (wanted && not truth) ≡ false → FitsKind wanted truth
fits_kind true true h w = refl
fits_kind true false h w = sym h
fits_kind false truth h w = absurd (cc)

pub kind_scoped : (scope : Scope) (wanted : Bool) (at : Place) (term : Term) → IfOk (walk.kind_walk scope wanted at term) (IsKind scope wanted term)
kind_scoped scope wanted at term =
    if_ok (wanted && not (walk.is_bool scope term)) _ _ _ (λ _. tt) (λ k. record { same = refl; fits = fits_kind wanted (walk.is_bool scope term) k })

-- an assignment that leaves the names as they are
abbrev IsAssigned : Scope → Var → Node → walk.Step → Type 0
IsAssigned scope v value step = IsValue scope v (truth_of scope v) value step.0 × (step.1 ≡ scope)

plain_scoped : (scope : Scope) (at : Place) (v : Var) (value : Node) → IfOk (walk.plain_assignment_walk scope (Meant at v) value) (λ step. IsPlain scope v (truth_of scope v) value step.0 × (step.1 ≡ scope))
plain_scoped scope at v value =
    then_ok (expression_walk scope value) _ _ _ (expression_scoped scope value) (λ t h.
    then_ok (walk.kind_walk scope (truth_of scope v) _ t) _ _ _ (kind_scoped scope (truth_of scope v) _ t) (λ e k.
    (record { term = t; truth = _; is_value = h; fits = k.fits; command = ap (set v) k.same }, refl)))

plain_assigned : (scope : Scope) (at : Place) (v : Var) (value : Node) → IfOk (walk.plain_assignment_walk scope (Meant at v) value) (IsAssigned scope v value)
plain_assigned scope at v value = IfOk-weaker (walk.plain_assignment_walk scope (Meant at v) value) _ _ (λ step h. (inl h.0, h.1)) (plain_scoped scope at v value)

pub kind_true : (scope : Scope) (node : Node) (t found : Term) → IsTerm scope node t (term_is_truth (known_in scope) t) → IsKind scope true t found → IsTerm scope node found true
kind_true scope node t found h k =
    subst (λ (e : Term). IsTerm scope node e true) (sym k.same) (subst (λ b. IsTerm scope node t b) (k.fits refl) h)

choice_scoped : (scope : Scope) (at : Place) (v : Var) (when_so : Bool) (value_at head : Place) (condition value : Node) → IfOk (walk.choice_walk scope (Meant at v) when_so value_at head (more condition (more value none))) (λ step. IsChoice scope (truth_of scope v) (λ c e. walk.choice_action when_so head v c e) condition value step.0 × (step.1 ≡ scope))
choice_scoped scope at v when_so value_at head condition value =
    then_ok (expression_walk scope condition) _ _ _ (expression_scoped scope condition) (λ c p.
    then_ok (expression_walk scope value) _ _ _ (expression_scoped scope value) (λ e q.
    then_ok (walk.kind_walk scope true _ c) _ _ _ (kind_scoped scope true _ c) (λ c' k.
    then_ok (walk.kind_walk scope (truth_of scope v) _ e) _ _ _ (kind_scoped scope (truth_of scope v) _ e) (λ e' l. (
      record {
        condition_term = c';
        is_condition = kind_true scope condition c c' p k;
        term = e;
        truth = _;
        is_value = q;
        fits = l.fits;
        command = ap (walk.choice_action when_so head v c') l.same;
      },
      refl,
    )))))

weight_scoped : (node : Node) → IfOk (walk.weight_walk node) (IsWeight node)
weight_scoped (number at n) = if_ok (nat_le n 10) _ _ _ (λ h. (refl, leb-true n 10 h)) (λ _. tt)
weight_scoped (word at w) = tt
weight_scoped (list at parts) = tt

number_scoped : (scope : Scope) (at : Place) (v : Var) → IfOk (walk.number_walk scope (Meant at v)) (λ u. (u ≡ v) × IsFalse (truth_of scope v))
number_scoped scope at v = if_ok (truth_of scope v) _ _ _ (λ _. tt) (λ h. (refl, h))

ewma_scoped : (scope : Scope) (at : Place) (v : Var) (value_at head : Place) (weight value : Node) → IfOk (walk.ewma_walk scope (Meant at v) value_at head (more weight (more value none))) (λ step. IsEwma scope v (truth_of scope v) head weight value step.0 × (step.1 ≡ scope))
ewma_scoped scope at v value_at head weight value =
    then_ok (walk.number_walk scope (Meant at v)) _ _ _ (number_scoped scope at v) (λ u n.
    then_ok (walk.weight_walk weight) _ _ _ (weight_scoped weight) (λ w k.
    then_ok (expression_walk scope value) _ _ _ (expression_scoped scope value) (λ e q.
    (record { number = n.1; tenths = w; is_weight = k; term = e; truth = _; is_value = q; command = ap (λ x. ewma head x w e) n.0 }, refl))))

-- `if`, `!if` and `ewma`, by the number of their parts
special_scoped : (scope : Scope) (at : Place) (v : Var) (value_at head : Place) (w : List ℕ) (parts : Nodes) → IfOk (walk.value_walk scope (Meant at v) (list value_at (more (word head w) parts))) (IsAssigned scope v (list value_at (more (word head w) parts)))
special_scoped scope at v value_at head w (more first (more second none)) =
    if_ok (bytes_eq w (codes "if")) _ _ _
    (λ h. IfOk-weaker (walk.choice_walk scope (Meant at v) true value_at head (more first (more second none))) _ _ (λ step c. (inr (inl (spelt w (codes "if") h, c.0)), c.1))
    (choice_scoped scope at v true value_at head first second)) (λ _.
    if_ok (bytes_eq w (codes "!if")) _ _ _
    (λ h. IfOk-weaker (walk.choice_walk scope (Meant at v) false value_at head (more first (more second none))) _ _ (λ step c. (inr (inr (inl (spelt w (codes "!if") h, c.0))), c.1))
    (choice_scoped scope at v false value_at head first second)) (λ _.
    if_ok (bytes_eq w (codes "ewma")) _ _ _
    (λ h. IfOk-weaker (walk.ewma_walk scope (Meant at v) value_at head (more first (more second none))) _ _ (λ step c. (inr (inr (inr (spelt w (codes "ewma") h, c.0))), c.1))
    (ewma_scoped scope at v value_at head first second)) (λ _.
    plain_assigned scope at v (list value_at (more (word head w) (more first (more second none)))))))
special_scoped scope at v value_at head w parts =
    if_ok (bytes_eq w (codes "if")) _ _ _ (λ _. tt) (λ _.
    if_ok (bytes_eq w (codes "!if")) _ _ _ (λ _. tt) (λ _.
    if_ok (bytes_eq w (codes "ewma")) _ _ _ (λ _. tt) (λ _.
    plain_assigned scope at v (list value_at (more (word head w) parts)))))

value_scoped : (scope : Scope) (at : Place) (v : Var) (value : Node) → IfOk (walk.value_walk scope (Meant at v) value) (IsAssigned scope v value)
value_scoped scope at v (list value_at (more (word head w) parts)) = special_scoped scope at v value_at head w parts
value_scoped scope at v (list value_at none) = plain_assigned scope at v (list value_at none)
value_scoped scope at v (list value_at (more (number a n) parts)) = plain_assigned scope at v (list value_at (more (number a n) parts))
value_scoped scope at v (list value_at (more (list a ps) parts)) = plain_assigned scope at v (list value_at (more (list a ps) parts))
value_scoped scope at v (word value_at w) = plain_assigned scope at v (word value_at w)
value_scoped scope at v (number value_at n) = plain_assigned scope at v (number value_at n)

first_scoped : (scope : Scope) (at : Place) (w : List ℕ) (value : Node) → IsFresh scope w → IfOk (walk.plain_assignment_walk scope (Fresh at w) value) (λ step. IsFirstAssignment scope w value step.0 step.1)
first_scoped scope at w value f =
    then_ok (expression_walk scope value) _ _ _ (expression_scoped scope value) (λ t h.
    if_ok (nat_le 8 (length scope.locals)) _ _ _ (λ _. tt) (λ k.
    record { fresh = f; term = t; truth = _; is_value = h; few = leb-false 8 _ k; command = refl; names = refl }))

refused_choice : (scope : Scope) (at : Place) (w : List ℕ) (value : Node) (when_so : Bool) (value_at head : Place) (parts : Nodes) → IfOk (walk.choice_walk scope (Fresh at w) when_so value_at head parts) (λ step. IsFirstAssignment scope w value step.0 step.1)
refused_choice scope at w value when_so value_at head (more condition (more rest none)) = tt
refused_choice scope at w value when_so value_at head parts = tt

refused_ewma : (scope : Scope) (at : Place) (w : List ℕ) (value : Node) (value_at head : Place) (parts : Nodes) → IfOk (walk.ewma_walk scope (Fresh at w) value_at head parts) (λ step. IsFirstAssignment scope w value step.0 step.1)
refused_ewma scope at w value value_at head (more weight (more rest none)) = tt
refused_ewma scope at w value value_at head parts = tt

fresh_scoped : (scope : Scope) (at : Place) (w : List ℕ) (value : Node) → IsFresh scope w → IfOk (walk.value_walk scope (Fresh at w) value) (λ step. IsFirstAssignment scope w value step.0 step.1)
fresh_scoped scope at w (list value_at (more (word head u) parts)) f =
    if_ok (bytes_eq u (codes "if")) _ _ _ (λ _. refused_choice scope at w _ true value_at head parts) (λ _.
    if_ok (bytes_eq u (codes "!if")) _ _ _ (λ _. refused_choice scope at w _ false value_at head parts) (λ _.
    if_ok (bytes_eq u (codes "ewma")) _ _ _ (λ _. refused_ewma scope at w _ value_at head parts) (λ _.
    first_scoped scope at w (list value_at (more (word head u) parts)) f)))
fresh_scoped scope at w (list value_at none) f = first_scoped scope at w (list value_at none) f
fresh_scoped scope at w (list value_at (more (number a n) parts)) f = first_scoped scope at w (list value_at (more (number a n) parts)) f
fresh_scoped scope at w (list value_at (more (list a ps) parts)) f = first_scoped scope at w (list value_at (more (list a ps) parts)) f
fresh_scoped scope at w (word value_at u) f = first_scoped scope at w (word value_at u) f
fresh_scoped scope at w (number value_at n) f = first_scoped scope at w (number value_at n) f

-- a right assignment
abbrev AssignmentIs : Scope → List ℕ → Node → walk.Step → Type 0
AssignmentIs scope w value step = IsAssignment scope w value step.0 step.1

micros_scoped : (scope : Scope) (w : List ℕ) (value : Node) → w ≡ codes "Micros" → IfOk (walk.micros_walk scope value) (AssignmentIs scope w value)
micros_scoped scope w (number at n) e =
    if_ok (n == 0) _ _ _ (λ h. inl (record { named = e; zero = (Decides-eqb n 0).0 h; command = refl; names = refl })) (λ _. tt)
micros_scoped scope w (word at u) e = tt
micros_scoped scope w (list at parts) e = tt

known_assignment : (scope : Scope) (w : List ℕ) (at : Place) (v : Var) (value : Node) → NamesVariable scope w (variable_of w) v (truth_of scope v) → IsTrue (is_writable v) → IfOk (walk.value_walk scope (Meant at v) value) (AssignmentIs scope w value)
known_assignment scope w at v value n h =
    IfOk-weaker (walk.value_walk scope (Meant at v) value) _ _ (λ step a. inr (inl (record { variable = v; truth = _; named = n; writable = h; assigned = a.0; names = a.1 })))
    (value_scoped scope at v value)

assigned_scoped : (scope : Scope) (w : List ℕ) (target : Target) (value : Node) → TargetIs scope w (variable_of w) target → IfOk (walk.assigned_walk scope target value) (AssignmentIs scope w value)
assigned_scoped scope w (Meant at var.Micros) value h = micros_scoped scope w value h
assigned_scoped scope w (Meant at (var.Field i)) value h = known_assignment scope w at (var.Field i) value h.0 h.1
assigned_scoped scope w (Meant at (var.Control i)) value h = known_assignment scope w at (var.Control i) value h.0 h.1
assigned_scoped scope w (Meant at (var.Local i)) value h = known_assignment scope w at (var.Local i) value h.0 h.1
assigned_scoped scope w (Meant at (var.Prim n)) value h = known_assignment scope w at (var.Prim n) value h.0 h.1
assigned_scoped scope w (Meant at var.Cwnd) value h = known_assignment scope w at var.Cwnd value h.0 h.1
assigned_scoped scope w (Meant at var.Rate) value h = known_assignment scope w at var.Rate value h.0 h.1
assigned_scoped scope w (Fresh at u) value h =
    IfOk-weaker (walk.value_walk scope (Fresh at u) value) _ _
    (λ step a. inr (inr (subst (λ x. IsFirstAssignment scope x value step.0 step.1) h.0 a)))
    (fresh_scoped scope at u value (subst (IsFresh scope) (sym h.0) h.1))

assignment_scoped : (scope : Scope) (at : Place) (w : List ℕ) (value : Node) → IsProper scope → IfOk (walk.assignment_walk scope (word at w) value) (AssignmentIs scope w value)
assignment_scoped scope at w value p =
    then_ok (walk.target_walk scope (word at w)) _ _ _ (word_target scope at w (variable_of w) p (variable_language w))
    (λ t h. assigned_scoped scope w t value h)

-- a right command
abbrev pub CommandIs : Scope → Node → walk.Step → Type 0
CommandIs scope node step = IsCommand scope node step.0 step.1

assigner : (w : List ℕ) → (bytes_eq w (codes ":=") || bytes_eq w (codes "bind")) ≡ true → (w ≡ codes ":=") ⊎ (w ≡ codes "bind")
assigner w =
    elim (bytes_eq w (codes ":=")) as (λ b. (bytes_eq w (codes ":=") ≡ b) → (b || bytes_eq w (codes "bind")) ≡ true → (w ≡ codes ":=") ⊎ (w ≡ codes "bind"))
    [ true ↦ λ e h. inl (spelt w (codes ":=") e) | false ↦ λ e h. inr (spelt w (codes "bind") h) ] refl

-- what a command's walk gives is scoped
pub command_scoped : (scope : Scope) (node : Node) → IsProper scope → IfOk (walk.command_walk scope node) (CommandIs scope node)
command_scoped scope (list at (more (word head w) none)) p =
    if_ok (bytes_eq w (codes "report")) _ _ _ (λ h. inl (spelt w (codes "report") h, refl, refl)) (λ _.
    if_ok (bytes_eq w (codes "fallthrough")) _ _ _ (λ h. inr (spelt w (codes "fallthrough") h, refl, refl)) (λ _. tt))
command_scoped scope (list at (more (word head w) (more (word target_at target) (more value none)))) p =
    if_ok (bytes_eq w (codes ":=") || bytes_eq w (codes "bind")) _ _ _
    (λ h. IfOk-weaker (walk.assignment_walk scope (word target_at target) value) _ _ (λ step a. (assigner w h, a)) (assignment_scoped scope target_at target value p))
    (λ _. tt)
command_scoped scope (list at (more (word head w) (more (number a n) (more value none)))) p =
    if_ok (bytes_eq w (codes ":=") || bytes_eq w (codes "bind")) _ _ _ (λ _. tt) (λ _. tt)
command_scoped scope (list at (more (word head w) (more (list a ps) (more value none)))) p =
    if_ok (bytes_eq w (codes ":=") || bytes_eq w (codes "bind")) _ _ _ (λ _. tt) (λ _. tt)
command_scoped scope node p = tt

-- a command keeps a scope in order
pub command_proper : (scope : Scope) (node : Node) (action : Action) (after : Scope) → IsProper scope → IsCommand scope node action after → IsProper after
command_proper scope (list at (more (word head w) none)) action after p c =
    elim c [ inl r ↦ subst IsProper (sym r.2) p | inr r ↦ subst IsProper (sym r.2) p ]
command_proper scope (list at (more (word head w) (more (word target_at target) (more value none)))) action after p c =
    elim c.1 [
      | inl z ↦ subst IsProper (sym z.names) p
      | inr o ↦ elim o [
        | inl k ↦ subst IsProper (sym k.names) p
        | inr f ↦ subst IsProper (sym f.names) (proper_with_local scope target f.truth p f.fresh)
      ]
    ]
command_proper scope node action after p c = absurd c

-- the commands after those that are done
pub record IsRestScoped (scope : Scope) (done : List Action) (nodes : Nodes) (body : List Action × Scope) : Type 0 where
  pub rest : List Action
  pub whole : body.0 ≡ done ++ rest
  pub scoped : IsBody scope nodes rest body.1

-- what a body's walk gives is scoped
pub body_scoped : (scope : Scope) (done : List Action) (nodes : Nodes) → IsProper scope → IfOk (walk.body_walk scope done nodes) (IsRestScoped scope done nodes)
body_scoped scope done none p = record { rest = []; whole = sym (append-nil done); scoped = refl }
body_scoped scope done (more node rest) p =
    then_ok (walk.command_walk scope node) _ _ _ (command_scoped scope node p) (λ step c.
    IfOk-weaker (walk.body_walk step.1 (done ++ step.0 ∷ []) rest) _ _ (λ body r. record {
      rest = step.0 ∷ r.rest;
      whole = r.whole ∙ append_assoc done (step.0 ∷ []) r.rest;
      scoped = record { between = step.1; command = c; rest = r.scoped };
    })
    (body_scoped step.1 (done ++ step.0 ∷ []) rest (command_proper scope node step.0 step.1 p c)))
