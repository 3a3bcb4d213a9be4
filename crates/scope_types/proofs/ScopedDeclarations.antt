-- What the walk over the parts of `def` gives is well scoped.
use Rattle.std.proofs.Common.{◌≡◌, ◌⊎◌, inl, inr, ℕ, Bool, true, false, not, refl, List, [], ◌∷◌, ◌++◌, length, Option, Some, None, IfSome, is_some, IfOk, IsTrue, nat_le, bytes_eq, codes, ap, ◌∙◌, sym, subst, append-nil, append_assoc}
use Rattle.std.proofs.lemmas.Bool.{not-false}
use Rattle.std.proofs.lemmas.Result.{IfOk-weaker}
use Rattle.std.proofs.option.Match.{None-if_not_some}
use Rattle.ccp_base.specs.declared.place.Place.{Place}
use Rattle.portus_core.specs.declared.program.Decl.{Decl}
use Rattle.portus_core.specs.Trees.{Node, Nodes, none, more, number, word, list}
use Rattle.scope_types.specs.declared.declaration.Start.{Start}
use Rattle.scope_types.specs.declared.declaration.Declaration.{Declaration}
use Rattle.portus_core.specs.Words.{is_field_name, is_control_name}
use Rattle.scope_types.specs.Scope.{Scope}
use Rattle.scope_types.specs.Names.{decl_from}
use Rattle.scope_types.specs.DeclarationWalk as walk
use Rattle.scope_types.specs.DeclarationRules.{IsStart, IsDeclarationOf, Declares, AreFields, IsGroup, AreParts}
use Rattle.scope_types.proofs.Results.{if_ok, then_ok}
use Rattle.scope_types.proofs.ScopedExpressions.{some_case, spelt, IsProper}
use Rattle.scope_types.proofs.ProperScopes.{proper_with_field, proper_with_control}

start_scoped : (node : Node) → IfSome (walk.declared_start node) (λ s. IsStart node s.value s.truth)
start_scoped (number at n) = (refl, refl)
start_scoped (list at parts) = tt
start_scoped (word at w) =
    some_case (bytes_eq w (codes "true")) _ _ _ (λ h. inl (spelt w (codes "true") h, refl, refl)) (λ _.
    some_case (bytes_eq w (codes "false")) _ _ _ (λ h. inr (inl (spelt w (codes "false") h, refl, refl))) (λ _.
    some_case (bytes_eq w (codes "+infinity")) _ _ _ (λ h. inr (inr (spelt w (codes "+infinity") h, refl, refl))) (λ _. tt)))

declares_scoped : (at : Place) (volatile : Bool) (word_at : Place) (w : List ℕ) (value : Node) (s : Option Start) → IfSome s (λ s. IsStart value s.value s.truth) → IfOk (walk.declares at volatile word_at w s) (λ d. IsDeclarationOf volatile w value d.decl)
declares_scoped at volatile word_at w value (Some s) h = record { named = refl; kept = refl; start = h }
declares_scoped at volatile word_at w value None h = tt

declaration_scoped : (node : Node) → IfOk (walk.declaration_walk node) (λ d. Declares node d.decl)
declaration_scoped (list at (more (word word_at w) (more value none))) = declares_scoped at false word_at w value (walk.declared_start value) (start_scoped value)
declaration_scoped (list at (more (word head v) (more (word word_at w) (more value none)))) =
    if_ok (bytes_eq v (codes "volatile")) _ _ _
    (λ h. IfOk-weaker (walk.declares at true word_at w (walk.declared_start value)) _ _ (λ d k. (spelt v (codes "volatile") h, k)) (declares_scoped at true word_at w value (walk.declared_start value) (start_scoped value)))
    (λ _. tt)
declaration_scoped node = tt

-- one more declaration
record AddsOne (allowed : List ℕ → Bool) (decls : List Decl) (add : Decl → Scope) (d : Declaration) (after : Scope) : Type 0 where
  right : IsTrue (allowed d.decl.name)
  new : decl_from 0 decls d.decl.name ≡ None
  whole : after ≡ add d.decl

field_scoped : (names : Scope) (d : Declaration) → IfOk (walk.field_walk names d) (AddsOne is_field_name names.fields (walk.with_field names) d)
field_scoped names d =
    if_ok (not (is_field_name d.decl.name)) _ _ _ (λ _. tt) (λ right.
    if_ok (is_some (decl_from 0 names.fields d.decl.name)) _ _ _ (λ _. tt) (λ new.
    if_ok (nat_le 64 (length names.fields)) _ _ _ (λ _. tt) (λ _.
    record { right = not-false _ right; new = None-if_not_some _ new; whole = refl })))

control_scoped : (names : Scope) (d : Declaration) → IfOk (walk.control_walk names d) (AddsOne is_control_name names.controls (walk.with_control names) d)
control_scoped names d =
    if_ok (not (is_control_name d.decl.name)) _ _ _ (λ _. tt) (λ right.
    if_ok (is_some (decl_from 0 names.controls d.decl.name)) _ _ _ (λ _. tt) (λ new.
    if_ok (nat_le 64 (length names.controls)) _ _ _ (λ _. tt) (λ _.
    record { right = not-false _ right; new = None-if_not_some _ new; whole = refl })))

-- the fields of a group after those that are there
record AddsFields (names : Scope) (nodes : Nodes) (after : Scope) : Type 0 where
  fresh : List Decl
  fields : after.fields ≡ names.fields ++ fresh
  controls : after.controls ≡ names.controls
  locals : after.locals ≡ names.locals
  are : AreFields nodes fresh
  proper : IsProper after

more_fields : (names : Scope) (node : Node) (rest : Nodes) (d : Declaration) (between after : Scope) → Declares node d.decl → AddsOne is_field_name names.fields (walk.with_field names) d between → AddsFields between rest after → AddsFields names (more node rest) after
more_fields names node rest d between after declared one r = record {
  fresh = d.decl ∷ r.fresh;
  fields = r.fields ∙ ap (λ (s : Scope). s.fields ++ r.fresh) one.whole ∙ append_assoc names.fields (d.decl ∷ []) r.fresh;
  controls = r.controls ∙ ap (λ (s : Scope). s.controls) one.whole;
  locals = r.locals ∙ ap (λ (s : Scope). s.locals) one.whole;
  are = (declared, one.right, r.are);
  proper = r.proper;
}

fields_scoped : (names : Scope) (nodes : Nodes) → IsProper names → IfOk (walk.fields_walk names nodes) (AddsFields names nodes)
fields_scoped names none p = record { fresh = []; fields = sym (append-nil names.fields); controls = refl; locals = refl; are = tt; proper = p }
fields_scoped names (more node rest) p =
    then_ok (walk.declaration_walk node) _ _ _ (declaration_scoped node) (λ d h.
    then_ok (walk.field_walk names d) _ _ _ (field_scoped names d) (λ between one.
    IfOk-weaker (walk.fields_walk between rest) _ _ (λ after r. more_fields names node rest d between after h one r)
    (fields_scoped between rest (subst IsProper (sym one.whole) (proper_with_field names d.decl p one.new)))))

-- what the parts of `def` add to what is there
pub record AddsParts (declared : walk.Declaring) (nodes : Nodes) (after : walk.Declaring) : Type 0 where
  pub fields : List Decl
  pub controls : List Decl
  pub all_fields : after.names.fields ≡ declared.names.fields ++ fields
  pub all_controls : after.names.controls ≡ declared.names.controls ++ controls
  pub locals : after.names.locals ≡ []
  pub are : AreParts nodes declared.grouped fields controls
  pub proper : IsProper after.names

-- after the group there is no other
no_second : (nodes : Nodes) (fields controls : List Decl) → AreParts nodes true fields controls → fields ≡ []
no_second none fields controls h = h.0
no_second (more node rest) fields controls h =
    elim h [ inl g ↦ absurd (let e : true ≡ false = g.first in cc) | inr c ↦ no_second rest fields c.others c.rest ]

group_parts : (declared between after : walk.Declaring) (node : Node) (rest : Nodes) (group : Nodes) → ((decls : List Decl) → AreFields group decls → IsGroup node decls) → declared.grouped ≡ false → between.grouped ≡ true → AddsFields declared.names group between.names → AddsParts between rest after → AddsParts declared (more node rest) after
group_parts declared between after node rest group is_group first second g r =
    let rest_parts : AreParts rest true r.fields r.controls = subst (λ b. AreParts rest b r.fields r.controls) second r.are in
    let none_left : r.fields ≡ [] = no_second rest r.fields r.controls rest_parts in
    record {
      fields = g.fresh;
      controls = r.controls;
      all_fields = r.all_fields ∙ ap (λ ds. between.names.fields ++ ds) none_left ∙ append-nil between.names.fields ∙ g.fields;
      all_controls = r.all_controls ∙ ap (λ ds. ds ++ r.controls) g.controls;
      locals = r.locals;
      are = inl (record { first = first; group = is_group g.fresh g.are; rest = subst (λ ds. AreParts rest true ds r.controls) none_left rest_parts });
      proper = r.proper;
    }

control_parts : (declared between after : walk.Declaring) (node : Node) (rest : Nodes) (d : Declaration) → Declares node d.decl → between.grouped ≡ declared.grouped → AddsOne is_control_name declared.names.controls (walk.with_control declared.names) d between.names → AddsParts between rest after → AddsParts declared (more node rest) after
control_parts declared between after node rest d h same one r = record {
  fields = r.fields;
  controls = d.decl ∷ r.controls;
  all_fields = r.all_fields ∙ ap (λ (s : Scope). s.fields ++ r.fields) one.whole;
  all_controls = r.all_controls ∙ ap (λ (s : Scope). s.controls ++ r.controls) one.whole ∙ append_assoc declared.names.controls (d.decl ∷ []) r.controls;
  locals = r.locals;
  are = inr (record { decl = d.decl; others = r.controls; whole = refl; declared = h; allowed = one.right; rest = subst (λ b. AreParts rest b r.fields r.controls) same r.are });
  proper = r.proper;
}

-- a part that is the group of fields
record IsGroupStep (declared : walk.Declaring) (node : Node) (between : walk.Declaring) : Type 0 where
  group : Nodes
  is_group : (decls : List Decl) → AreFields group decls → IsGroup node decls
  first : declared.grouped ≡ false
  second : between.grouped ≡ true
  adds : AddsFields declared.names group between.names

-- a part that declares a control variable
record IsControlStep (declared : walk.Declaring) (node : Node) (between : walk.Declaring) : Type 0 where
  declaration : Declaration
  declares : Declares node declaration.decl
  same : between.grouped ≡ declared.grouped
  one : AddsOne is_control_name declared.names.controls (walk.with_control declared.names) declaration between.names

abbrev IsPartStep : walk.Declaring → Node → walk.Declaring → Type 0
IsPartStep declared node between = IsGroupStep declared node between ⊎ IsControlStep declared node between

control_part_scoped : (declared : walk.Declaring) (node : Node) → IfOk (walk.control_part_walk declared node) (IsPartStep declared node)
control_part_scoped declared node =
    then_ok (walk.declaration_walk node) _ _ _ (declaration_scoped node) (λ d h.
    then_ok (walk.control_walk declared.names d) _ _ _ (control_scoped declared.names d) (λ names one.
    inr (record { declaration = d; declares = h; same = refl; one = one })))

part_scoped : (declared : walk.Declaring) (node : Node) → IsProper declared.names → IfOk (walk.part_walk declared node) (IsPartStep declared node)
part_scoped declared (list at (more (word head w) fields)) p =
    if_ok (bytes_eq w (codes "Report")) _ _ _
    (λ h. if_ok declared.grouped _ _ _ (λ _. tt) (λ first.
    then_ok (walk.fields_walk declared.names fields) _ _ _ (fields_scoped declared.names fields p) (λ names adds.
    inl (record { group = fields; is_group = λ decls are. (spelt w (codes "Report") h, are); first = first; second = refl; adds = adds }))))
    (λ _. control_part_scoped declared (list at (more (word head w) fields)))
part_scoped declared (list at none) p = control_part_scoped declared (list at none)
part_scoped declared (list at (more (number a n) rest)) p = control_part_scoped declared (list at (more (number a n) rest))
part_scoped declared (list at (more (list a ps) rest)) p = control_part_scoped declared (list at (more (list a ps) rest))
part_scoped declared (number at n) p = control_part_scoped declared (number at n)
part_scoped declared (word at w) p = control_part_scoped declared (word at w)

step_proper : (declared : walk.Declaring) (node : Node) (between : walk.Declaring) → IsProper declared.names → declared.names.locals ≡ [] → IsPartStep declared node between → IsProper between.names
step_proper declared node between p e s =
    elim s [
      | inl g ↦ g.adds.proper
      | inr c ↦ subst IsProper (sym c.one.whole) (proper_with_control declared.names c.declaration.decl p e c.one.new c.one.right)
    ]

step_locals : (declared : walk.Declaring) (node : Node) (between : walk.Declaring) → declared.names.locals ≡ [] → IsPartStep declared node between → between.names.locals ≡ []
step_locals declared node between e s =
    elim s [ inl g ↦ g.adds.locals ∙ e | inr c ↦ ap (λ (s : Scope). s.locals) c.one.whole ∙ e ]

step_parts : (declared : walk.Declaring) (node : Node) (rest : Nodes) (between after : walk.Declaring) → IsPartStep declared node between → AddsParts between rest after → AddsParts declared (more node rest) after
step_parts declared node rest between after s r =
    elim s [
      | inl g ↦ group_parts declared between after node rest g.group g.is_group g.first g.second g.adds r
      | inr c ↦ control_parts declared between after node rest c.declaration c.declares c.same c.one r
    ]

-- what the walk of the parts of `def` gives is scoped
pub parts_scoped : (declared : walk.Declaring) (nodes : Nodes) → IsProper declared.names → declared.names.locals ≡ [] → IfOk (walk.parts_walk declared nodes) (AddsParts declared nodes)
parts_scoped declared none p e = record {
  fields = [];
  controls = [];
  all_fields = sym (append-nil declared.names.fields);
  all_controls = sym (append-nil declared.names.controls);
  locals = e;
  are = (refl, refl);
  proper = p;
}
parts_scoped declared (more node rest) p e =
    then_ok (walk.part_walk declared node) _ _ _ (part_scoped declared node p) (λ between s.
    IfOk-weaker (walk.parts_walk between rest) _ _ (λ after r. step_parts declared node rest between after s r)
    (parts_scoped between rest (step_proper declared node between p e s) (step_locals declared node between e s)))
