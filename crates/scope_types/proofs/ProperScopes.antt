-- A scope in which each name is found by its look-up stays so with one more local, field or control variable.
use Rattle.std.proofs.Common.{◌≡◌, ◌⊎◌, inl, inr, ℕ, zero, suc, ◌+◌, Bool, true, false, refl, List, [], ◌∷◌, ◌++◌, length, Option, Some, None, IfSome, IsTrue, ◌||◌, slice_get, if◌then◌else◌, bytes_eq, arith, ap, ◌∙◌, sym}
use Rattle.std.proofs.lemmas.Bool.{or_parts, not-true}
use Rattle.portus_core.specs.declared.program.Decl.{Decl}
use Rattle.portus_core.specs.declared.program.Var.TheVariants as var
use Rattle.scope_types.specs.declared.names.Local.{Local}
use Rattle.portus_core.specs.Words.{is_reserved, is_field_use, is_primitive_use, is_control_name}
use Rattle.ccp_base.specs.PrimitiveNames.{primitive_named}
use Rattle.scope_types.specs.DeclarationWalk.{with_field, with_control}
use Rattle.scope_types.specs.Scope.{Scope, with_local_name}
use Rattle.scope_types.specs.Names.{decl_from, local_from}
use Rattle.scope_types.specs.CommandRules.{IsFresh}
use Rattle.scope_types.proofs.ScopedExpressions.{spells, decl_found, declared_of, local_found, local_of, prim_means, IsProper, primitive_word}

pub nowhere : {A : Type 0} (o : Option A) (P : A → Type 0) → IfSome o P → ((a : A) → P a → ⊥) → o ≡ None
nowhere (Some a) P h never = absurd (never a h)
nowhere None P h never = refl

pub slice_get-append : {A : Type 0} (xs : List A) (x : A) (i : ℕ) (y : A) → slice_get (xs ++ x ∷ []) i ≡ Some y → (slice_get xs i ≡ Some y) ⊎ ((i ≡ length xs) × (y ≡ x))
slice_get-append [] x zero y h = inr (refl, cc)
slice_get-append [] x (suc i) y h = absurd (cc)
slice_get-append (z ∷ xs) x zero y h = inl h
slice_get-append (z ∷ xs) x (suc i) y h =
    elim (slice_get-append xs x i y h) [ inl e ↦ inl e | inr e ↦ inr (ap suc e.0, e.1) ]

local_some_append : (i : ℕ) (ls : List Local) (x : Local) (w : List ℕ) (n : ℕ) → local_from i ls w ≡ Some n → local_from i (ls ++ x ∷ []) w ≡ Some n
local_some_append i [] x w n h = absurd (cc)
local_some_append i (l ∷ ls) x w n given =
    elim (bytes_eq l.name w) as (λ b. (if b then Some i else local_from (i + 1) ls w) ≡ Some n → (if b then Some i else local_from (i + 1) (ls ++ x ∷ []) w) ≡ Some n)
    [ true ↦ λ h. h | false ↦ λ h. local_some_append (i + 1) ls x w n h ] given

local_none_append : (i : ℕ) (ls : List Local) (x : Local) (w : List ℕ) → x.name ≡ w → local_from i ls w ≡ None → local_from i (ls ++ x ∷ []) w ≡ Some (i + length ls)
local_none_append i [] x w e h =
    ap (λ b. if b then Some i else None) (spells x.name w e) ∙ ap Some (let n : i ≡ i + 0 = omega arith in n)
local_none_append i (l ∷ ls) x w e given =
    elim (bytes_eq l.name w) as (λ b. (if b then Some i else local_from (i + 1) ls w) ≡ None → (if b then Some i else local_from (i + 1) (ls ++ x ∷ []) w) ≡ Some (i + length (l ∷ ls)))
    [ true ↦ λ h. absurd (cc) | false ↦ λ h. local_none_append (i + 1) ls x w e h ∙ ap Some (let n : i + 1 + length ls ≡ i + length (l ∷ ls) = omega arith in n) ] given

-- a word without a meaning is in no list of the scope
pub fresh_local : (scope : Scope) (w : List ℕ) → IsFresh scope w → local_from 0 scope.locals w ≡ None
fresh_local scope w f =
    nowhere (local_from 0 scope.locals w) _ (local_found 0 scope.locals w)
    (λ n found. f.unknown (var.Local n) _ (local_of scope.locals w n found))

pub fresh_control : (scope : Scope) (w : List ℕ) → IsFresh scope w → decl_from 0 scope.controls w ≡ None
fresh_control scope w f =
    nowhere (decl_from 0 scope.controls w) _ (decl_found 0 scope.controls w)
    (λ n found. f.unknown (var.Control n) _ (declared_of scope.controls w n found))

pub fresh_primitive : (scope : Scope) (w : List ℕ) → IsFresh scope w → primitive_named w ≡ None
fresh_primitive scope w f =
    nowhere (primitive_named w) _ (prim_means w (primitive_named w) refl) (λ n p. f.unknown (var.Prim n) _ p)

-- one more local keeps a scope in order
pub proper_with_local : (scope : Scope) (w : List ℕ) (truth : Bool) → IsProper scope → IsFresh scope w → IsProper (with_local_name scope w truth)
proper_with_local scope w truth p f = record {
  fields = p.fields;
  controls = λ i d h. let c = p.controls i d h in record { found = c.found; no_field = c.no_field; no_primitive = c.no_primitive };
  locals = λ i l h. elim (slice_get-append scope.locals _ i l h) [
    | inl e ↦
        (let c = p.locals i l e in
        record { found = local_some_append 0 scope.locals _ l.name i c.found; no_control = c.no_control; no_field = c.no_field; no_primitive = c.no_primitive })
    | inr e ↦
        (let same : l.name ≡ w = ap (λ (x : Local). x.name) e.1 in
        record {
          found = local_none_append 0 scope.locals _ l.name (sym same) (ap (local_from 0 scope.locals) same ∙ fresh_local scope w f) ∙ ap Some (let n : 0 + length scope.locals ≡ i = let k = e.0 in omega arith in n);
          no_control = ap (decl_from 0 scope.controls) same ∙ fresh_control scope w f;
          no_field = ap is_field_use same ∙ f.no_field;
          no_primitive = ap primitive_named same ∙ fresh_primitive scope w f;
        })
  ];
}

decl_some_append : (i : ℕ) (ds : List Decl) (x : Decl) (w : List ℕ) (n : ℕ) → decl_from i ds w ≡ Some n → decl_from i (ds ++ x ∷ []) w ≡ Some n
decl_some_append i [] x w n h = absurd (cc)
decl_some_append i (d ∷ ds) x w n given =
    elim (bytes_eq d.name w) as (λ b. (if b then Some i else decl_from (i + 1) ds w) ≡ Some n → (if b then Some i else decl_from (i + 1) (ds ++ x ∷ []) w) ≡ Some n)
    [ true ↦ λ h. h | false ↦ λ h. decl_some_append (i + 1) ds x w n h ] given

decl_none_append : (i : ℕ) (ds : List Decl) (x : Decl) (w : List ℕ) → x.name ≡ w → decl_from i ds w ≡ None → decl_from i (ds ++ x ∷ []) w ≡ Some (i + length ds)
decl_none_append i [] x w e h =
    ap (λ b. if b then Some i else None) (spells x.name w e) ∙ ap Some (let n : i ≡ i + 0 = omega arith in n)
decl_none_append i (d ∷ ds) x w e given =
    elim (bytes_eq d.name w) as (λ b. (if b then Some i else decl_from (i + 1) ds w) ≡ None → (if b then Some i else decl_from (i + 1) (ds ++ x ∷ []) w) ≡ Some (i + length (d ∷ ds)))
    [ true ↦ λ h. absurd (cc) | false ↦ λ h. decl_none_append (i + 1) ds x w e h ∙ ap Some (let n : i + 1 + length ds ≡ i + length (d ∷ ds) = omega arith in n) ] given

-- each declaration is found by its name after one more
decl_append_found : (ds : List Decl) (x : Decl) → ((i : ℕ) (d : Decl) → slice_get ds i ≡ Some d → decl_from 0 ds d.name ≡ Some i) → decl_from 0 ds x.name ≡ None → (i : ℕ) (d : Decl) → slice_get (ds ++ x ∷ []) i ≡ Some d → decl_from 0 (ds ++ x ∷ []) d.name ≡ Some i
decl_append_found ds x found new i d h =
    elim (slice_get-append ds x i d h) [
      | inl e ↦ decl_some_append 0 ds x d.name i (found i d e)
      | inr e ↦
          (let same : d.name ≡ x.name = ap (λ (y : Decl). y.name) e.1 in
          decl_none_append 0 ds x d.name (sym same) (ap (decl_from 0 ds) same ∙ new) ∙ ap Some (let n : 0 + length ds ≡ i = let k = e.0 in omega arith in n))
    ]

-- one more field keeps a scope in order
pub proper_with_field : (scope : Scope) (x : Decl) → IsProper scope → decl_from 0 scope.fields x.name ≡ None → IsProper (with_field scope x)
proper_with_field scope x p new = record {
  fields = decl_append_found scope.fields x p.fields new;
  controls = λ i d h. let c = p.controls i d h in record { found = c.found; no_field = c.no_field; no_primitive = c.no_primitive };
  locals = λ i l h. let c = p.locals i l h in record { found = c.found; no_control = c.no_control; no_field = c.no_field; no_primitive = c.no_primitive };
}

-- what a control variable's name isn't
pub record IsControlWord (w : List ℕ) : Type 0 where
  pub unreserved : is_reserved w ≡ false
  pub no_field : is_field_use w ≡ false
  pub no_primitive_use : is_primitive_use w ≡ false

pub control_word : (w : List ℕ) → IsTrue (is_control_name w) → IsControlWord w
control_word w h =
    let others = or_parts (is_reserved w || is_field_use w) (is_primitive_use w) (not-true _ h) in
    let first = or_parts (is_reserved w) (is_field_use w) others.0 in
    record { unreserved = first.0; no_field = first.1; no_primitive_use = others.1 }

control_no_primitive : (w : List ℕ) → IsControlWord w → primitive_named w ≡ None
control_no_primitive w c = nowhere (primitive_named w) _ (primitive_word w) (λ n a. let e : false ≡ true = sym c.no_primitive_use ∙ a.1 in cc)

-- one more control variable keeps a scope without locals in order
pub proper_with_control : (scope : Scope) (x : Decl) → IsProper scope → scope.locals ≡ [] → decl_from 0 scope.controls x.name ≡ None → IsTrue (is_control_name x.name) → IsProper (with_control scope x)
proper_with_control scope x p empty new allowed = record {
  fields = p.fields;
  controls = λ i d h. record {
    found = decl_append_found scope.controls x (λ j e k. (p.controls j e k).found) new i d h;
    no_field = elim (slice_get-append scope.controls x i d h) [
      | inl e ↦ (p.controls i d e).no_field
      | inr e ↦ ap (λ (y : Decl). is_field_use y.name) e.1 ∙ (control_word x.name allowed).no_field
    ];
    no_primitive = elim (slice_get-append scope.controls x i d h) [
      | inl e ↦ (p.controls i d e).no_primitive
      | inr e ↦ ap (λ (y : Decl). primitive_named y.name) e.1 ∙ control_no_primitive x.name (control_word x.name allowed)
    ];
  };
  locals = λ i l h. absurd (let e : None ≡ Some l = sym (ap (λ (ls : List Local). slice_get ls i) empty) ∙ h in cc);
}
