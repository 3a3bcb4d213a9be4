-- What the look-up of a word and the walk over an expression give is well scoped.
use Rattle.std.proofs.Common.{◌≡◌, ℕ, suc, ◌+◌, ◌<◌, ◌^◌, Bool, true, false, not, ◌&&◌, refl, get_or, List, [], ◌∷◌, ◌++◌, map, drop, Option, Some, None, IfSome, Result, Ok, Err, IfOk, nat_lt, slice_get, if◌then◌else◌, bytes_eq, codes, arith, ap, ◌∙◌, sym, subst, option_map}
use Rattle.std.specs.List.{list_all}
use Rattle.std.proofs.lemmas.List.Sums.{AllPass-from_list_all}
use Rattle.std.proofs.lemmas.List.Quantifiers.{position-Some}
use Rattle.std.proofs.lemmas.Bool.{and_parts, not-true, ltb-true}
use Rattle.std.proofs.lemmas.Option.{IfSome_then, slice_get-map}
use Rattle.std.proofs.lemmas.Result.{IfOk-weaker}
use Rattle.std.proofs.lemmas.Bool.Decides.{nat_tests, Decides-eqb}
use Rattle.std.proofs.lemmas.Slice.Eq.{bytes_eq-Decides, starts_is}
use Rattle.ccp_base.specs.declared.place.Place.{Place}
use Rattle.portus_core.specs.declared.program.Decl.{Decl}
use Rattle.ccp_base.specs.declared.operation.Op2.{Op2}
use Rattle.portus_core.specs.declared.program.Var.{Var}
use Rattle.portus_core.specs.declared.program.Var.TheVariants as var
use Rattle.portus_core.specs.Programs.{Term}
use Rattle.portus_core.specs.Trees.{Node, none, more, number, word, list}
use Rattle.portus_core.specs.ValidPrograms.{is_truth, term_is_truth, declares_truth, is_bool_there}
use Rattle.scope_types.specs.declared.names.Local.{Local}
use Rattle.scope_types.specs.declared.fault.ScopeFault.{ScopeFault}
use Rattle.scope_types.specs.declared.fault.ScopeFault.TheVariants.{Unknown}
use Rattle.portus_core.specs.Words.{variable_of, is_reserved, is_field_use, is_primitive_use}
use Rattle.ccp_base.specs.Operations.{operator_of}
use Rattle.ccp_base.specs.Acknowledgement.{is_flag}
use Rattle.ccp_base.specs.Limits.{primitive_count}
use Rattle.ccp_base.specs.PrimitiveNames.{PrimitiveName, primitive_names, word_of, primitive_named}
use Rattle.scope_types.specs.ValueWords.{constant_of, constant_truth}
use Rattle.scope_types.specs.Scope.{Scope, known_in}
use Rattle.scope_types.specs.Names.{decl_from, local_from, variable_or, meaning_of}
use Rattle.scope_types.specs.ExpressionWalk.{or_refused, name_walk, variable_walk, word_walk, pair_walk, expression_walk}
use Rattle.scope_types.specs.ExpressionRules.{IsDeclaredName, IsField, IsLocal, IsPrimitive, Means, NamesVariable, IsName, IsWord, IsPair, IsTerm}
use Rattle.scope_types.proofs.Results.{if_ok}

-- a test of two texts says whether they are one
pub spelt : (a b : List ℕ) → bytes_eq a b ≡ true → a ≡ b
spelt a b h = (bytes_eq-Decides a b).0 h

pub spells : (a b : List ℕ) → a ≡ b → bytes_eq a b ≡ true
spells a b e = (bytes_eq-Decides a b).1 e

-- the choice of `if_some`, with what the test says
pub some_case : {A : Type 0} (b : Bool) (r s : Option A) (P : A → Type 0) → (b ≡ true → IfSome r P) → (b ≡ false → IfSome s P) → IfSome (if b then r else s) P
some_case true r s P f g = f refl
some_case false r s P f g = g refl

-- a declaration of the name, counted from `i`
pub record IsFound (i : ℕ) (decls : List Decl) (w : List ℕ) (n : ℕ) : Type 0 where
  pub k : ℕ
  pub at : n ≡ i + k
  pub decl : Decl
  pub there : slice_get decls k ≡ Some decl
  pub named : decl.name ≡ w

pub decl_found : (i : ℕ) (ds : List Decl) (w : List ℕ) → IfSome (decl_from i ds w) (IsFound i ds w)
decl_found i [] w = tt
decl_found i (d ∷ ds) w =
    some_case (bytes_eq d.name w) _ _ _
    (λ h. record { k = 0; at = omega arith; decl = d; there = refl; named = spelt d.name w h })
    (λ _. IfSome_then (decl_from (i + 1) ds w) (decl_found (i + 1) ds w)
    (λ n f. record { k = suc f.k; at = let e = f.at in omega arith; decl = f.decl; there = f.there; named = f.named }))

-- the local of the name, counted from `i`
pub record IsFoundLocal (i : ℕ) (locals : List Local) (w : List ℕ) (n : ℕ) : Type 0 where
  pub k : ℕ
  pub at : n ≡ i + k
  pub local : Local
  pub there : slice_get locals k ≡ Some local
  pub named : local.name ≡ w

pub local_found : (i : ℕ) (ls : List Local) (w : List ℕ) → IfSome (local_from i ls w) (IsFoundLocal i ls w)
local_found i [] w = tt
local_found i (l ∷ ls) w =
    some_case (bytes_eq l.name w) _ _ _
    (λ h. record { k = 0; at = omega arith; local = l; there = refl; named = spelt l.name w h })
    (λ _. IfSome_then (local_from (i + 1) ls w) (local_found (i + 1) ls w)
    (λ n f. record { k = suc f.k; at = let e = f.at in omega arith; local = f.local; there = f.there; named = f.named }))

-- whether the variable is a Bool
abbrev pub truth_of : Scope → Var → Bool
truth_of scope v = is_truth (known_in scope) v

pub declared_of : (ds : List Decl) (w : List ℕ) (n : ℕ) → IsFound 0 ds w n → IsDeclaredName ds n w (declares_truth (slice_get ds n))
declared_of ds w n f =
    let e : n ≡ f.k = let at = f.at in omega arith in
    let there : slice_get ds n ≡ Some f.decl = ap (slice_get ds) e ∙ f.there in
    record { decl = f.decl; there = there; named = f.named; kind = ap declares_truth there }

-- whether the local at a place is a Bool
pub local_truth : (ls : List Local) (n : ℕ) (l : Local) → slice_get ls n ≡ Some l → is_bool_there (slice_get (map (λ (l : Local). l.truth) ls) n) ≡ l.truth
local_truth ls n l there = ap is_bool_there (slice_get-map (λ (l : Local). l.truth) ls n ∙ ap (option_map (λ (l : Local). l.truth)) there)

pub local_of : (ls : List Local) (w : List ℕ) (n : ℕ) → IsFoundLocal 0 ls w n → IsLocal ls n w (is_bool_there (slice_get (map (λ (l : Local). l.truth) ls) n))
local_of ls w n f =
    let e : n ≡ f.k = let at = f.at in omega arith in
    let there : slice_get ls n ≡ Some f.local = ap (slice_get ls) e ∙ f.there in
    record { local = f.local; there = there; named = f.named; kind = local_truth ls n f.local there }

pub variable_or_means : (P : Var → Type 0) (kind : ℕ → Var) (n : Option ℕ) (rest : Option Var) → IfSome n (λ i. P (kind i)) → IfSome rest P → IfSome (variable_or kind n rest) P
variable_or_means P kind (Some i) rest p q = p
variable_or_means P kind None rest p q = q

pub prim_means : (w : List ℕ) (n : Option ℕ) → primitive_named w ≡ n → IfSome n (λ i. IsPrimitive i w (is_flag i))
prim_means w (Some n) e = record { spelt = e; kind = refl }
prim_means w None e = tt

field_means : (ds : List Decl) (w : List ℕ) → w ≡ codes "Report." ++ drop 7 w → IfSome (decl_from 0 ds (drop 7 w)) (λ i. IsField ds i w (declares_truth (slice_get ds i)))
field_means ds w e =
    IfSome_then (decl_from 0 ds (drop 7 w)) (decl_found 0 ds (drop 7 w))
    (λ i f. record { rest = drop 7 w; spelt = e; declared = declared_of ds (drop 7 w) i f })

-- what a word's look-up gives, the word means
pub meaning_means : (scope : Scope) (w : List ℕ) → IfSome (meaning_of scope w) (λ v. Means scope w v (truth_of scope v))
meaning_means scope w =
    let P : Var → Type 0 = λ v. Means scope w v (truth_of scope v) in
    some_case (is_field_use w) _ _ P
    (λ h. variable_or_means P var.Field (decl_from 0 scope.fields (drop 7 w)) None (field_means scope.fields w ((starts_is Decides-eqb w (codes "Report.") (is_field_use w) refl).0 h)) tt)
    (λ _. variable_or_means P var.Prim (primitive_named w) _ (prim_means w (primitive_named w) refl)
    (variable_or_means P var.Control (decl_from 0 scope.controls w) _
    (IfSome_then (decl_from 0 scope.controls w) (decl_found 0 scope.controls w) (λ i f. declared_of scope.controls w i f))
    (variable_or_means P var.Local (local_from 0 scope.locals w) None
    (IfSome_then (local_from 0 scope.locals w) (local_found 0 scope.locals w) (λ i f. local_of scope.locals w i f)) tt)))

pub variable_kind : (scope : Scope) (w : List ℕ) → IfSome (variable_of w) (λ v. truth_of scope v ≡ false)
variable_kind scope w = grind (arith, nat_tests)

pub constant_kind : (scope : Scope) (w : List ℕ) → IfSome (constant_of w) (λ t. term_is_truth (known_in scope) t ≡ constant_truth t)
constant_kind scope w = grind (arith, nat_tests)

refused_means : (scope : Scope) (w : List ℕ) (v : Option Var) (fault : ScopeFault) → IfSome v (λ v. Means scope w v (truth_of scope v)) → IfOk (or_refused v fault) (λ v. Means scope w v (truth_of scope v))
refused_means scope w (Some v) fault h = h
refused_means scope w None fault h = tt

variable_names : (scope : Scope) (at : Place) (w : List ℕ) (lang : Option Var) → IfSome lang (λ v. truth_of scope v ≡ false) → IfOk (variable_walk scope at w lang) (λ v. NamesVariable scope w lang v (truth_of scope v))
variable_names scope at w (Some v) h = (refl, h)
variable_names scope at w None h =
    if_ok (is_reserved w) _ _ _ (λ _. tt)
    (λ k. IfOk-weaker (or_refused (meaning_of scope w) (Unknown at)) _ _ (λ v m. (k, m)) (refused_means scope w (meaning_of scope w) (Unknown at) (meaning_means scope w)))

name_scoped : (scope : Scope) (w : List ℕ) (v : Result Var ScopeFault) → IfOk v (λ v. NamesVariable scope w (variable_of w) v (truth_of scope v)) → IfOk (name_walk v) (λ t. IsName scope w t (term_is_truth (known_in scope) t))
name_scoped scope w (Ok v) h = record { variable = v; names = h; term = refl }
name_scoped scope w (Err e) h = tt

word_scoped : (scope : Scope) (at : Place) (w : List ℕ) (c : Option Term) → IfSome c (λ t. term_is_truth (known_in scope) t ≡ constant_truth t) → IfOk (word_walk scope at w c) (λ t. IsWord scope w c t (term_is_truth (known_in scope) t))
word_scoped scope at w (Some c) h = (refl, h)
word_scoped scope at w None h = name_scoped scope w (variable_walk scope at w (variable_of w)) (variable_names scope at w (variable_of w) (variable_kind scope w))

pair_scoped : (scope : Scope) (at head : Place) (op : Option Op2) (Left Right : Term → Bool → Type 0) (l r : Result Term ScopeFault) → IfOk l (λ t. Left t (term_is_truth (known_in scope) t)) → IfOk r (λ t. Right t (term_is_truth (known_in scope) t)) → IfOk (pair_walk at head op l r) (λ t. IsPair op head Left Right t (term_is_truth (known_in scope) t))
pair_scoped scope at head None Left Right l r p q = tt
pair_scoped scope at head (Some op) Left Right (Err e) r p q = tt
pair_scoped scope at head (Some op) Left Right (Ok l) (Err e) p q = tt
pair_scoped scope at head (Some op) Left Right (Ok l) (Ok r) p q = record {
  operator = op;
  spelt = refl;
  left = l;
  left_truth = _;
  is_left = p;
  right = r;
  right_truth = _;
  is_right = q;
  term = refl;
  kind = refl;
}

-- what an expression's walk gives is scoped
pub expression_scoped : (scope : Scope) (node : Node) → IfOk (expression_walk scope node) (λ t. IsTerm scope node t (term_is_truth (known_in scope) t))
expression_scoped scope (number at n) = if_ok (nat_lt n (2 ^ 64)) _ _ _ (λ h. (ltb-true n (2 ^ 64) h, refl, refl)) (λ _. tt)
expression_scoped scope (word at w) = word_scoped scope at w (constant_of w) (constant_kind scope w)
expression_scoped scope (list at (more (word head w) (more left (more right none)))) =
    pair_scoped scope at head (operator_of w) (IsTerm scope left) (IsTerm scope right) (expression_walk scope left) (expression_walk scope right) (expression_scoped scope left) (expression_scoped scope right)
expression_scoped scope (list at parts) = tt

-- each name of the scope is found by its look-up
pub record IsControl (scope : Scope) (i : ℕ) (w : List ℕ) : Type 0 where
  pub found : decl_from 0 scope.controls w ≡ Some i
  pub no_field : is_field_use w ≡ false
  pub no_primitive : primitive_named w ≡ None

pub record IsOwnLocal (scope : Scope) (i : ℕ) (w : List ℕ) : Type 0 where
  pub found : local_from 0 scope.locals w ≡ Some i
  pub no_control : decl_from 0 scope.controls w ≡ None
  pub no_field : is_field_use w ≡ false
  pub no_primitive : primitive_named w ≡ None

pub record IsProper (scope : Scope) : Type 0 where
  pub fields : (i : ℕ) (d : Decl) → slice_get scope.fields i ≡ Some d → decl_from 0 scope.fields d.name ≡ Some i
  pub controls : (i : ℕ) (d : Decl) → slice_get scope.controls i ≡ Some d → IsControl scope i d.name
  pub locals : (i : ℕ) (l : Local) → slice_get scope.locals i ≡ Some l → IsOwnLocal scope i l.name

abbrev pub IsAckWord : List ℕ → Type 0
IsAckWord w = (is_field_use w ≡ false) × (is_primitive_use w ≡ true)

pub if_found : (o : Option ℕ) (P : ℕ → Type 0) → ((i : ℕ) → o ≡ Some i → P i) → IfSome o P
if_found (Some i) P f = f i refl
if_found None P f = tt

-- a primitive's word begins with `Ack.` or `Flow.`
abbrev is_ack_word : PrimitiveName → Bool
is_ack_word known = not (is_field_use (word_of known)) && is_primitive_use (word_of known)

all_ack_words : list_all is_ack_word primitive_names ≡ true
all_ack_words = refl

ack_word : (known : PrimitiveName) → is_ack_word known ≡ true → IsAckWord (word_of known)
ack_word known h =
    let both = and_parts (not (is_field_use (word_of known))) (is_primitive_use (word_of known)) h in
    (not-true (is_field_use (word_of known)) both.0, both.1)

pub primitive_word : (w : List ℕ) → IfSome (primitive_named w) (λ _. IsAckWord w)
primitive_word w =
    if_found (primitive_named w) (λ _. IsAckWord w) (λ i e.
    let none : PrimitiveName = ([], []) in
    let there = position-Some (λ known. bytes_eq w (word_of known)) primitive_names i none e in
    let known = get_or primitive_names i none in
    subst IsAckWord (sym (spelt w (word_of known) there.1)) (ack_word known (AllPass-from_list_all is_ack_word primitive_names all_ack_words i none there.0)))

-- the number of a primitive is one of them
pub primitive_count_of : (w : List ℕ) → IfSome (primitive_named w) (λ n. n < primitive_count)
primitive_count_of w =
    if_found (primitive_named w) (λ n. n < primitive_count) (λ i e.
    (position-Some (λ known. bytes_eq w (word_of known)) primitive_names i ([], []) e).0)
