-- Expressions that their walk gives have a meaning in each name.
use Rattle.std.proofs.Common.{ℕ, ◌+◌, ◌<◌, ◌^◌, Bool, true, false, List, [], ◌∷◌, length, drop, Option, Some, None, IfSome, Result, Ok, Err, IfOk, IsTrue, nat_lt, if◌then◌else◌, bytes_eq, arith}
use Rattle.std.proofs.lemmas.Bool.{and_from, lt-ltb}
use Rattle.std.proofs.lemmas.Option.{IfSome_then}
use Rattle.std.proofs.lemmas.List.{length-map}
use Rattle.std.proofs.lemmas.Bool.Decides.{nat_tests}
use Rattle.ccp_base.specs.declared.place.Place.{Place}
use Rattle.portus_core.specs.declared.program.Decl.{Decl}
use Rattle.ccp_base.specs.declared.operation.Op2.{Op2}
use Rattle.portus_core.specs.declared.program.Var.{Var}
use Rattle.portus_core.specs.declared.program.Var.TheVariants as var
use Rattle.portus_core.specs.Programs.{Term}
use Rattle.portus_core.specs.Trees.{Node, none, more, number, word, list}
use Rattle.portus_core.specs.ValidPrograms.{KnownNames, is_known, is_term}
use Rattle.scope_types.specs.declared.names.Local.{Local}
use Rattle.scope_types.specs.declared.fault.ScopeFault.{ScopeFault}
use Rattle.scope_types.specs.declared.fault.ScopeFault.TheVariants.{Unknown}
use Rattle.portus_core.specs.Words.{variable_of, is_reserved, is_field_use}
use Rattle.ccp_base.specs.Operations.{operator_of}
use Rattle.ccp_base.specs.Limits.{primitive_count}
use Rattle.ccp_base.specs.PrimitiveNames.{primitive_named}
use Rattle.scope_types.specs.ValueWords.{constant_of}
use Rattle.scope_types.specs.Names.{decl_from, local_from, meaning_of}
use Rattle.scope_types.specs.Scope.{Scope, known_in}
use Rattle.scope_types.specs.ExpressionWalk.{or_refused, name_walk, variable_walk, word_walk, pair_walk, expression_walk}
use Rattle.scope_types.proofs.Results.{if_ok}
use Rattle.scope_types.proofs.ScopedExpressions.{primitive_count_of, variable_or_means}

-- what holds of a choice's value holds in each branch
pub if_some : {A : Type 0} (b : Bool) (r s : Option A) (P : A → Type 0) → IfSome r P → IfSome s P → IfSome (if b then r else s) P
if_some true r s P f g = f
if_some false r s P f g = g

decl_below : (i : ℕ) (ds : List Decl) (w : List ℕ) → IfSome (decl_from i ds w) (λ n. n < i + length ds)
decl_below i [] w = tt
decl_below i (d ∷ ds) w =
    if_some (bytes_eq d.name w) (Some i) (decl_from (i + 1) ds w) _
    (let here : i < i + length (d ∷ ds) = omega arith in here)
    (IfSome_then (decl_from (i + 1) ds w) (decl_below (i + 1) ds w) (λ n h. let there : n < i + length (d ∷ ds) = omega arith in there))

local_below : (i : ℕ) (ds : List Local) (w : List ℕ) → IfSome (local_from i ds w) (λ n. n < i + length ds)
local_below i [] w = tt
local_below i (d ∷ ds) w =
    if_some (bytes_eq d.name w) (Some i) (local_from (i + 1) ds w) _
    (let here : i < i + length (d ∷ ds) = omega arith in here)
    (IfSome_then (local_from (i + 1) ds w) (local_below (i + 1) ds w) (λ n h. let there : n < i + length (d ∷ ds) = omega arith in there))

primitive_below : (w : List ℕ) → IfSome (primitive_named w) (λ n. IsTrue (nat_lt n primitive_count))
primitive_below w = IfSome_then (primitive_named w) (primitive_count_of w) (λ n h. lt-ltb n primitive_count h)

local_known : (names : Scope) (w : List ℕ) → IfSome (local_from 0 names.locals w) (λ n. IsTrue (is_known (known_in names) (var.Local n)))
local_known names w =
    IfSome_then (local_from 0 names.locals w) (local_below 0 names.locals w)
    (λ n h. lt-ltb n (length (known_in names).locals) (omega (arith, length-map names.locals (λ (l : Local). l.truth))))

decl_known : (ds : List Decl) (w : List ℕ) → IfSome (decl_from 0 ds w) (λ n. IsTrue (nat_lt n (length ds)))
decl_known ds w = IfSome_then (decl_from 0 ds w) (decl_below 0 ds w) (λ n h. lt-ltb n (length ds) (omega arith))

-- a word's meaning is a name that is known
pub meaning_known : (names : Scope) (w : List ℕ) → IfSome (meaning_of names w) (λ v. IsTrue (is_known (known_in names) v))
meaning_known names w =
    let P : Var → Type 0 = λ v. IsTrue (is_known (known_in names) v) in
    if_some (is_field_use w) _ _ P
    (variable_or_means P var.Field (decl_from 0 names.fields (drop 7 w)) None (decl_known names.fields (drop 7 w)) tt)
    (variable_or_means P var.Prim (primitive_named w) _ (primitive_below w)
    (variable_or_means P var.Control (decl_from 0 names.controls w) _ (decl_known names.controls w)
    (variable_or_means P var.Local (local_from 0 names.locals w) None (local_known names w) tt)))

-- and so is a variable of the language
pub variable_known : (known : KnownNames) (w : List ℕ) → IfSome (variable_of w) (λ v. IsTrue (is_known known v))
variable_known known w = grind (arith, nat_tests)

constant_valid : (known : KnownNames) (w : List ℕ) → IfSome (constant_of w) (λ t. IsTrue (is_term known t))
constant_valid known w = grind (arith, nat_tests)

refused_known : (names : Scope) (v : Option Var) (fault : ScopeFault) → IfSome v (λ v. IsTrue (is_known (known_in names) v)) → IfOk (or_refused v fault) (λ v. IsTrue (is_known (known_in names) v))
refused_known names (Some v) fault h = h
refused_known names None fault h = tt

variable_walk_known : (names : Scope) (at : Place) (w : List ℕ) (v : Option Var) → IfSome v (λ v. IsTrue (is_known (known_in names) v)) → IfOk (variable_walk names at w v) (λ v. IsTrue (is_known (known_in names) v))
variable_walk_known names at w (Some v) h = h
variable_walk_known names at w None h = if_ok (is_reserved w) _ _ _ (λ _. tt) (λ _. refused_known names (meaning_of names w) (Unknown at) (meaning_known names w))

name_valid : (names : Scope) (v : Result Var ScopeFault) → IfOk v (λ v. IsTrue (is_known (known_in names) v)) → IfOk (name_walk v) (λ t. IsTrue (is_term (known_in names) t))
name_valid names (Ok v) h = h
name_valid names (Err e) h = tt

word_valid : (names : Scope) (at : Place) (w : List ℕ) (t : Option Term) → IfSome t (λ t. IsTrue (is_term (known_in names) t)) → IfOk (word_walk names at w t) (λ t. IsTrue (is_term (known_in names) t))
word_valid names at w (Some t) h = h
word_valid names at w None h = name_valid names (variable_walk names at w (variable_of w)) (variable_walk_known names at w (variable_of w) (variable_known (known_in names) w))

pair_valid : (known : KnownNames) (at head : Place) (op : Option Op2) (l r : Result Term ScopeFault) → IfOk l (λ t. IsTrue (is_term known t)) → IfOk r (λ t. IsTrue (is_term known t)) → IfOk (pair_walk at head op l r) (λ t. IsTrue (is_term known t))
pair_valid known at head None l r p q = tt
pair_valid known at head (Some op) (Err e) r p q = tt
pair_valid known at head (Some op) (Ok l) (Err e) p q = tt
pair_valid known at head (Some op) (Ok l) (Ok r) p q = and_from _ _ p q

-- what an expression's walk gives has a meaning in each name
pub expression_valid : (names : Scope) (node : Node) → IfOk (expression_walk names node) (λ t. IsTrue (is_term (known_in names) t))
expression_valid names (number at n) = if_ok (nat_lt n (2 ^ 64)) _ _ _ (λ h. h) (λ _. tt)
expression_valid names (word at w) = word_valid names at w (constant_of w) (constant_valid (known_in names) w)
expression_valid names (list at (more (word head w) (more left (more right none)))) =
    pair_valid (known_in names) at head (operator_of w) (expression_walk names left) (expression_walk names right) (expression_valid names left) (expression_valid names right)
expression_valid names (list at parts) = tt
