-- A program that the walk over forms gives is valid.
use Rattle.std.proofs.Common.{◌≡◌, ℕ, ◌+◌, ◌≤◌, Bool, true, false, not, ◌&&◌, refl, List, [], ◌∷◌, ◌++◌, length, is_some, Option, Some, None, IfSome, ◌||◌, Result, Ok, IfOk, IsTrue, nat_le, bytes_eq, codes, arith, ap, ◌∙◌, sym, subst, length-append, lit≤, if◌then◌else◌}
use Rattle.std.proofs.lemmas.Bool.{and_parts, and_from, or_parts, or_from, not-true, not-false, not_from_false, le-leb}
use Rattle.std.proofs.lemmas.Result.{IfOk-weaker}
use Rattle.std.proofs.lemmas.Bool.Decides.{nat_tests}
use Rattle.ccp_base.specs.declared.place.Place.{Place}
use Rattle.portus_core.specs.declared.program.Decl.{Decl}
use Rattle.portus_core.specs.Programs.{Term, Action, Part}
use Rattle.portus_core.specs.Trees.{Node, Nodes, none, more, number, word, list}
use Rattle.portus_core.specs.ValidPrograms.{KnownNames, is_condition, is_body, is_part, are_parts, is_start, is_named_in, are_declared, is_declared, is_valid}
use Rattle.scope_types.specs.declared.declaration.Start.{Start}
use Rattle.scope_types.specs.declared.declaration.Declaration.{Declaration}
use Rattle.scope_types.specs.declared.fault.ScopeFault.{ScopeFault}
use Rattle.scope_types.specs.Names.{decl_from}
use Rattle.portus_core.specs.Words.{is_field_name, is_control_name}
use Rattle.scope_types.specs.Scope.{Scope, known_in}
use Rattle.scope_types.specs.ExpressionWalk.{expression_walk}
use Rattle.scope_types.specs.DeclarationWalk as walk
use Rattle.scope_types.specs.CommandWalk.{body_walk}
use Rattle.scope_types.specs.ProgramWalk.{nothing_declared, without_locals, walked_part, condition_walk, inner_walk, block_walk, form_walk, blocks_walk, def_walk, walked_form}
use Rattle.scope_types.proofs.Results.{if_ok, then_ok}
use Rattle.scope_types.proofs.ScopedExpressions.{some_case}
use Rattle.scope_types.proofs.ValidExpressions.{expression_valid}
use Rattle.scope_types.proofs.ValidCommands.{IsRest, kind_fits, body_valid}

-- right declarations, and no more than there may be
pub record IsWithin (names : Scope) : Type 0 where
  pub fields : length names.fields ≤ 64
  pub controls : length names.controls ≤ 64
  pub right_fields : IsTrue (are_declared is_field_name names.fields)
  pub right_controls : IsTrue (are_declared is_control_name names.controls)

-- a name that no declaration has is new for the first of them and for the rest
new_by : (b : Bool) (i : ℕ) (o : Option ℕ) → is_some (if b then Some i else o) ≡ false → (b ≡ false) × (is_some o ≡ false)
new_by true i o h = absurd (cc)
new_by false i o h = (refl, h)

named_later : (name : List ℕ) (rest : List Decl) (decl : Decl) → is_named_in name rest ≡ false → bytes_eq name decl.name ≡ false → is_named_in name (rest ++ decl ∷ []) ≡ false
named_later name [] decl h k = or_from _ _ k refl
named_later name (first ∷ rest) decl h k =
    let neither = or_parts (bytes_eq name first.name) (is_named_in name rest) h in
    or_from (bytes_eq name first.name) (is_named_in name (rest ++ decl ∷ [])) neither.0 (named_later name rest decl neither.1 k)

-- one more declaration of a new name
one_more : (is_allowed : List ℕ → Bool) (decls : List Decl) (decl : Decl) (i : ℕ) → IsTrue (are_declared is_allowed decls) → is_allowed decl.name ≡ true → is_start decl ≡ true → is_some (decl_from i decls decl.name) ≡ false → IsTrue (are_declared is_allowed (decls ++ decl ∷ []))
one_more is_allowed [] decl i h allowed start new = and_from _ _ (and_from _ _ (and_from _ _ allowed start) refl) refl
one_more is_allowed (first ∷ rest) decl i h allowed start new =
    let n = new_by (bytes_eq first.name decl.name) i (decl_from (i + 1) rest decl.name) new in
    let own = is_allowed first.name && is_start first in
    let parts = and_parts (own && not (is_named_in first.name rest)) (are_declared is_allowed rest) h in
    let here = and_parts own (not (is_named_in first.name rest)) parts.0 in
    and_from _ _
    (and_from _ _ here.0 (not_from_false _ (named_later first.name rest decl (not-true _ here.1) n.0)))
    (one_more is_allowed rest decl (i + 1) parts.1 allowed start n.1)

-- a declared value is right
abbrev is_right : Start → Bool
is_right start = not start.truth || nat_le start.value 1

word_start : (w : List ℕ) → IfSome (walk.start_word w) (λ s. is_right s ≡ true)
word_start w =
    some_case (bytes_eq w (codes "true")) _ _ _ (λ _. refl) (λ _.
    some_case (bytes_eq w (codes "false")) _ _ _ (λ _. refl) (λ _.
    some_case (bytes_eq w (codes "+infinity")) _ _ _ (λ _. refl) (λ _. tt)))

right_start : (node : Node) → IfSome (walk.declared_start node) (λ s. is_right s ≡ true)
right_start (number at n) = refl
right_start (list at parts) = tt
right_start (word at w) = word_start w

declares_start : (at : Place) (volatile : Bool) (word_at : Place) (w : List ℕ) (s : Option Start) → IfSome s (λ s. is_right s ≡ true) → IfOk (walk.declares at volatile word_at w s) (λ d. is_start d.decl ≡ true)
declares_start at volatile word_at w (Some s) h = h
declares_start at volatile word_at w None h = tt

declaration_start : (node : Node) → IfOk (walk.declaration_walk node) (λ d. is_start d.decl ≡ true)
declaration_start (list at (more (word word_at w) (more value none))) = declares_start at false word_at w (walk.declared_start value) (right_start value)
declaration_start (list at (more (word head v) (more (word word_at w) (more value none)))) =
    if_ok (bytes_eq v (codes "volatile")) _ _ _ (λ _. declares_start at true word_at w (walk.declared_start value) (right_start value)) (λ _. tt)
declaration_start node = tt

room : (n : ℕ) → nat_le 64 n ≡ false → n + 1 ≤ 64
room n h = grind (arith, nat_tests)

field_within : (names : Scope) (d : Declaration) → is_start d.decl ≡ true → IsWithin names → IfOk (walk.field_walk names d) IsWithin
field_within names d start h =
    if_ok (not (is_field_name d.decl.name)) _ _ _ (λ _. tt) (λ allowed.
    if_ok (is_some (decl_from 0 names.fields d.decl.name)) _ _ _ (λ _. tt) (λ new.
    if_ok (nat_le 64 (length names.fields)) _ _ _ (λ _. tt) (λ k.
    let within : IsWithin (walk.with_field names d.decl) = record {
      fields = subst (λ n. n ≤ 64) (sym (length-append names.fields (d.decl ∷ []))) (room _ k);
      controls = h.controls;
      right_fields = one_more is_field_name names.fields d.decl 0 h.right_fields (not-false _ allowed) start new;
      right_controls = h.right_controls;
    } in within)))

control_within : (names : Scope) (d : Declaration) → is_start d.decl ≡ true → IsWithin names → IfOk (walk.control_walk names d) IsWithin
control_within names d start h =
    if_ok (not (is_control_name d.decl.name)) _ _ _ (λ _. tt) (λ allowed.
    if_ok (is_some (decl_from 0 names.controls d.decl.name)) _ _ _ (λ _. tt) (λ new.
    if_ok (nat_le 64 (length names.controls)) _ _ _ (λ _. tt) (λ k.
    let within : IsWithin (walk.with_control names d.decl) = record {
      fields = h.fields;
      controls = subst (λ n. n ≤ 64) (sym (length-append names.controls (d.decl ∷ []))) (room _ k);
      right_fields = h.right_fields;
      right_controls = one_more is_control_name names.controls d.decl 0 h.right_controls (not-false _ allowed) start new;
    } in within)))

fields_within : (names : Scope) (nodes : Nodes) → IsWithin names → IfOk (walk.fields_walk names nodes) IsWithin
fields_within names none h = h
fields_within names (more node rest) h =
    then_ok (walk.declaration_walk node) _ _ _ (declaration_start node) (λ d start.
    then_ok (walk.field_walk names d) _ _ _ (field_within names d start h) (λ after k. fields_within after rest k))

abbrev DeclaresWithin : walk.Declaring → Type 0
DeclaresWithin declared = IsWithin declared.names

group_within : (declared : walk.Declaring) (head : Place) (fields : Nodes) → DeclaresWithin declared → IfOk (walk.group_walk declared head fields) DeclaresWithin
group_within declared head fields h =
    if_ok declared.grouped _ _ _ (λ _. tt) (λ _.
    then_ok (walk.fields_walk declared.names fields) _ _ _ (fields_within declared.names fields h) (λ after k. k))

control_part_within : (declared : walk.Declaring) (node : Node) → DeclaresWithin declared → IfOk (walk.control_part_walk declared node) DeclaresWithin
control_part_within declared node h =
    then_ok (walk.declaration_walk node) _ _ _ (declaration_start node) (λ d start.
    then_ok (walk.control_walk declared.names d) _ _ _ (control_within declared.names d start h) (λ after k. k))

part_within : (declared : walk.Declaring) (node : Node) → DeclaresWithin declared → IfOk (walk.part_walk declared node) DeclaresWithin
part_within declared (list at (more (word head w) fields)) h =
    if_ok (bytes_eq w (codes "Report")) _ _ _ (λ _. group_within declared head fields h)
    (λ _. control_part_within declared (list at (more (word head w) fields)) h)
part_within declared (list at none) h = control_part_within declared (list at none) h
part_within declared (list at (more (number a n) rest)) h = control_part_within declared (list at (more (number a n) rest)) h
part_within declared (list at (more (list a ps) rest)) h = control_part_within declared (list at (more (list a ps) rest)) h
part_within declared (number at n) h = control_part_within declared (number at n) h
part_within declared (word at w) h = control_part_within declared (word at w) h

parts_within : (declared : walk.Declaring) (nodes : Nodes) → DeclaresWithin declared → IfOk (walk.parts_walk declared nodes) DeclaresWithin
parts_within declared none h = h
parts_within declared (more node rest) h =
    then_ok (walk.part_walk declared node) _ _ _ (part_within declared node h) (λ after k. parts_within after rest k)

pub def_within : (node : Node) → IfOk (def_walk node) IsWithin
def_within (list at (more (word head w) parts)) =
    if_ok (bytes_eq w (codes "def")) _ _ _
    (λ _. then_ok (walk.parts_walk nothing_declared parts) _ _ _ (parts_within nothing_declared parts (record { fields = lit≤ tt; controls = lit≤ tt; right_fields = refl; right_controls = refl })) (λ declared h. h))
    (λ _. tt)
def_within node = tt

-- the names that each block begins with
abbrev pub block_names : Scope → KnownNames
block_names names = record { fields = names.fields; controls = names.controls; locals = [] }

condition_valid : (names : Scope) (node : Node) → IfOk (condition_walk names node) (λ t. IsTrue (is_condition (known_in names) t))
condition_valid names node =
    then_ok (expression_walk names node) _ _ _ (expression_valid names node) (λ t h. kind_fits names true _ t h)

-- a right block, which leaves the declared names as they were
pub record IsBlock (names : Scope) (block : Part × Scope) : Type 0 where
  pub valid : IsTrue (is_part (block_names names) block.0)
  pub fields : block.1.fields ≡ names.fields
  pub controls : block.1.controls ≡ names.controls

part_valid : (names : Scope) (condition : Term) (body : List Action × Scope) → IsTrue (is_condition (block_names names) condition) → IsRest (without_locals names) [] body → IsBlock names (walked_part condition body, body.1)
part_valid names condition body c r = record {
  valid = and_from _ _ c (ap (is_body (block_names names) (length body.1.locals)) r.whole ∙ r.valid);
  fields = r.fields;
  controls = r.controls;
}

inner_valid : (names : Scope) (condition : Node) (commands : Nodes) → IfOk (inner_walk (without_locals names) condition commands) (IsBlock names)
inner_valid names condition commands =
    then_ok (condition_walk (without_locals names) condition) _ _ _ (condition_valid (without_locals names) condition) (λ c k.
    then_ok (body_walk (without_locals names) [] commands) _ _ _ (body_valid (without_locals names) [] commands) (λ body r.
    part_valid names c body k r))

-- a right block after fewer than 64 others
pub record IsForm (names : Scope) (count : ℕ) (block : Part × Scope) : Type 0 where
  pub right : IsBlock names block
  pub few : nat_le 64 count ≡ false

block_valid : (names : Scope) (at : Place) (nodes : Nodes) → IfOk (block_walk names at nodes) (IsBlock names)
block_valid names at none = tt
block_valid names at (more condition commands) = inner_valid names condition commands

pub form_valid : (names : Scope) (count : ℕ) (node : Node) → IfOk (form_walk names count node) (IsForm names count)
form_valid names count (list at (more (word head w) parts)) =
    if_ok (not (bytes_eq w (codes "when"))) _ _ _ (λ _. tt) (λ _.
    if_ok (nat_le 64 count) _ _ _ (λ _. tt) (λ few.
    IfOk-weaker (block_walk names at parts) _ _ (λ block right. record { right = right; few = few }) (block_valid names at parts)))
form_valid names count node = tt

are_parts-append : (known : KnownNames) (done : List Part) (part : Part) → IsTrue (are_parts known done) → IsTrue (is_part known part) → IsTrue (are_parts known (done ++ part ∷ []))
are_parts-append known [] part d p = and_from _ _ p refl
are_parts-append known (first ∷ rest) part d p =
    let parts = and_parts (is_part known first) (are_parts known rest) d in
    and_from _ _ parts.0 (are_parts-append known rest part parts.1 p)

-- right blocks, which leave the declared names as they were
pub record AreBlocks (names : Scope) (blocks : List Part × Scope) : Type 0 where
  pub valid : IsTrue (are_parts (block_names names) blocks.0)
  pub few : length blocks.0 ≤ 64
  pub fields : blocks.1.fields ≡ names.fields
  pub controls : blocks.1.controls ≡ names.controls

same_names : (names after : Scope) → after.fields ≡ names.fields → after.controls ≡ names.controls → block_names names ≡ block_names after
same_names names after e f =
    ap (λ (ds : List Decl). let known : KnownNames = record { fields = ds; controls = names.controls; locals = [] } in known) (sym e)
    ∙ ap (λ (ds : List Decl). let known : KnownNames = record { fields = after.fields; controls = ds; locals = [] } in known) (sym f)

after_block : (names : Scope) (block : Part × Scope) (blocks : List Part × Scope) → IsBlock names block → AreBlocks block.1 blocks → AreBlocks names blocks
after_block names block blocks b r = record {
  valid = ap (λ known. are_parts known blocks.0) (same_names names block.1 b.fields b.controls) ∙ r.valid;
  few = r.few;
  fields = r.fields ∙ b.fields;
  controls = r.controls ∙ b.controls;
}

pub blocks_valid : (names : Scope) (done : List Part) (nodes : Nodes) → IsTrue (are_parts (block_names names) done) → length done ≤ 64 → IfOk (blocks_walk names done nodes) (AreBlocks names)
blocks_valid names done none d n = record { valid = d; few = n; fields = refl; controls = refl }
blocks_valid names done (more node rest) d n =
    then_ok (form_walk names (length done) node) _ _ _ (form_valid names (length done) node) (λ block f.
    IfOk-weaker (blocks_walk block.1 (done ++ block.0 ∷ []) rest) _ _
    (λ blocks r. after_block names block blocks f.right r)
    (blocks_valid block.1 (done ++ block.0 ∷ []) rest
    (ap (λ known. are_parts known (done ++ block.0 ∷ [])) (sym (same_names names block.1 f.right.fields f.right.controls))
    ∙ are_parts-append (block_names names) done block.0 d f.right.valid)
    (subst (λ k. k ≤ 64) (sym (length-append done (block.0 ∷ []))) (room _ f.few))))

form_of_valid : (names : Scope) (blocks : List Part × Scope) → IsWithin names → AreBlocks names blocks → IsTrue (is_valid (walked_form blocks))
form_of_valid names blocks w b =
    and_from _ _
    (and_from _ _
    (and_from _ _ (le-leb _ 64 (subst (λ (ds : List Decl). length ds ≤ 64) (sym b.fields) w.fields)) (le-leb _ 64 (subst (λ (ds : List Decl). length ds ≤ 64) (sym b.controls) w.controls)))
    (le-leb _ 64 b.few))
    (ap (λ known. are_parts known blocks.0) (sym (same_names names blocks.1 b.fields b.controls)) ∙ b.valid)

form_of_declared : (names : Scope) (blocks : List Part × Scope) → IsWithin names → AreBlocks names blocks → IsTrue (is_declared (walked_form blocks))
form_of_declared names blocks w b =
    and_from _ _
    (subst (λ (ds : List Decl). IsTrue (are_declared is_field_name ds)) (sym b.fields) w.right_fields)
    (subst (λ (ds : List Decl). IsTrue (are_declared is_control_name ds)) (sym b.controls) w.right_controls)

-- the same of its two parts
pub parts_valid : (first : Node) (rest : Nodes) (names : Scope) (blocks : List Part × Scope) → def_walk first ≡ Ok names → blocks_walk names [] rest ≡ Ok blocks → IsTrue (is_valid (walked_form blocks))
parts_valid first rest names blocks e f =
    form_of_valid names blocks (subst (λ (r : Result Scope ScopeFault). IfOk r IsWithin) e (def_within first))
    (subst (λ (r : Result (List Part × Scope) ScopeFault). IfOk r (AreBlocks names)) f (blocks_valid names [] rest refl (lit≤ tt)))

pub parts_declared : (first : Node) (rest : Nodes) (names : Scope) (blocks : List Part × Scope) → def_walk first ≡ Ok names → blocks_walk names [] rest ≡ Ok blocks → IsTrue (is_declared (walked_form blocks))
parts_declared first rest names blocks e f =
    form_of_declared names blocks (subst (λ (r : Result Scope ScopeFault). IfOk r IsWithin) e (def_within first))
    (subst (λ (r : Result (List Part × Scope) ScopeFault). IfOk r (AreBlocks names)) f (blocks_valid names [] rest refl (lit≤ tt)))
