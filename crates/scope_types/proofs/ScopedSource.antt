-- Forms stand for what the walk over them gives.
use Rattle.std.proofs.Common.{◌≡◌, ℕ, ◌≤◌, true, false, not, refl, List, [], ◌∷◌, ◌++◌, length, Some, Result, Ok, Err, IfOk, nat_le, slice_get, bytes_eq, codes, ap, ◌∙◌, sym, subst, append-nil, append_assoc, lit≤}
use Rattle.std.proofs.lemmas.Bool.{not-false}
use Rattle.std.proofs.lemmas.Result.{IfOk-weaker}
use Rattle.portus_core.specs.declared.program.Decl.{Decl}
use Rattle.portus_core.specs.Programs.{Term, Action, Part}
use Rattle.portus_core.specs.Trees.{Node, Nodes, none, more, number, word, list}
use Rattle.scope_types.specs.declared.names.Local.{Local}
use Rattle.scope_types.specs.Scope.{Scope}
use Rattle.scope_types.specs.Names.{decl_from}
use Rattle.scope_types.specs.ExpressionWalk.{expression_walk}
use Rattle.scope_types.specs.DeclarationWalk.{Declaring, parts_walk}
use Rattle.scope_types.specs.CommandWalk.{kind_walk, body_walk}
use Rattle.scope_types.specs.ProgramWalk.{nothing_declared, without_locals, walked_part, condition_walk, inner_walk, form_walk, blocks_walk, def_walk, walked_form, source_walk}
use Rattle.scope_types.specs.ExpressionRules.{IsTerm}
use Rattle.scope_types.specs.CommandRules.{IsBody}
use Rattle.scope_types.specs.DeclarationRules.{AreParts, AreDistinct}
use Rattle.scope_types.specs.WellScoped.{IsBlock, IsWhen, AreBlocks, IsProgram, IsScoped}
use Rattle.scope_types.proofs.Results.{if_ok, then_ok}
use Rattle.scope_types.proofs.ScopedExpressions.{spelt, expression_scoped, IsProper}
use Rattle.scope_types.proofs.ScopedCommands.{kind_scoped, kind_true, IsRestScoped, body_scoped}
use Rattle.scope_types.proofs.ScopedDeclarations.{AddsParts, parts_scoped}
use Rattle.scope_types.proofs.ValidSource as valid

ok_both : {A E : Type 0} (r : Result A E) (P Q : A → Type 0) → IfOk r P → IfOk r Q → IfOk r (λ a. P a × Q a)
ok_both (Ok a) P Q p q = (p, q)
ok_both (Err e) P Q p q = tt

-- the names that the first form declares
record IsDef (parts : Nodes) (names : Scope) : Type 0 where
  are : AreParts parts false names.fields names.controls
  locals : names.locals ≡ []
  proper : IsProper names

abbrev Defines : Node → Scope → Type 0
Defines (list at (more (word head w) parts)) names = (w ≡ codes "def") × IsDef parts names
Defines node names = ⊥

pub nothing_proper : IsProper nothing_declared.names
nothing_proper = record {
  fields = λ i d h. absurd (cc);
  controls = λ i d h. absurd (cc);
  locals = λ i l h. absurd (cc);
}

def_of : (parts : Nodes) (after : Declaring) → AddsParts nothing_declared parts after → IsDef parts after.names
def_of parts after a = record {
  are =
      subst (λ ds. AreParts parts false ds after.names.controls) (sym a.all_fields)
      (subst (λ ds. AreParts parts false a.fields ds) (sym a.all_controls) a.are);
  locals = a.locals;
  proper = a.proper;
}

def_scoped : (node : Node) → IfOk (def_walk node) (Defines node)
def_scoped (list at (more (word head w) parts)) =
    if_ok (bytes_eq w (codes "def")) _ _ _
    (λ h. then_ok (parts_walk nothing_declared parts) _ _ _ (parts_scoped nothing_declared parts nothing_proper refl) (λ after a. (spelt w (codes "def") h, def_of parts after a)))
    (λ _. tt)
def_scoped node = tt

condition_scoped : (names : Scope) (node : Node) → IfOk (condition_walk names node) (λ t. IsTerm names node t true)
condition_scoped names node =
    then_ok (expression_walk names node) _ _ _ (expression_scoped names node) (λ t h.
    IfOk-weaker (kind_walk names true _ t) _ _ (λ e k. kind_true names node t e h k) (kind_scoped names true _ t))

block_of : (names : Scope) (condition : Node) (commands : Nodes) (c : Term) (body : List Action × Scope) → IsTerm names condition c true → IsRestScoped names [] commands body → IsBlock names condition commands (walked_part c body)
block_of names condition commands c body h r = record {
  is_condition = h;
  after = body.1;
  is_body = subst (λ actions. IsBody names commands actions body.1) (sym r.whole) r.scoped;
  locals = refl;
}

inner_scoped : (names : Scope) (condition : Node) (commands : Nodes) → IsProper names → IfOk (inner_walk names condition commands) (λ block. IsBlock names condition commands block.0)
inner_scoped names condition commands p =
    then_ok (condition_walk names condition) _ _ _ (condition_scoped names condition) (λ c h.
    then_ok (body_walk names [] commands) _ _ _ (body_scoped names [] commands p) (λ body r.
    block_of names condition commands c body h r))

form_scoped : (names : Scope) (count : ℕ) (node : Node) → IsProper (without_locals names) → IfOk (form_walk names count node) (λ block. IsWhen (without_locals names) node block.0)
form_scoped names count (list at (more (word head w) none)) p =
    if_ok (not (bytes_eq w (codes "when"))) _ _ _ (λ _. tt) (λ _. if_ok (nat_le 64 count) _ _ _ (λ _. tt) (λ _. tt))
form_scoped names count (list at (more (word head w) (more condition commands))) p =
    if_ok (not (bytes_eq w (codes "when"))) _ _ _ (λ _. tt) (λ h.
    if_ok (nat_le 64 count) _ _ _ (λ _. tt) (λ _.
    IfOk-weaker (inner_walk (without_locals names) condition commands) _ _ (λ block b. (spelt w (codes "when") (not-false _ h), b))
    (inner_scoped (without_locals names) condition commands p)))
form_scoped names count node p = tt

-- a block leaves the declared names
pub same_start : (names after : Scope) → after.fields ≡ names.fields → after.controls ≡ names.controls → without_locals names ≡ without_locals after
same_start names after e f =
    ap (λ (ds : List Decl). let scope : Scope = record { fields = ds; controls = names.controls; locals = [] } in scope) (sym e)
    ∙ ap (λ (ds : List Decl). let scope : Scope = record { fields = after.fields; controls = ds; locals = [] } in scope) (sym f)

record AddsBlocks (names : Scope) (done : List Part) (nodes : Nodes) (blocks : List Part × Scope) : Type 0 where
  parts : List Part
  whole : blocks.0 ≡ done ++ parts
  are : AreBlocks (without_locals names) nodes parts

more_blocks : (names : Scope) (done : List Part) (node : Node) (rest : Nodes) (block : Part × Scope) (blocks : List Part × Scope) → IsWhen (without_locals names) node block.0 → without_locals names ≡ without_locals block.1 → AddsBlocks block.1 (done ++ block.0 ∷ []) rest blocks → AddsBlocks names done (more node rest) blocks
more_blocks names done node rest block blocks w e r = record {
  parts = block.0 ∷ r.parts;
  whole = r.whole ∙ append_assoc done (block.0 ∷ []) r.parts;
  are = (w, subst (λ (scope : Scope). AreBlocks scope rest r.parts) (sym e) r.are);
}

blocks_scoped : (names : Scope) (done : List Part) (nodes : Nodes) → IsProper (without_locals names) → IfOk (blocks_walk names done nodes) (AddsBlocks names done nodes)
blocks_scoped names done none p = record { parts = []; whole = sym (append-nil done); are = tt }
blocks_scoped names done (more node rest) p =
    then_ok (form_walk names (length done) node) _ _ _
    (ok_both (form_walk names (length done) node) _ _ (form_scoped names (length done) node p) (valid.form_valid names (length done) node)) (λ block f.
    let e = same_start names block.1 f.1.right.fields f.1.right.controls in
    IfOk-weaker (blocks_walk block.1 (done ++ block.0 ∷ []) rest) _ _ (λ blocks r. more_blocks names done node rest block blocks f.0 e r)
    (blocks_scoped block.1 (done ++ block.0 ∷ []) rest (subst IsProper e p)))

distinct_of : (decls : List Decl) → ((i : ℕ) (d : Decl) → slice_get decls i ≡ Some d → decl_from 0 decls d.name ≡ Some i) → AreDistinct decls
distinct_of decls found i j d e h k same =
    let f : Some i ≡ Some j = sym (found i d h) ∙ ap (decl_from 0 decls) same ∙ found j e k in cc

program_of : (parts forms : Nodes) (names : Scope) (blocks : List Part × Scope) → IsDef parts names → valid.IsWithin names → AddsBlocks names [] forms blocks → valid.AreBlocks names blocks → IsProgram parts forms (walked_form blocks)
program_of parts forms names blocks d w b v = record {
  declared =
      subst (λ ds. AreParts parts false ds blocks.1.controls) (sym v.fields)
      (subst (λ ds. AreParts parts false names.fields ds) (sym v.controls) d.are);
  fields_distinct = subst AreDistinct (sym v.fields) (distinct_of names.fields d.proper.fields);
  controls_distinct = subst AreDistinct (sym v.controls) (distinct_of names.controls (λ i e h. (d.proper.controls i e h).found));
  few_fields = subst (λ (ds : List Decl). length ds ≤ 64) (sym v.fields) w.fields;
  few_controls = subst (λ (ds : List Decl). length ds ≤ 64) (sym v.controls) w.controls;
  blocks = subst (λ (scope : Scope). AreBlocks scope forms blocks.0) (same_start names blocks.1 v.fields v.controls) (subst (AreBlocks (without_locals names) forms) (sym b.whole) b.are);
  few_blocks = v.few;
}

pub proper_start : (names : Scope) → names.locals ≡ [] → IsProper names → IsProper (without_locals names)
proper_start names e p = subst IsProper (ap (λ (ls : List Local). let scope : Scope = record { fields = names.fields; controls = names.controls; locals = ls } in scope) e) p

scoped_of : (first : Node) (forms : Nodes) (names : Scope) (blocks : List Part × Scope) → Defines first names → valid.IsWithin names → AddsBlocks names [] forms blocks → valid.AreBlocks names blocks → IsScoped (more first forms) (walked_form blocks)
scoped_of (list at (more (word head w) parts)) forms names blocks d k b v = (d.0, program_of parts forms names blocks d.1 k b v)
scoped_of (list at none) forms names blocks d k b v = absurd d
scoped_of (list at (more (number a n) parts)) forms names blocks d k b v = absurd d
scoped_of (list at (more (list a ps) parts)) forms names blocks d k b v = absurd d
scoped_of (number at n) forms names blocks d k b v = absurd d
scoped_of (word at w) forms names blocks d k b v = absurd d

defined : (first : Node) (names : Scope) → Defines first names → IsProper (without_locals names)
defined (list at (more (word head w) parts)) names d = proper_start names d.1.locals d.1.proper
defined (list at none) names d = absurd d
defined (list at (more (number a n) parts)) names d = absurd d
defined (list at (more (list a ps) parts)) names d = absurd d
defined (number at n) names d = absurd d
defined (word at w) names d = absurd d

-- what the walk of a text's forms gives, the forms stand for
pub source_scoped : (nodes : Nodes) → IfOk (source_walk nodes) (IsScoped nodes)
source_scoped none = tt
source_scoped (more first forms) =
    then_ok (def_walk first) _ _ _ (ok_both (def_walk first) _ _ (def_scoped first) (valid.def_within first)) (λ names d.
    then_ok (blocks_walk names [] forms) _ _ _
    (ok_both (blocks_walk names [] forms) _ _ (blocks_scoped names [] forms (defined first names d.0)) (valid.blocks_valid names [] forms refl (lit≤ tt)))
    (λ blocks b. scoped_of first forms names blocks d.0 d.1 b.0 b.1))
