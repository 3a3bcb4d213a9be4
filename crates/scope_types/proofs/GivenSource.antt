-- Forms that stand for a program give it by their walk, so they stand for one at most.
use Rattle.std.proofs.Common.{◌≡◌, ℕ, ◌≤◌, true, false, not, refl, List, [], ◌∷◌, ◌++◌, length, Result, Ok, IfOk, nat_le, bytes_eq, codes, ap, ◌∙◌, sym, subst, append-nil, append_assoc}
use Rattle.ccp_base.specs.declared.place.Place.{Place}
use Rattle.portus_core.specs.declared.program.Decl.{Decl}
use Rattle.portus_core.specs.Programs.{Term, Part, Form}
use Rattle.portus_core.specs.Trees.{Node, Nodes, none, more, word, list}
use Rattle.scope_types.specs.declared.fault.ScopeFault.{ScopeFault}
use Rattle.scope_types.specs.Scope.{Scope}
use Rattle.scope_types.specs.Cuts.{node_place}
use Rattle.scope_types.specs.ExpressionWalk.{expression_walk}
use Rattle.scope_types.specs.DeclarationWalk.{Declaring, parts_walk}
use Rattle.scope_types.specs.CommandWalk.{body_walk}
use Rattle.scope_types.specs.ProgramWalk.{nothing_declared, without_locals, condition_walk, inner_walk, form_walk, blocks_walk, def_walk, source_walk}
use Rattle.scope_types.specs.ExpressionRules.{IsTerm}
use Rattle.scope_types.specs.WellScoped.{IsBlock, IsWhen, AreBlocks, IsProgram, IsScoped, first_names}
use Rattle.scope_types.proofs.ScopedExpressions.{spells, IsProper}
use Rattle.scope_types.proofs.ScopedDeclarations.{AddsParts, parts_scoped}
use Rattle.scope_types.proofs.ScopedSource.{nothing_proper, same_start}
use Rattle.scope_types.proofs.GivenExpressions.{expression_given}
use Rattle.scope_types.proofs.GivenCommands.{then_given, if_false, if_true, kind_given, body_given}
use Rattle.scope_types.proofs.GivenDeclarations.{parts_given, room_test}
use Rattle.scope_types.proofs.ValidSource as valid

condition_given : (names : Scope) (node : Node) (t : Term) → IsProper names → IsTerm names node t true → condition_walk names node ≡ Ok t
condition_given names node t p h =
    let g = expression_given names node t true p h in
    then_given (expression_walk names node) _ t _ g.gives (kind_given names true (node_place node) t true g.kind (λ k. k))

inner_given : (names : Scope) (condition : Node) (commands : Nodes) (part : Part) → IsProper names → (b : IsBlock names condition commands part) → inner_walk names condition commands ≡ Ok (part, b.after)
inner_given names condition commands part p b =
    then_given (condition_walk names condition) _ part.condition _ (condition_given names condition part.condition p b.is_condition)
    (then_given (body_walk names [] commands) _ (part.body, b.after) _ (body_given names [] commands part.body b.after p b.is_body)
    (ap (λ n. let block : Result (Part × Scope) ScopeFault = Ok (record { condition = part.condition; body = part.body; locals = n }, b.after) in block) (sym b.locals)))

-- the walk gives the block, and leaves the declared names
record IsFormGiven (names : Scope) (count : ℕ) (node : Node) (part : Part) : Type 0 where
  after : Scope
  gives : form_walk names count node ≡ Ok (part, after)

form_given : (names : Scope) (count : ℕ) (node : Node) (part : Part) → IsProper (without_locals names) → nat_le 64 count ≡ false → IsWhen (without_locals names) node part → IsFormGiven names count node part
form_given names count (list at (more (word head w) (more condition commands))) part p few h = record {
  after = h.1.after;
  gives =
      if_false (not (bytes_eq w (codes "when"))) _ _ _ (ap not (spells w (codes "when") h.0))
      (if_false (nat_le 64 count) _ _ _ few (inner_given (without_locals names) condition commands part p h.1));
}
form_given names count node part p few h = absurd h

record AreBlocksGiven (names : Scope) (done : List Part) (nodes : Nodes) (parts : List Part) : Type 0 where
  after : Scope
  gives : blocks_walk names done nodes ≡ Ok (done ++ parts, after)
  fields : after.fields ≡ names.fields
  controls : after.controls ≡ names.controls

more_given : (names between after : Scope) (done : List Part) (node : Node) (rest : Nodes) (part : Part) (parts : List Part) → form_walk names (length done) node ≡ Ok (part, between) → blocks_walk between (done ++ part ∷ []) rest ≡ Ok ((done ++ part ∷ []) ++ parts, after) → blocks_walk names done (more node rest) ≡ Ok (done ++ part ∷ parts, after)
more_given names between after done node rest part parts e f =
    then_given (form_walk names (length done) node) _ (part, between) _ e (f ∙ ap (λ ds. Ok (ds, after)) (append_assoc done (part ∷ []) parts))

form_block : (names between : Scope) (count : ℕ) (node : Node) (part : Part) → form_walk names count node ≡ Ok (part, between) → valid.IsBlock names (part, between)
form_block names between count node part e =
    (subst (λ (r : Result (Part × Scope) ScopeFault). IfOk r (valid.IsForm names count)) e (valid.form_valid names count node)).right

back : (between before after : List Decl) → after ≡ between → between ≡ before → after ≡ before
back between before after e f = e ∙ f

blocks_given : (names : Scope) (done : List Part) (nodes : Nodes) (parts : List Part) → IsProper (without_locals names) → length (done ++ parts) ≤ 64 → AreBlocks (without_locals names) nodes parts → AreBlocksGiven names done nodes parts
blocks_given names done none [] p few h = record { after = names; gives = ap (λ ds. Ok (ds, names)) (sym (append-nil done)); fields = refl; controls = refl }
blocks_given names done none (part ∷ parts) p few h = absurd h
blocks_given names done (more node rest) [] p few h = absurd h
blocks_given names done (more node rest) (part ∷ parts) p few h =
    let f = form_given names (length done) node part p (room_test done part parts few) h.0 in
    let v = form_block names f.after (length done) node part f.gives in
    let start = same_start names f.after v.fields v.controls in
    let r = blocks_given f.after (done ++ part ∷ []) rest parts (subst IsProper start p)
    (subst (λ (ds : List Part). length ds ≤ 64) (sym (append_assoc done (part ∷ []) parts)) few)
    (subst (λ (scope : Scope). AreBlocks scope rest parts) start h.1) in
    record {
      after = r.after;
      gives = more_given names f.after r.after done node rest part parts f.gives r.gives;
      fields = back f.after.fields names.fields r.after.fields r.fields v.fields;
      controls = back f.after.controls names.controls r.after.controls r.controls v.controls;
    }

program_given : (at head : Place) (w : List ℕ) (parts forms : Nodes) (form : Form) → w ≡ codes "def" → IsProgram parts forms form → source_walk (more (list at (more (word head w) parts)) forms) ≡ Ok form
program_given at head w parts forms form e h =
    let d = parts_given nothing_declared parts form.fields form.controls h.declared h.fields_distinct h.controls_distinct h.few_fields h.few_controls in
    let after : Declaring = record { names = first_names form.fields form.controls; grouped = d.grouped } in
    let a = subst (λ (r : Result Declaring ScopeFault). IfOk r (AddsParts nothing_declared parts)) d.gives (parts_scoped nothing_declared parts nothing_proper refl) in
    let b = blocks_given (first_names form.fields form.controls) [] forms form.blocks a.proper h.few_blocks h.blocks in
    then_given (def_walk (list at (more (word head w) parts))) _ (first_names form.fields form.controls) _
    (if_true (bytes_eq w (codes "def")) _ _ _ (spells w (codes "def") e) (then_given (parts_walk nothing_declared parts) _ after _ d.gives refl))
    (then_given (blocks_walk (first_names form.fields form.controls) [] forms) _ (form.blocks, b.after) _ b.gives
    (ap (λ ds. let made : Result Form ScopeFault = Ok (record { fields = ds; controls = b.after.controls; blocks = form.blocks }) in made) b.fields
    ∙ ap (λ ds. let made : Result Form ScopeFault = Ok (record { fields = form.fields; controls = ds; blocks = form.blocks }) in made) b.controls))

-- what a text's forms stand for, their walk gives
pub source_given : (nodes : Nodes) (form : Form) → IsScoped nodes form → source_walk nodes ≡ Ok form
source_given (more (list at (more (word head w) parts)) forms) form h = program_given at head w parts forms form h.0 h.1
source_given nodes form h = absurd h

-- forms stand for one program at most
pub scoped_once : (nodes : Nodes) (form other : Form) → IsScoped nodes form → IsScoped nodes other → form ≡ other
scoped_once nodes form other h k = let e : Ok form ≡ Ok other = sym (source_given nodes form h) ∙ source_given nodes other k in cc
