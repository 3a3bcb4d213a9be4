-- Declarations that are well scoped and distinct are given by the walk over them.
use Rattle.std.proofs.Common.{◌≡◌, inl, inr, ℕ, zero, suc, ◌<◌, ◌≤◌, Bool, true, false, not, refl, List, [], ◌∷◌, ◌++◌, length, Option, Some, None, is_some, Result, Ok, IsTrue, nat_le, slice_get, bytes_eq, codes, arith, ap, ◌∙◌, sym, subst, append-nil, append_assoc, length-append}
use Rattle.std.proofs.lemmas.Bool.Decides.{nat_tests}
use Rattle.std.proofs.lemmas.Option.{slice_get_within}
use Rattle.ccp_base.specs.declared.place.Place.{Place}
use Rattle.portus_core.specs.declared.program.Decl.{Decl}
use Rattle.portus_core.specs.Trees.{Node, Nodes, none, more, number, word, list}
use Rattle.scope_types.specs.declared.declaration.Start.{Start}
use Rattle.scope_types.specs.declared.declaration.Declaration.{Declaration}
use Rattle.scope_types.specs.declared.fault.ScopeFault.{ScopeFault}
use Rattle.portus_core.specs.Words.{is_field_name, is_control_name}
use Rattle.scope_types.specs.Scope.{Scope}
use Rattle.scope_types.specs.Names.{decl_from}
use Rattle.scope_types.specs.DeclarationWalk as walk
use Rattle.scope_types.specs.DeclarationRules.{IsStart, IsDeclarationOf, Declares, AreFields, IsGroup, AreParts, AreDistinct}
use Rattle.scope_types.proofs.ScopedExpressions.{spelt, spells, decl_found}
use Rattle.scope_types.proofs.ProperScopes.{nowhere}
use Rattle.scope_types.proofs.GivenCommands.{then_given, if_false, if_true}

start_given : (value : Node) (n : ℕ) (truth : Bool) → IsStart value n truth → walk.declared_start value ≡ Some (record { value = n; truth = truth })
start_given (number at m) n truth h =
    ap (λ k. let start : Option Start = Some (record { value = k; truth = false }) in start) (sym h.0)
    ∙ ap (λ b. let start : Option Start = Some (record { value = n; truth = b }) in start) (sym h.1)
start_given (list at parts) n truth h = absurd h
start_given (word at w) n truth h =
    let back : (u : List ℕ) (k : ℕ) (b : Bool) → (w ≡ u) × (n ≡ k) × (truth ≡ b) → walk.start_word u ≡ Some (record { value = k; truth = b }) → walk.start_word w ≡ Some (record { value = n; truth = truth }) =
    λ u k b g e.
    ap walk.start_word g.0 ∙ e
    ∙ ap (λ j. let start : Option Start = Some (record { value = j; truth = b }) in start) (sym g.1)
    ∙ ap (λ c. let start : Option Start = Some (record { value = n; truth = c }) in start) (sym g.2) in
    elim h [
      | inl g ↦ back (codes "true") 1 true g refl
      | inr o ↦ elim o [ inl g ↦ back (codes "false") 0 true g refl | inr g ↦ back (codes "+infinity") _ false g refl ]
    ]

-- the walk gives the declaration, with the place of its word
record IsDeclarationGiven (node : Node) (decl : Decl) : Type 0 where
  at : Place
  gives : walk.declaration_walk node ≡ Ok (record { at = at; decl = decl })

declares_given : (at : Place) (volatile : Bool) (word_at : Place) (w : List ℕ) (value : Node) (decl : Decl) → IsDeclarationOf volatile w value decl → walk.declares at volatile word_at w (walk.declared_start value) ≡ Ok (record { at = word_at; decl = decl })
declares_given at volatile word_at w value decl h =
    ap (walk.declares at volatile word_at w) (start_given value decl.start decl.truth h.start)
    ∙ ap (λ n. let d : Result Declaration ScopeFault = Ok (record { at = word_at; decl = record { name = n; volatile = volatile; start = decl.start; truth = decl.truth } }) in d) (sym h.named)
    ∙ ap (λ v. let d : Result Declaration ScopeFault = Ok (record { at = word_at; decl = record { name = decl.name; volatile = v; start = decl.start; truth = decl.truth } }) in d) (sym h.kept)

declaration_given : (node : Node) (decl : Decl) → Declares node decl → IsDeclarationGiven node decl
declaration_given (list at (more (word word_at w) (more value none))) decl h = record { at = word_at; gives = declares_given at false word_at w value decl h }
declaration_given (list at (more (word head v) (more (word word_at w) (more value none)))) decl h = record {
  at = word_at;
  gives = if_true (bytes_eq v (codes "volatile")) _ _ _ (spells v (codes "volatile") h.0) (declares_given at true word_at w value decl h.1);
}
declaration_given node decl h = absurd h

get_front : {A : Type 0} (xs ys : List A) (i : ℕ) (y : A) → slice_get xs i ≡ Some y → slice_get (xs ++ ys) i ≡ Some y
get_front [] ys i y h = absurd (cc)
get_front (x ∷ xs) ys zero y h = h
get_front (x ∷ xs) ys (suc i) y h = get_front xs ys i y h

get_seam : {A : Type 0} (xs : List A) (x : A) (ys : List A) → slice_get (xs ++ x ∷ ys) (length xs) ≡ Some x
get_seam [] x ys = refl
get_seam (z ∷ xs) x ys = get_seam xs x ys

-- of distinct declarations none has the name of a later one
distinct_new : (xs : List Decl) (x : Decl) (ys : List Decl) → AreDistinct (xs ++ x ∷ ys) → decl_from 0 xs x.name ≡ None
distinct_new xs x ys h =
    nowhere (decl_from 0 xs x.name) _ (decl_found 0 xs x.name) (λ n f.
    let same : f.k ≡ length xs = h f.k (length xs) f.decl x (get_front xs (x ∷ ys) f.k f.decl f.there) (get_seam xs x ys) f.named in
    let below = slice_get_within xs f.k f.decl f.there in
    omega arith)

-- a list of at most 64 items has room in front of each
pub room_test : {A : Type 0} (xs : List A) (x : A) (ys : List A) → length (xs ++ x ∷ ys) ≤ 64 → nat_le 64 (length xs) ≡ false
room_test xs x ys h =
    let n = length-append xs (x ∷ ys) in
    let k : length xs < 64 = omega arith in
    grind (arith, nat_tests)

field_given : (names : Scope) (at : Place) (x : Decl) (ys : List Decl) → IsTrue (is_field_name x.name) → AreDistinct (names.fields ++ x ∷ ys) → length (names.fields ++ x ∷ ys) ≤ 64 → walk.field_walk names (record { at = at; decl = x }) ≡ Ok (walk.with_field names x)
field_given names at x ys right distinct few =
    if_false (not (is_field_name x.name)) _ _ _ (ap not right)
    (if_false (is_some (decl_from 0 names.fields x.name)) _ _ _ (ap is_some (distinct_new names.fields x ys distinct))
    (if_false (nat_le 64 (length names.fields)) _ _ _ (room_test names.fields x ys few) refl))

control_given : (names : Scope) (at : Place) (x : Decl) (ys : List Decl) → IsTrue (is_control_name x.name) → AreDistinct (names.controls ++ x ∷ ys) → length (names.controls ++ x ∷ ys) ≤ 64 → walk.control_walk names (record { at = at; decl = x }) ≡ Ok (walk.with_control names x)
control_given names at x ys right distinct few =
    if_false (not (is_control_name x.name)) _ _ _ (ap not right)
    (if_false (is_some (decl_from 0 names.controls x.name)) _ _ _ (ap is_some (distinct_new names.controls x ys distinct))
    (if_false (nat_le 64 (length names.controls)) _ _ _ (room_test names.controls x ys few) refl))

abbrev with_fields : Scope → List Decl → Scope
with_fields names fields = record { fields = fields; controls = names.controls; locals = names.locals }

fields_given : (names : Scope) (nodes : Nodes) (fresh : List Decl) → AreFields nodes fresh → AreDistinct (names.fields ++ fresh) → length (names.fields ++ fresh) ≤ 64 → walk.fields_walk names nodes ≡ Ok (with_fields names (names.fields ++ fresh))
fields_given names none [] h distinct few = ap (λ ds. Ok (with_fields names ds)) (sym (append-nil names.fields))
fields_given names none (x ∷ xs) h distinct few = absurd h
fields_given names (more node rest) [] h distinct few = absurd h
fields_given names (more node rest) (x ∷ xs) h distinct few =
    let d = declaration_given node x h.0 in
    let e = append_assoc names.fields (x ∷ []) xs in
    then_given (walk.declaration_walk node) _ (record { at = d.at; decl = x }) _ d.gives
    (then_given (walk.field_walk names (record { at = d.at; decl = x })) _ (walk.with_field names x) _ (field_given names d.at x xs h.1 distinct few)
    (fields_given (walk.with_field names x) rest xs h.2 (subst AreDistinct (sym e) distinct) (subst (λ (ds : List Decl). length ds ≤ 64) (sym e) few)
    ∙ ap (λ ds. Ok (with_fields names ds)) e))

group_given : (declared : walk.Declaring) (node : Node) (fresh : List Decl) → IsGroup node fresh → declared.grouped ≡ false → AreDistinct (declared.names.fields ++ fresh) → length (declared.names.fields ++ fresh) ≤ 64 → walk.part_walk declared node ≡ Ok (record { names = with_fields declared.names (declared.names.fields ++ fresh); grouped = true })
group_given declared (list at (more (word head w) fields)) fresh h first distinct few =
    if_true (bytes_eq w (codes "Report")) _ _ _ (spells w (codes "Report") h.0)
    (if_false declared.grouped _ _ _ first
    (then_given (walk.fields_walk declared.names fields) _ (with_fields declared.names (declared.names.fields ++ fresh)) _ (fields_given declared.names fields fresh h.1 distinct few) refl))
group_given declared (list at none) fresh h first distinct few = absurd h
group_given declared (list at (more (number a n) rest)) fresh h first distinct few = absurd h
group_given declared (list at (more (list a ps) rest)) fresh h first distinct few = absurd h
group_given declared (number at n) fresh h first distinct few = absurd h
group_given declared (word at w) fresh h first distinct few = absurd h

not_report : (w : List ℕ) → IsTrue (is_control_name w) → bytes_eq w (codes "Report") ≡ false
not_report w h =
    elim (bytes_eq w (codes "Report")) as (λ b. bytes_eq w (codes "Report") ≡ b → b ≡ false)
    [ true ↦ λ k. absurd (let f : false ≡ true = ap is_control_name (sym (spelt w (codes "Report") k)) ∙ h in cc) | false ↦ λ k. refl ] refl

-- a declaration of a control variable isn't the group
control_part : (declared : walk.Declaring) (node : Node) (x : Decl) → Declares node x → IsTrue (is_control_name x.name) → walk.part_walk declared node ≡ walk.control_part_walk declared node
control_part declared (list at (more (word word_at w) (more value none))) x h right =
    if_false (bytes_eq w (codes "Report")) _ _ _ (not_report w (ap is_control_name (sym h.named) ∙ right)) refl
control_part declared (list at (more (word head v) (more (word word_at w) (more value none)))) x h right =
    if_false (bytes_eq v (codes "Report")) _ _ _ (ap (λ u. bytes_eq u (codes "Report")) h.0) refl
control_part declared node x h right = absurd h

control_part_given : (declared : walk.Declaring) (node : Node) (x : Decl) (ys : List Decl) → Declares node x → IsTrue (is_control_name x.name) → AreDistinct (declared.names.controls ++ x ∷ ys) → length (declared.names.controls ++ x ∷ ys) ≤ 64 → walk.part_walk declared node ≡ Ok (record { names = walk.with_control declared.names x; grouped = declared.grouped })
control_part_given declared node x ys h right distinct few =
    let d = declaration_given node x h in
    control_part declared node x h right
    ∙ then_given (walk.declaration_walk node) _ (record { at = d.at; decl = x }) _ d.gives
    (then_given (walk.control_walk declared.names (record { at = d.at; decl = x })) _ (walk.with_control declared.names x) _ (control_given declared.names d.at x ys right distinct few) refl)

-- the walk of the parts gives these declarations after those that are there
pub record ArePartsGiven (declared : walk.Declaring) (nodes : Nodes) (fields controls : List Decl) : Type 0 where
  pub grouped : Bool
  pub gives : walk.parts_walk declared nodes ≡ Ok (record { names = record { fields = declared.names.fields ++ fields; controls = declared.names.controls ++ controls; locals = declared.names.locals }; grouped = grouped })

abbrev declaring : Scope → List Decl → List Decl → Bool → Result walk.Declaring ScopeFault
declaring names fields controls grouped = Ok (record { names = record { fields = fields; controls = controls; locals = names.locals }; grouped = grouped })

pub parts_given : (declared : walk.Declaring) (nodes : Nodes) (fields controls : List Decl) → AreParts nodes declared.grouped fields controls → AreDistinct (declared.names.fields ++ fields) → AreDistinct (declared.names.controls ++ controls) → length (declared.names.fields ++ fields) ≤ 64 → length (declared.names.controls ++ controls) ≤ 64 → ArePartsGiven declared nodes fields controls
parts_given declared none fields controls h df dc ff fc = record {
  grouped = declared.grouped;
  gives =
      ap (λ ds. declaring declared.names ds declared.names.controls declared.grouped) (sym (append-nil declared.names.fields) ∙ ap (λ ds. declared.names.fields ++ ds) (sym h.0))
      ∙ ap (λ ds. declaring declared.names (declared.names.fields ++ fields) ds declared.grouped) (sym (append-nil declared.names.controls) ∙ ap (λ ds. declared.names.controls ++ ds) (sym h.1));
}
parts_given declared (more node rest) fields controls h df dc ff fc =
    elim h [
      | inl g ↦
          (let between : walk.Declaring = record { names = with_fields declared.names (declared.names.fields ++ fields); grouped = true } in
          let e = append-nil (declared.names.fields ++ fields) in
          let r = parts_given between rest [] controls g.rest (subst AreDistinct (sym e) df) dc (subst (λ (ds : List Decl). length ds ≤ 64) (sym e) ff) fc in
          record {
            grouped = r.grouped;
            gives =
                then_given (walk.part_walk declared node) _ between _ (group_given declared node fields g.group g.first df ff)
                (r.gives ∙ ap (λ ds. declaring declared.names ds (declared.names.controls ++ controls) r.grouped) e);
          })
      | inr c ↦
          (let between : walk.Declaring = record { names = walk.with_control declared.names c.decl; grouped = declared.grouped } in
          let e = append_assoc declared.names.controls (c.decl ∷ []) c.others in
          let w : declared.names.controls ++ controls ≡ declared.names.controls ++ c.decl ∷ c.others = ap (λ ds. declared.names.controls ++ ds) c.whole in
          let dc' = subst AreDistinct w dc in
          let fc' = subst (λ (ds : List Decl). length ds ≤ 64) w fc in
          let r = parts_given between rest fields c.others c.rest df (subst AreDistinct (sym e) dc') ff (subst (λ (ds : List Decl). length ds ≤ 64) (sym e) fc') in
          record {
            grouped = r.grouped;
            gives =
                then_given (walk.part_walk declared node) _ between _ (control_part_given declared node c.decl c.others c.declared c.allowed dc' fc')
                (r.gives ∙ ap (λ ds. declaring declared.names (declared.names.fields ++ fields) ds r.grouped) (e ∙ sym w));
          })
    ]
