-- A search by hash finds what the walk over the declarations finds.
use Rattle.std.proofs.Common.{◌≡◌, ℕ, suc, ◌+◌, Bool, true, false, not, ◌||◌, refl, List, [], ◌∷◌, ◌++◌, length, Option, Some, None, is_some, cond, nat_lt, if◌then◌else◌, position, bytes_eq, arith, ap, ◌∙◌}
use Rattle.std.proofs.lemmas.Bool.Decides.{nat_tests}
use Rattle.std.specs.Cmp.Lexicographic.{nat_list_eq_equiv}
use Rattle.std.specs.List.{position_or_len, list_any}
use Rattle.portus_core.specs.declared.program.Decl.{Decl}
use Rattle.indexmap.specs.IndexSet.{insert_key}
use Rattle.scope_types.specs.Names.{decl_from}

-- whether the declaration has this name
abbrev pub has_name : List ℕ → Decl → Bool
has_name w d = bytes_eq w d.name

abbrev counted : ℕ → ℕ → ℕ → Option ℕ
counted i n len = cond (nat_lt n len) (Some (i + n)) None

lt_suc : (n len : ℕ) → nat_lt n len ≡ nat_lt (1 + n) (suc len)
lt_suc n len = grind (arith, nat_tests)

counted_suc : (i n len : ℕ) → counted (i + 1) n len ≡ counted i (1 + n) (suc len)
counted_suc i n len =
    ap (λ m. cond (nat_lt n len) (Some m) None) (let e : (i + 1) + n ≡ i + (1 + n) = omega arith in e)
    ∙ ap (λ b. cond b (Some (i + (1 + n))) None) (lt_suc n len)

-- one more declaration at the front, which has the name or not
counted_after : (b : Bool) (i n len : ℕ) (rest : Option ℕ) → rest ≡ counted (i + 1) n len → (if b then Some i else rest) ≡ counted i (cond (not b) (1 + n) 0) (suc len)
counted_after true i n len rest e =
    ap Some (let k : i ≡ i + 0 = omega arith in k)
    ∙ ap (λ b. cond b (Some (i + 0)) None) (let k : true ≡ nat_lt 0 (suc len) = grind (arith, nat_tests) in k)
counted_after false i n len rest e = e ∙ counted_suc i n len

found_from : (i : ℕ) (ds : List Decl) (w : List ℕ) → decl_from i ds w ≡ counted i (position_or_len (has_name w) ds) (length ds)
found_from i [] w = refl
found_from i (d ∷ ds) w =
    ap (λ b. if b then Some i else decl_from (i + 1) ds w) (nat_list_eq_equiv.symm d.name w)
    ∙ counted_after (bytes_eq w d.name) i (position_or_len (has_name w) ds) (length ds) (decl_from (i + 1) ds w) (found_from (i + 1) ds w)

pub found : (ds : List Decl) (w : List ℕ) → decl_from 0 ds w ≡ position (has_name w) ds
found ds w =
    let n = position_or_len (has_name w) ds in
    found_from 0 ds w ∙ ap (λ m. cond (nat_lt n (length ds)) (Some m) None) (let e : 0 + n ≡ n = omega arith in e)

any_after : (b any : Bool) (i : ℕ) (rest : Option ℕ) → any ≡ is_some rest → (b || any) ≡ is_some (if b then Some i else rest)
any_after true any i rest e = refl
any_after false any i rest e = e

any_from : (i : ℕ) (ds : List Decl) (w : List ℕ) → list_any (has_name w) ds ≡ is_some (decl_from i ds w)
any_from i [] w = refl
any_from i (d ∷ ds) w =
    any_after (bytes_eq w d.name) (list_any (has_name w) ds) i (decl_from (i + 1) ds w) (any_from (i + 1) ds w)
    ∙ ap (λ b. is_some (if b then Some i else decl_from (i + 1) ds w)) (nat_list_eq_equiv.symm w d.name)

-- a declaration of a new name goes last
pub inserted : (ds : List Decl) (d : Decl) → decl_from 0 ds d.name ≡ None → insert_key (λ (a b : Decl). bytes_eq a.name b.name) ds d ≡ ds ++ d ∷ []
inserted ds d h = ap (λ b. if b then ds else ds ++ d ∷ []) (any_from 0 ds d.name ∙ ap is_some h)
