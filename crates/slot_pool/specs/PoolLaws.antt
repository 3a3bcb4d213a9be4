-- What follows from a change of one slot: the new map of the slots that are out, and how many are.
use Rattle.std.proofs.Common.{◌≡◌, ◌≢◌, ℕ, ◌+◌, ◌-◌, ◌<◌, true, false, cond, List, Option, Some, None, is_some, refl, sym, ap, ◌∙◌, inl, inr, arith}
use Rattle.std.proofs.lemmas.Bool.{eq-eqb, ne_eqb, cases_eq, true≢false}
use Rattle.std.specs.Ordering.{eq_by_cmp, nat_cmp}
use Rattle.std.specs.Cmp.{nat_cmp_total, unsigned_tied}
use Rattle.std.specs.FinMap as map
use Rattle.std.specs.FinMap.{nat_cmp-IsAntisymmetric}
use Rattle.slot_pool.specs.Pool.{PoolState, words_at, IsOut, ChangesSlot}

-- a number ties with itself alone
tied : (j k : ℕ) → j ≡ k → eq_by_cmp nat_cmp j k ≡ true
tied j k e = unsigned_tied j k ∙ eq-eqb j k e

untied : (j k : ℕ) → j ≢ k → eq_by_cmp nat_cmp j k ≡ false
untied j k n = unsigned_tied j k ∙ ne_eqb j k n

module _ (m : map.FinMap nat_cmp (List ℕ)) (slot : ℕ) where
  -- what a map has after an insert and after a removal
  pub get-insert_same : (words : List ℕ) → map.get (map.insert m slot words) slot ≡ Some words
  get-insert_same words =
      map.get-insert nat_cmp_total m slot words slot
      ∙ ap (λ b. cond b (Some words) (map.get m slot)) (tied slot slot refl)

  pub get-insert_other : (words : List ℕ) (other : ℕ)
      → other ≢ slot → map.get (map.insert m slot words) other ≡ map.get m other
  get-insert_other words other n =
      map.get-insert nat_cmp_total m slot words other
      ∙ ap (λ b. cond b (Some words) (map.get m other)) (untied other slot n)

  pub get-remove_same : map.get (map.remove m slot) slot ≡ None
  get-remove_same =
      map.get-remove nat_cmp_total m slot slot ∙ ap (λ b. cond b None (map.get m slot)) (tied slot slot refl)

  pub get-remove_other : (other : ℕ) → other ≢ slot → map.get (map.remove m slot) other ≡ map.get m other
  get-remove_other other n =
      map.get-remove nat_cmp_total m slot other ∙ ap (λ b. cond b None (map.get m other)) (untied other slot n)

-- two maps with the same words at a slot, and at all others, are equal
pub same_out : (m n : map.FinMap nat_cmp (List ℕ)) (slot : ℕ)
    → map.get m slot ≡ map.get n slot → ((other : ℕ) → other ≢ slot → map.get m other ≡ map.get n other) → m ≡ n
same_out m n slot at others =
    map.same_map nat_cmp_total nat_cmp-IsAntisymmetric m n (λ q. elim (cases_eq q slot) [
      | inl e ↦ ap (map.get m) e ∙ at ∙ ap (map.get n) (sym e)
      | inr apart ↦ others q apart
    ])

-- the map after a change of one slot
pub out_with : (old new : PoolState) (slot : ℕ) (words : List ℕ)
    → ChangesSlot old new slot (Some words) → new.out ≡ map.insert old.out slot words
out_with old new slot words c =
    same_out new.out (map.insert old.out slot words) slot (c.changed ∙ sym (get-insert_same old.out slot words))
    (λ other n. c.others other n ∙ sym (get-insert_other old.out slot words other n))

pub out_without : (old new : PoolState) (slot : ℕ) → ChangesSlot old new slot None → new.out ≡ map.remove old.out slot
out_without old new slot c =
    same_out new.out (map.remove old.out slot) slot (c.changed ∙ sym (get-remove_same old.out slot))
    (λ other n. c.others other n ∙ sym (get-remove_other old.out slot other n))

-- a map with something at a slot is not empty
pub some_len : (m : map.FinMap nat_cmp (List ℕ)) (slot : ℕ) → is_some (map.get m slot) ≡ true → 0 < map.len m
some_len m slot here =
    elim (cases_eq (map.len m) 0) [
      | inl none ↦
          let e : map.get m slot ≡ None =
          ap (λ n. map.get n slot) (map.empty_of_len m none) ∙ map.get-empty nat_cmp slot in
          absurd (true≢false (sym here ∙ ap is_some e))
      | inr some ↦ omega arith
    ]

-- how many slots are out after one is taken, is written, or is given back
pub len-taken : (old new : PoolState) (slot : ℕ) (words : List ℕ)
    → words_at old slot ≡ None → ChangesSlot old new slot (Some words) → map.len new.out ≡ map.len old.out + 1
len-taken old new slot words free c =
    ap map.len (out_with old new slot words c)
    ∙ map.len-insert nat_cmp_total old.out slot words
    ∙ ap (λ o. cond (is_some o) (map.len old.out) (map.len old.out + 1)) free

pub len-written : (old new : PoolState) (slot : ℕ) (words : List ℕ)
    → IsOut old slot → ChangesSlot old new slot (Some words) → map.len new.out ≡ map.len old.out
len-written old new slot words out c =
    ap map.len (out_with old new slot words c)
    ∙ map.len-insert nat_cmp_total old.out slot words
    ∙ ap (λ b. cond b (map.len old.out) (map.len old.out + 1)) out

pub len-given : (old new : PoolState) (slot : ℕ)
    → IsOut old slot → ChangesSlot old new slot None → map.len new.out + 1 ≡ map.len old.out
len-given old new slot out c =
    let some = some_len old.out slot out in
    let less : map.len new.out ≡ map.len old.out - 1 =
    ap map.len (out_without old new slot c)
    ∙ map.len-remove nat_cmp_total old.out slot
    ∙ ap (λ b. cond b (map.len old.out - 1) (map.len old.out)) out in
    omega arith

-- a slot that is out stays out when another one changes
pub IsOut-kept : (old new : PoolState) (slot other : ℕ) (held : Option (List ℕ))
    → ChangesSlot old new slot held → other ≢ slot → IsOut old other → IsOut new other
IsOut-kept old new slot other held c apart out = ap is_some (c.others other apart) ∙ out

-- a slot that is free is none that is out
pub free_apart : (p : PoolState) (slot other : ℕ) → words_at p slot ≡ None → IsOut p other → other ≢ slot
free_apart p slot other free out same = true≢false (sym out ∙ ap (λ k. is_some (words_at p k)) same ∙ ap is_some free)
