-- A pool of which its holder keeps one slot aside and hands out the others.
use Rattle.std.proofs.Common.{◌≡◌, ◌≢◌, ℕ, ◌-◌, List, Option, None, is_some, cond, sym, ap, ◌∙◌, inl, inr, arith}
use Rattle.std.proofs.lemmas.Bool.{cases_eq, true≢false}
use Rattle.std.specs.Cmp.{nat_cmp_total}
use Rattle.std.specs.FinMap as map
use Rattle.slot_pool.specs.Pool.{PoolState, words_at, IsOut, free_of, ChangesSlot}
use Rattle.slot_pool.specs.PoolLaws.{get-remove_same, get-remove_other, same_out, some_len}

-- the pool without a slot that is out
abbrev pub without : PoolState → ℕ → PoolState
without p own = record { slots = p.slots - 1; words = p.words; out = map.remove p.out own }

module _ (p : PoolState) (own : ℕ) where
  pub words_at-without_same : words_at (without p own) own ≡ None
  words_at-without_same = get-remove_same p.out own

  pub words_at-without : (slot : ℕ) → slot ≢ own → words_at (without p own) slot ≡ words_at p slot
  words_at-without slot apart = get-remove_other p.out own slot apart

  -- what is out there is another slot, and is out in the pool
  pub without_apart : (slot : ℕ) → IsOut (without p own) slot → slot ≢ own
  without_apart slot out same =
      true≢false (sym out ∙ ap (λ k. is_some (words_at (without p own) k)) same ∙ ap is_some words_at-without_same)

  pub IsOut-from_without : (slot : ℕ) → IsOut (without p own) slot → IsOut p slot
  IsOut-from_without slot out = ap is_some (sym (words_at-without slot (without_apart slot out))) ∙ out

  pub IsOut-without : (slot : ℕ) → slot ≢ own → IsOut p slot → IsOut (without p own) slot
  IsOut-without slot apart out = ap is_some (words_at-without slot apart) ∙ out

  -- as many slots are free
  pub free_of-without : IsOut p own → free_of (without p own) ≡ free_of p
  free_of-without out =
      let some = some_len p.out own out in
      let less : map.len (map.remove p.out own) ≡ map.len p.out - 1 =
      map.len-remove nat_cmp_total p.out own ∙ ap (λ b. cond b (map.len p.out - 1) (map.len p.out)) out in
      omega arith

module _ (old new : PoolState) (own slot : ℕ) (held : Option (List ℕ)) where
  -- a change of another slot is one there
  pub ChangesSlot-without : slot ≢ own
      → ChangesSlot old new slot held
      → ChangesSlot (without old own) (without new own) slot held
  ChangesSlot-without apart c = record {
    changed = words_at-without new own slot apart ∙ c.changed;
    others = λ other away. elim (cases_eq other own) [
      | inl same ↦
          ap (words_at (without new own)) same
          ∙ words_at-without_same new own
          ∙ sym (ap (words_at (without old own)) same ∙ words_at-without_same old own)
      | inr far ↦ words_at-without new own other far ∙ c.others other away ∙ sym (words_at-without old own other far)
    ];
    slots = ap (λ n. n - 1) c.slots;
    words = c.words;
  }

-- a change of the slot that is kept aside leaves the others
pub without-changed : (old new : PoolState) (own : ℕ) (held : Option (List ℕ))
    → ChangesSlot old new own held → without new own ≡ without old own
without-changed old new own held c =
    let out : map.remove new.out own ≡ map.remove old.out own =
    same_out (map.remove new.out own) (map.remove old.out own) own
    (get-remove_same new.out own ∙ sym (get-remove_same old.out own))
    (λ other apart.
    get-remove_other new.out own other apart ∙ c.others other apart ∙ sym (get-remove_other old.out own other apart)) in
    λ i. record { slots = c.slots i - 1; words = c.words i; out = out i }
