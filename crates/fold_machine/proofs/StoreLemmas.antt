-- Two slots of a pool are kept aside: what a change of one of them, or of another slot, leaves.
use Rattle.std.proofs.Common.{◌≡◌, ◌≢◌, ℕ, ◌+◌, ◌-◌, true, List, [], ◌∷◌, ◌++◌, length, take, drop, Option, Some, None, Result, Ok, Err, IfOk, OnOk, is_some, unwrap_or, option_map, slice_set, replicate, refl, sym, ap, ◌∙◌, inl, inr, arith}
use Rattle.std.proofs.lemmas.Bool.{cases_eq}
use Rattle.std.proofs.lemmas.List.{take-append-drop}
use Rattle.std.specs.Ordering.{nat_cmp}
use Rattle.std.specs.Cmp.{nat_cmp_total}
use Rattle.std.specs.FinMap as map
use Rattle.std.specs.FinMap.{nat_cmp-IsAntisymmetric}
use Rattle.slot_pool.specs.Pool.{PoolState, words_at, IsOut, free_of, unused, words_with_one, with_run, words_with_run, ChangesSlot}
use Rattle.slot_pool.specs.PoolLaws.{IsOut-kept, free_apart}
use Rattle.slot_pool.specs.Without.{without, words_at-without_same, words_at-without, without_apart, IsOut-from_without, IsOut-without, free_of-without, ChangesSlot-without, without-changed}
use Rattle.fold_machine.specs.Store.{StoreState, words_in, further_of, store_of, fresh_store, IsOwned, slot_words}

mapped-some : (held : Option (List ℕ)) (f : List ℕ → List ℕ) → is_some held ≡ true → unwrap_or (option_map f held) [] ≡ f (unwrap_or held [])
mapped-some (Some words) f out = refl
mapped-some None f out = cc

words_in-written : (p q : PoolState) (a : ℕ) (f : List ℕ → List ℕ) → IsOut p a → ChangesSlot p q a (option_map f (words_at p a)) → words_in q a ≡ f (words_in p a)
words_in-written p q a f out ch = ap (λ o. unwrap_or o []) ch.changed ∙ mapped-some (words_at p a) f out

words_in-other : (p q : PoolState) (s a : ℕ) (held : Option (List ℕ)) → a ≢ s → ChangesSlot p q s held → words_in q a ≡ words_in p a
words_in-other p q s a held apart ch = ap (λ o. unwrap_or o []) (ch.others a apart)

flip : (a b : ℕ) → a ≢ b → b ≢ a
flip a b apart = λ e. apart (sym e)

-- a change of a slot that is kept aside
further-first : (p q : PoolState) (a b : ℕ) (held : Option (List ℕ)) → ChangesSlot p q a held → further_of q a b ≡ further_of p a b
further-first p q a b held ch = ap (λ r. without r b) (without-changed p q a held ch)

further-second : (p q : PoolState) (a b : ℕ) (held : Option (List ℕ)) → b ≢ a → ChangesSlot p q b held → further_of q a b ≡ further_of p a b
further-second p q a b held apart ch = without-changed (without p a) (without q a) b held (ChangesSlot-without p q a b held apart ch)

-- a run of no words changes nothing
pub run-nothing : (words : List ℕ) (at : ℕ) (run : List ℕ) → length run ≡ 0 → with_run words at run ≡ words
run-nothing words at [] none = ap (λ n. take at words ++ drop n words) (let e : at + 0 ≡ at = omega arith in e) ∙ take-append-drop at words
run-nothing words at (word ∷ run) none = absurd (omega arith)

pub registers-written : (p q : PoolState) (a b : ℕ) (f : List ℕ → List ℕ) (old : StoreState) → IsOwned p a b → store_of p a b ≡ old → ChangesSlot p q a (option_map f (words_at p a)) → store_of q a b ≡ record old { registers = f old.registers }
registers-written p q a b f old owned seen ch =
    let held : Option (List ℕ) = option_map f (words_at p a) in
    let e : store_of q a b ≡ record (store_of p a b) { registers = f (words_in p a) } = λ i. record {
      registers = words_in-written p q a f owned.first ch i;
      report = words_in-other p q a b held owned.apart ch i;
      further = further-first p q a b held ch i;
    } in
    e ∙ ap (λ (s : StoreState). record s { registers = f s.registers }) seen

pub report-written : (p q : PoolState) (a b : ℕ) (f : List ℕ → List ℕ) (old : StoreState) → IsOwned p a b → store_of p a b ≡ old → ChangesSlot p q b (option_map f (words_at p b)) → store_of q a b ≡ record old { report = f old.report }
report-written p q a b f old owned seen ch =
    let held : Option (List ℕ) = option_map f (words_at p b) in
    let e : store_of q a b ≡ record (store_of p a b) { report = f (words_in p b) } = λ i. record {
      registers = words_in-other p q b a held (flip b a owned.apart) ch i;
      report = words_in-written p q b f owned.second ch i;
      further = further-second p q a b held owned.apart ch i;
    } in
    e ∙ ap (λ (s : StoreState). record s { report = f s.report }) seen

-- a slot that is neither of the two
pub record IsApart (a b s : ℕ) : Type 0 where
  pub first : s ≢ a
  pub second : s ≢ b

pub further_apart : (p : PoolState) (a b s : ℕ) → IsOut (further_of p a b) s → IsApart a b s
further_apart p a b s out =
    let one : IsOut (without p a) s = IsOut-from_without (without p a) b s out in
    record { first = without_apart p a s one; second = without_apart (without p a) b s out }

pub further_out : (p : PoolState) (a b s : ℕ) → IsOut (further_of p a b) s → IsOut p s
further_out p a b s out = IsOut-from_without p a s (IsOut-from_without (without p a) b s out)

pub IsOut-further : (p : PoolState) (a b s : ℕ) → IsApart a b s → IsOut p s → IsOut (further_of p a b) s
IsOut-further p a b s apart out = IsOut-without (without p a) b s apart.second (IsOut-without p a s apart.first out)

-- a slot that is free is none that is out
pub free_slot : (p : PoolState) (a b s : ℕ) → IsOwned p a b → words_at p s ≡ None → IsApart a b s
free_slot p a b s owned free = record {
  first = flip a s (free_apart p s a free owned.first);
  second = flip b s (free_apart p s b free owned.second);
}

pub words_at-further : (p : PoolState) (a b s : ℕ) → IsApart a b s → words_at (further_of p a b) s ≡ words_at p s
words_at-further p a b s apart = words_at-without (without p a) b s apart.second ∙ words_at-without p a s apart.first

pub with_word-further : (p : PoolState) (a b s at word : ℕ) → IsApart a b s → words_with_one (further_of p a b) s at word ≡ words_with_one p s at word
with_word-further p a b s at word apart = ap (option_map (λ words. slice_set words at word)) (words_at-further p a b s apart)

pub run-further : (p : PoolState) (a b s at : ℕ) (run : List ℕ) → IsApart a b s → words_with_run (further_of p a b) s at run ≡ words_with_run p s at run
run-further p a b s at run apart = ap (option_map (λ words. with_run words at run)) (words_at-further p a b s apart)

pub free_of-further : (p : PoolState) (a b : ℕ) → IsOwned p a b → free_of (further_of p a b) ≡ free_of p
free_of-further p a b owned = free_of-without (without p a) b (IsOut-without p a b owned.apart owned.second) ∙ free_of-without p a owned.first

-- a change of another slot
pub further-changes : (p q : PoolState) (a b s : ℕ) (held : Option (List ℕ)) → IsApart a b s → ChangesSlot p q s held → ChangesSlot (further_of p a b) (further_of q a b) s held
further-changes p q a b s held apart ch =
    ChangesSlot-without (without p a) (without q a) b s held apart.second (ChangesSlot-without p q a s held apart.first ch)

pub IsOwned-kept : (p q : PoolState) (a b s : ℕ) (held : Option (List ℕ)) → IsOwned p a b → IsApart a b s → ChangesSlot p q s held → IsOwned q a b
IsOwned-kept p q a b s held owned apart ch = record {
  first = IsOut-kept p q s a held ch (flip s a apart.first) owned.first;
  second = IsOut-kept p q s b held ch (flip s b apart.second) owned.second;
  apart = owned.apart;
  words = ch.words ∙ owned.words;
}

pub own-kept : (p q : PoolState) (a b s : ℕ) (held : Option (List ℕ)) (old : StoreState) → store_of p a b ≡ old → IsApart a b s → ChangesSlot p q s held → store_of q a b ≡ record old { further = further_of q a b }
own-kept p q a b s held old seen apart ch =
    let e : store_of q a b ≡ record (store_of p a b) { further = further_of q a b } = λ i. record {
      registers = words_in-other p q s a held (flip s a apart.first) ch i;
      report = words_in-other p q s b held (flip s b apart.second) ch i;
      further = further_of q a b;
    } in
    e ∙ ap (λ (s : StoreState). record s { further = further_of q a b }) seen

-- what holds of what a call answered with, if it answered so
pub IfOk-with : {A E : Type 0} (r : Result A E) (P Q R : A → Type 0) → IfOk r P → IfOk r Q → ((x : A) → P x → Q x → R x) → IfOk r R
IfOk-with (Ok x) P Q R p q both = both x p q
IfOk-with (Err e) P Q R p q both = tt

pub OnOk-with : {A E : Type 0} (r : Result A E) (P : A → Type 0) (Q R : Type 0) → IfOk r P → OnOk r Q → ((x : A) → P x → Q → R) → OnOk r R
OnOk-with (Ok x) P Q R p q both = both x p q
OnOk-with (Err e) P Q R p q both = tt

-- two slots were taken, one after another
module _ (slots : ℕ) (p q r : PoolState) (a b : ℕ) (zeros : List ℕ)
    (begins : p ≡ unused (slots + 2) slot_words) (zero : zeros ≡ replicate slot_words 0)
    (free_a : words_at p a ≡ None) (took_a : ChangesSlot p q a (Some zeros))
    (free_b : words_at q b ≡ None) (took_b : ChangesSlot q r b (Some zeros)) where
  out_a : IsOut q a
  out_a = ap is_some took_a.changed

  apart_b : b ≢ a
  apart_b = flip a b (free_apart q b a free_b out_a)

  pub IsOwned-taken : IsOwned r a b
  IsOwned-taken = record {
    first = IsOut-kept q r b a (Some zeros) took_b (flip b a apart_b) out_a;
    second = ap is_some took_b.changed;
    apart = apart_b;
    words = took_b.words ∙ took_a.words ∙ ap (λ (t : PoolState). t.words) begins;
  }

  none_left : (n : ℕ) → words_at (further_of r a b) n ≡ None
  none_left n =
      elim (cases_eq n b) [
        | inl is ↦ ap (words_at (further_of r a b)) is ∙ words_at-without_same (without r a) b
        | inr away ↦ words_at-without (without r a) b n away ∙ elim (cases_eq n a) [
          | inl is ↦ ap (words_at (without r a)) is ∙ words_at-without_same r a
          | inr off ↦
              words_at-without r a n off
              ∙ took_b.others n away
              ∙ took_a.others n off
              ∙ ap (λ t. words_at t n) begins
              ∙ map.get-empty nat_cmp n
        ]
      ]

  none_out : (further_of r a b).out ≡ map.empty
  none_out = map.same_map nat_cmp_total nat_cmp-IsAntisymmetric (further_of r a b).out map.empty (λ n. none_left n ∙ sym (map.get-empty nat_cmp n))

  slots_left : r.slots - 1 - 1 ≡ slots
  slots_left = let e : r.slots ≡ slots + 2 = took_b.slots ∙ took_a.slots ∙ ap (λ (t : PoolState). t.slots) begins in omega arith

  zeros_at : (n : ℕ) → words_at r n ≡ Some zeros → words_in r n ≡ replicate slot_words 0
  zeros_at n e = ap (λ o. unwrap_or o []) e ∙ zero

  pub fresh-taken : store_of r a b ≡ fresh_store slots
  fresh-taken = λ i. record {
    registers = zeros_at a (took_b.others a (flip b a apart_b) ∙ took_a.changed) i;
    report = zeros_at b took_b.changed i;
    further = record { slots = slots_left i; words = IsOwned-taken.words i; out = none_out i };
  }
