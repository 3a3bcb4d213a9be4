-- The list of free slots, and the slots that are out, when the words of one slot change.
use Rattle.std.proofs.Common.{◌≡◌, ◌≢◌, ℕ, zero, suc, ◌+◌, ◌<◌, ◌≤◌, Bool, true, false, cond, ◌||◌, List, ◌∷◌, get_or, Option, Some, None, is_some, nat_eq, nat_lt, refl, sym, ap, ◌∙◌, subst, inl, inr, arith}
use Rattle.std.proofs.lemmas.Bool.{cond-true, or_parts, or_left, or_right, or_from, eqb-false, eq-eqb, ne_eqb, lt-ltb, le-ltb, ltb-true, cases_eq, cases_lt, true≢false}
use Rattle.std.specs.List.{range_with_len}
use Rattle.std.specs.Ordering.{nat_cmp}
use Rattle.std.specs.FinMap as map
use Rattle.slot_pool.specs.Pool.{words_at, ChangesSlot}
use Rattle.slot_pool.specs.PoolLaws.{get-insert_same, get-insert_other, len-taken, len-given, len-written}
use Rattle.slot_pool.specs.FreeList.{free_slots, is_among, slots_out, AreBelow, AreApart, pool_of, IsLinked}

-- what the slots that are out have at a slot: whether it is below the number of slots, whether it is free
abbrev pub held : Bool → Bool → List ℕ → Option (List ℕ)
held false free words = None
held true true words = None
held true false words = Some words

pub held_parts : (inside free : Bool) (words : List ℕ) → is_some (held inside free words) ≡ true → (inside ≡ true) × (free ≡ false)
held_parts false free words h = absurd (true≢false (sym h))
held_parts true true words h = absurd (true≢false (sym h))
held_parts true false words h = (refl, refl)

held_free : (inside free : Bool) (words : List ℕ) → free ≡ true → held inside free words ≡ None
held_free false free words e = refl
held_free true true words e = refl
held_free true false words e = absurd (true≢false (sym e))

-- a number is below the next one if it is below this one, or is this one
ltb-suc : (q n : ℕ) → q ≢ n → nat_lt q n ≡ nat_lt q (suc n)
ltb-suc q n apart =
    elim (cases_lt q n) [
      | inl below ↦ lt-ltb q n below ∙ sym (lt-ltb q (suc n) (omega arith))
      | inr above ↦ le-ltb q n above ∙ sym (le-ltb q (suc n) (omega arith))
    ]

-- one more slot
slots_out_more : (words_of : ℕ → List ℕ) (free : List ℕ) (n q : ℕ) (b : Bool) → is_among n free ≡ b → map.get (slots_out words_of free n) q ≡ held (nat_lt q n) (is_among q free) (words_of q) → map.get (cond b (slots_out words_of free n) (map.insert (slots_out words_of free n) n (words_of n))) q ≡ held (nat_lt q (suc n)) (is_among q free) (words_of q)
slots_out_more words_of free n q true is so_far =
    elim (cases_eq q n) [
      | inl e ↦
          let among : is_among q free ≡ true = ap (λ k. is_among k free) e ∙ is in
          so_far ∙ held_free _ _ _ among ∙ sym (held_free (nat_lt q (suc n)) (is_among q free) (words_of q) among)
      | inr apart ↦ so_far ∙ ap (λ b. held b (is_among q free) (words_of q)) (ltb-suc q n apart)
    ]
slots_out_more words_of free n q false is so_far =
    elim (cases_eq q n) [
      | inl e ↦
          let inside : nat_lt q (suc n) ≡ true = lt-ltb q (suc n) (omega arith) in
          let lacks : is_among q free ≡ false = ap (λ k. is_among k free) e ∙ is in
          ap (map.get (map.insert (slots_out words_of free n) n (words_of n))) e
          ∙ get-insert_same (slots_out words_of free n) n (words_of n)
          ∙ ap (λ k. Some (words_of k)) (sym e)
          ∙ sym (ap (λ b. held b (is_among q free) (words_of q)) inside ∙ ap (λ b. held true b (words_of q)) lacks)
      | inr apart ↦
          get-insert_other (slots_out words_of free n) n (words_of n) q apart
          ∙ so_far
          ∙ ap (λ b. held b (is_among q free) (words_of q)) (ltb-suc q n apart)
    ]

pub get-slots_out : (words_of : ℕ → List ℕ) (free : List ℕ) (n q : ℕ) → map.get (slots_out words_of free n) q ≡ held (nat_lt q n) (is_among q free) (words_of q)
get-slots_out words_of free zero q = map.get-empty nat_cmp q ∙ ap (λ b. held b (is_among q free) (words_of q)) (sym (le-ltb q zero (omega arith)))
get-slots_out words_of free (suc n) q = slots_out_more words_of free n q (is_among n free) refl (get-slots_out words_of free n q)

-- a change of a slot that is not free leaves the list of free slots
pub free_slots-changed : (words_of now : ℕ → List ℕ) (slot first count : ℕ) → ((other : ℕ) → other ≢ slot → now other ≡ words_of other) → is_among slot (free_slots words_of first count) ≡ false → free_slots now first count ≡ free_slots words_of first count
free_slots-changed words_of now slot first zero same lacks = refl
free_slots-changed words_of now slot first (suc count) same lacks =
    let parts = or_parts (nat_eq slot first) (is_among slot (free_slots words_of (get_or (words_of first) 0 0) count)) lacks in
    let apart : first ≢ slot = λ e. eqb-false slot first parts.0 (sym e) in
    let next : get_or (now first) 0 0 ≡ get_or (words_of first) 0 0 = ap (λ words. get_or words 0 0) (same first apart) in
    ap (λ k. first ∷ free_slots now k count) next ∙ ap (λ slots. first ∷ slots) (free_slots-changed words_of now slot _ count same parts.1)

-- a slot that keeps its words, and stays free or out, is as before
others_stay : (words_of now : ℕ → List ℕ) (before after : List ℕ) (slots other : ℕ) → now other ≡ words_of other → is_among other after ≡ is_among other before → map.get (slots_out now after slots) other ≡ map.get (slots_out words_of before slots) other
others_stay words_of now before after slots other same among =
    get-slots_out now after slots other
    ∙ ap (λ b. held (nat_lt other slots) b (now other)) among
    ∙ ap (held (nat_lt other slots) (is_among other before)) same
    ∙ sym (get-slots_out words_of before slots other)

-- another slot is in a longer list if it is in the shorter one
among_cons : (slot other : ℕ) (free : List ℕ) → other ≢ slot → is_among other (slot ∷ free) ≡ is_among other free
among_cons slot other free apart = ap (λ b. b || is_among other free) (ne_eqb other slot apart)

among_head : (slot : ℕ) (free : List ℕ) → is_among slot (slot ∷ free) ≡ true
among_head slot free = or_left (nat_eq slot slot) (is_among slot free) (eq-eqb slot slot refl)

-- a slot that is out is below the number of slots, and not free
pub out_parts : (words_of : ℕ → List ℕ) (slots words first free slot : ℕ) → is_some (words_at (pool_of words_of slots words first free) slot) ≡ true → (slot < slots) × (is_among slot (free_slots words_of first free) ≡ false)
out_parts words_of slots words first free slot out =
    let parts = held_parts _ _ (words_of slot) (sym (ap is_some (get-slots_out words_of (free_slots words_of first free) slots slot)) ∙ out) in
    (ltb-true slot slots parts.0, parts.1)

-- a slot that is below the number of slots, and not free, has its words
out_words : (words_of : ℕ → List ℕ) (free : List ℕ) (slots slot : ℕ) → slot < slots → is_among slot free ≡ false → map.get (slots_out words_of free slots) slot ≡ Some (words_of slot)
out_words words_of free slots slot inside lacks =
    get-slots_out words_of free slots slot
    ∙ ap (λ b. held b (is_among slot free) (words_of slot)) (lt-ltb slot slots inside)
    ∙ ap (λ b. held true b (words_of slot)) lacks

pub words_at_out : (words_of : ℕ → List ℕ) (slots words first free slot : ℕ) → is_some (words_at (pool_of words_of slots words first free) slot) ≡ true → words_at (pool_of words_of slots words first free) slot ≡ Some (words_of slot)
words_at_out words_of slots words first free slot out =
    let parts = out_parts words_of slots words first free slot out in
    out_words words_of (free_slots words_of first free) slots slot parts.0 parts.1

-- the first free slot is taken: the list continues with the next one
module _ (words_of now : ℕ → List ℕ) (slots words first count : ℕ) (linked : IsLinked words_of slots words first (suc count)) (same : (other : ℕ) → other ≢ first → now other ≡ words_of other) where
  abbrev taken_next : ℕ
  taken_next = get_or (words_of first) 0 0

  taken_list : free_slots now taken_next count ≡ free_slots words_of taken_next count
  taken_list = free_slots-changed words_of now first taken_next count same linked.apart.0

  pub taken_was_free : words_at (pool_of words_of slots words first (suc count)) first ≡ None
  taken_was_free =
      get-slots_out words_of (free_slots words_of first (suc count)) slots first
      ∙ held_free _ _ _ (among_head first (free_slots words_of taken_next count))

  pub taken_changes : ChangesSlot (pool_of words_of slots words first (suc count)) (pool_of now slots words taken_next count) first (Some (now first))
  taken_changes = record {
    changed = out_words now (free_slots now taken_next count) slots first linked.below.0 (ap (is_among first) taken_list ∙ linked.apart.0);
    others = λ other apart. others_stay words_of now (free_slots words_of first (suc count)) (free_slots now taken_next count) slots other (same other apart) (ap (is_among other) taken_list ∙ sym (among_cons first other (free_slots words_of taken_next count) apart));
    slots = refl;
    words = refl;
  }

  pub taken_stays_linked : IsLinked now slots words taken_next count
  taken_stays_linked =
      let len = len-taken _ _ first (now first) taken_was_free taken_changes in
      let before = linked.counted in
      record {
        below = subst (AreBelow slots) (sym taken_list) linked.below.1;
        apart = subst AreApart (sym taken_list) linked.apart.1;
        counted = omega arith;
      }

-- a slot that is out is given back: it is the first of the list
module _ (words_of now : ℕ → List ℕ) (slots words first count : ℕ) (slot : ℕ) (linked : IsLinked words_of slots words first count) (out : is_some (words_at (pool_of words_of slots words first count) slot) ≡ true) (same : (other : ℕ) → other ≢ slot → now other ≡ words_of other) (link : get_or (now slot) 0 0 ≡ first) where
  given_parts : (slot < slots) × (is_among slot (free_slots words_of first count) ≡ false)
  given_parts = out_parts words_of slots words first count slot out

  given_list : free_slots now slot (suc count) ≡ slot ∷ free_slots words_of first count
  given_list =
      ap (λ k. slot ∷ free_slots now k count) link
      ∙ ap (λ rest. slot ∷ rest) (free_slots-changed words_of now slot first count same given_parts.1)

  pub given_changes : ChangesSlot (pool_of words_of slots words first count) (pool_of now slots words slot (suc count)) slot None
  given_changes = record {
    changed =
        get-slots_out now (free_slots now slot (suc count)) slots slot
        ∙ held_free _ _ _ (among_head slot (free_slots now (get_or (now slot) 0 0) count));
    others = λ other apart. others_stay words_of now (free_slots words_of first count) (free_slots now slot (suc count)) slots other (same other apart) (ap (is_among other) given_list ∙ among_cons slot other (free_slots words_of first count) apart);
    slots = refl;
    words = refl;
  }

  pub given_stays_linked : IsLinked now slots words slot (suc count)
  given_stays_linked =
      let len = len-given _ _ slot out given_changes in
      let before = linked.counted in
      record {
        below = subst (AreBelow slots) (sym given_list) (given_parts.0, linked.below);
        apart = subst AreApart (sym given_list) (given_parts.1, linked.apart);
        counted = omega arith;
      }

-- a word of a slot that is out is written
module _ (words_of now : ℕ → List ℕ) (slots words first count : ℕ) (slot : ℕ) (linked : IsLinked words_of slots words first count) (out : is_some (words_at (pool_of words_of slots words first count) slot) ≡ true) (same : (other : ℕ) → other ≢ slot → now other ≡ words_of other) where
  written_parts : (slot < slots) × (is_among slot (free_slots words_of first count) ≡ false)
  written_parts = out_parts words_of slots words first count slot out

  written_list : free_slots now first count ≡ free_slots words_of first count
  written_list = free_slots-changed words_of now slot first count same written_parts.1

  pub written_changes : ChangesSlot (pool_of words_of slots words first count) (pool_of now slots words first count) slot (Some (now slot))
  written_changes = record {
    changed = out_words now (free_slots now first count) slots slot written_parts.0 (ap (is_among slot) written_list ∙ written_parts.1);
    others = λ other apart. others_stay words_of now (free_slots words_of first count) (free_slots now first count) slots other (same other apart) (ap (is_among other) written_list);
    slots = refl;
    words = refl;
  }

  pub written_stays_linked : IsLinked now slots words first count
  written_stays_linked =
      let len = len-written _ _ slot (now slot) out written_changes in
      let before = linked.counted in
      record {
        below = subst (AreBelow slots) (sym written_list) linked.below;
        apart = subst AreApart (sym written_list) linked.apart;
        counted = omega arith;
      }

-- a list of consecutive slots
among_range : (slot a n : ℕ) → a ≤ slot → slot < a + n → is_among slot (range_with_len a n) ≡ true
among_range slot a zero low high = absurd (omega arith)
among_range slot a (suc n) low high =
    elim (cases_eq slot a) [
      | inl e ↦ or_left (nat_eq slot a) _ (eq-eqb slot a e)
      | inr apart ↦ or_right (nat_eq slot a) _ (among_range slot (a + 1) n (omega arith) (omega arith))
    ]

below_range : (slot a n : ℕ) → slot < a → is_among slot (range_with_len a n) ≡ false
below_range slot a zero low = refl
below_range slot a (suc n) low = or_from (nat_eq slot a) _ (ne_eqb slot a (λ e. omega arith)) (below_range slot (a + 1) n (omega arith))

AreBelow-range : (limit a n : ℕ) → a + n ≤ limit → AreBelow limit (range_with_len a n)
AreBelow-range limit a zero h = tt
AreBelow-range limit a (suc n) h = (omega arith, AreBelow-range limit (a + 1) n (omega arith))

AreApart-range : (a n : ℕ) → AreApart (range_with_len a n)
AreApart-range a zero = tt
AreApart-range a (suc n) = (below_range a (a + 1) n (omega arith), AreApart-range (a + 1) n)

-- if each slot links to the next one, the list has them in order
free_slots-range : (words_of : ℕ → List ℕ) (a n : ℕ) → ((slot : ℕ) → a ≤ slot → slot < a + n → get_or (words_of slot) 0 0 ≡ slot + 1) → free_slots words_of a n ≡ range_with_len a n
free_slots-range words_of a zero links = refl
free_slots-range words_of a (suc n) links =
    ap (λ k. a ∷ free_slots words_of k n) (links a (omega arith) (omega arith))
    ∙ ap (λ slots. a ∷ slots) (free_slots-range words_of (a + 1) n (λ slot low high. links slot (omega arith) (omega arith)))

-- if all slots are free, none is out
slots_out_none : (words_of : ℕ → List ℕ) (free : List ℕ) (n : ℕ) → ((slot : ℕ) → slot < n → is_among slot free ≡ true) → slots_out words_of free n ≡ map.empty
slots_out_none words_of free zero all = refl
slots_out_none words_of free (suc n) all =
    cond-true (is_among n free) _ _ (all n (omega arith)) ∙ slots_out_none words_of free n (λ slot h. all slot (omega arith))

module _ (words_of : ℕ → List ℕ) (slots : ℕ) (links : (slot : ℕ) → slot < slots → get_or (words_of slot) 0 0 ≡ slot + 1) where
  all_free : free_slots words_of 0 slots ≡ range_with_len 0 slots
  all_free = free_slots-range words_of 0 slots (λ slot low high. links slot (omega arith))

  pub all_unused : slots_out words_of (free_slots words_of 0 slots) slots ≡ map.empty
  all_unused =
      slots_out_none words_of (free_slots words_of 0 slots) slots
      (λ slot h. ap (is_among slot) all_free ∙ among_range slot 0 slots (omega arith) (omega arith))

pub all_linked : (words_of : ℕ → List ℕ) (slots words : ℕ) → ((slot : ℕ) → slot < slots → get_or (words_of slot) 0 0 ≡ slot + 1) → IsLinked words_of slots words 0 slots
all_linked words_of slots words links =
    let none : map.len (slots_out words_of (free_slots words_of 0 slots) slots) ≡ 0 = ap map.len (all_unused words_of slots links) ∙ map.len-empty nat_cmp (List ℕ) in
    record {
      below = subst (AreBelow slots) (sym (all_free words_of slots links)) (AreBelow-range slots 0 slots (omega arith));
      apart = subst AreApart (sym (all_free words_of slots links)) (AreApart-range 0 slots);
      counted = omega arith;
    }
