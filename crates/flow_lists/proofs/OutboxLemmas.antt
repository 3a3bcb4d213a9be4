-- Waiting reports and their slots while a slot is taken or given back.
use Rattle.std.proofs.Common.{◌≡◌, ◌≢◌, ℕ, ◌-◌, ◌<◌, List, [], ◌∷◌, ◌++◌, drop, slice_get, Option, Some, None, IsSome, option_map, length, take, refl, ap, sym, ◌∙◌, subst, arith, length-append}
use Rattle.circular_buffer.specs.Buffer.{Buffer, buffer, keep_last}
use Rattle.ccp_base.specs.declared.exchange.Report.{Report}
use Rattle.slot_pool.specs.Pool.{PoolState, words_at, IsOut, ChangesSlot}
use Rattle.slot_pool.specs.PoolLaws.{IsOut-kept, free_apart}
use Rattle.flow_lists.specs.Outbox.{OutboxState, report_words, Stores, AreStored, AreOther, AreOwned, Lies}

-- ---- the slots, while another one changes

module _ (old new : PoolState) (slot : ℕ) (stored : Option (List ℕ)) (c : ChangesSlot old new slot stored) where
  pub AreOwned-kept : (slots : List ℕ) → AreOther slot slots → AreOwned old slots → AreOwned new slots
  AreOwned-kept [] apart owned = tt
  AreOwned-kept (x ∷ xs) apart owned =
      (IsOut-kept old new slot x stored c apart.0 owned.0, (owned.1.0, AreOwned-kept xs apart.1 owned.1.1))

  pub AreStored-kept : (slots : List ℕ) (reports : List Report) → AreOther slot slots → AreStored old slots reports → AreStored new slots reports
  AreStored-kept [] [] apart h = tt
  AreStored-kept (x ∷ xs) (report ∷ reports) apart h =
      (record { begins = ap (option_map (take (length (report_words report)))) (c.others x apart.0) ∙ h.0.begins; in_range = h.0.in_range }, AreStored-kept xs reports apart.1 h.1)
  AreStored-kept [] (report ∷ reports) apart h = h
  AreStored-kept (x ∷ xs) [] apart h = h

-- a slot that holds a report is out
Stores-out : (pool : PoolState) (slot : ℕ) (report : Report) → Stores pool slot report → IsOut pool slot
Stores-out pool slot report holds = some_mapped (words_at pool slot) holds.begins where
  some_mapped : (o : Option (List ℕ)) → option_map (take (length (report_words report))) o ≡ Some (report_words report) → IsSome o
  some_mapped None e = cc
  some_mapped (Some words) e = refl

-- ---- a slot is taken

-- a slot that was free is none of those that are out
AreOther-free : (pool : PoolState) (slot : ℕ) (slots : List ℕ) → words_at pool slot ≡ None → AreOwned pool slots → AreOther slot slots
AreOther-free pool slot [] free owned = tt
AreOther-free pool slot (x ∷ xs) free owned = (free_apart pool slot x free owned.0, AreOther-free pool slot xs free owned.1.1)

-- another slot goes to the end
AreOther-end : (x slot : ℕ) (slots : List ℕ) → slot ≢ x → AreOther x slots → AreOther x (slots ++ slot ∷ [])
AreOther-end x slot [] apart other = (apart, tt)
AreOther-end x slot (y ∷ ys) apart other = (other.0, AreOther-end x slot ys apart other.1)

AreOwned-end : (pool : PoolState) (slot : ℕ) (slots : List ℕ) → IsOut pool slot → AreOther slot slots → AreOwned pool slots → AreOwned pool (slots ++ slot ∷ [])
AreOwned-end pool slot [] out apart owned = (out, (tt, tt))
AreOwned-end pool slot (x ∷ xs) out apart owned =
    (owned.0, (AreOther-end x slot xs (λ e. apart.0 (sym e)) owned.1.0, AreOwned-end pool slot xs out apart.1 owned.1.1))

AreStored-end : (pool : PoolState) (slot : ℕ) (report : Report) (slots : List ℕ) (reports : List Report) → Stores pool slot report → AreStored pool slots reports → AreStored pool (slots ++ slot ∷ []) (reports ++ report ∷ [])
AreStored-end pool slot report [] [] last h = (last, tt)
AreStored-end pool slot report (x ∷ xs) (y ∷ ys) last h = (h.0, AreStored-end pool slot report xs ys last h.1)
AreStored-end pool slot report [] (y ∷ ys) last h = absurd h
AreStored-end pool slot report (x ∷ xs) [] last h = absurd h

module _ (old new : PoolState) (slot : ℕ) (stored : Option (List ℕ)) (slots : List ℕ) where
  owned-pushed : words_at old slot ≡ None → ChangesSlot old new slot stored → IsOut new slot → AreOwned old slots → AreOwned new (slots ++ slot ∷ [])
  owned-pushed free c out owned =
      let apart = AreOther-free old slot slots free owned in
      AreOwned-end new slot slots out apart (AreOwned-kept old new slot stored c slots apart owned)

  pub lies-pushed : (report : Report) (reports : List Report) → words_at old slot ≡ None → ChangesSlot old new slot stored → Stores new slot report → Lies old slots reports → Lies new (slots ++ slot ∷ []) (reports ++ report ∷ [])
  lies-pushed report reports free c last lies =
      let apart = AreOther-free old slot slots free lies.owned in
      record {
        owned = owned-pushed free c (Stores-out new slot report last) lies.owned;
        stored = AreStored-end new slot report slots reports last (AreStored-kept old new slot stored c slots reports apart lies.stored);
      }

  pub owned-pushed_report : (report : Report) → words_at old slot ≡ None → ChangesSlot old new slot stored → Stores new slot report → AreOwned old slots → AreOwned new (slots ++ slot ∷ [])
  owned-pushed_report report free c last owned = owned-pushed free c (Stores-out new slot report last) owned

-- if there is room for one more, the ring keeps all its items
pub kept_whole : (outbox : OutboxState) (items : List ℕ) (size slot : ℕ) (ring : Buffer ℕ) → items ≡ outbox.slots → size ≡ outbox.size → length outbox.slots < outbox.size → ring ≡ buffer (keep_last size (items ++ slot ∷ [])) size → ring.items ≡ outbox.slots ++ slot ∷ []
kept_whole outbox items size slot ring same sized room pushed =
    let slots = outbox.slots in
    ap (λ (b : Buffer ℕ). b.items) pushed
    ∙ ap (λ (xs : List ℕ). keep_last size (xs ++ slot ∷ [])) same
    ∙ ap (λ (n : ℕ). drop n (slots ++ slot ∷ [])) (let n : length (slots ++ slot ∷ []) - size ≡ 0 = omega (arith, sized, room, length-append slots (slot ∷ [])) in n)

-- ---- the first slot is given back

module _ (old new : PoolState) (slot : ℕ) (stored : Option (List ℕ)) where
  owned-rest : (slots : List ℕ) → slice_get slots 0 ≡ Some slot → ChangesSlot old new slot stored → AreOwned old slots → AreOwned new (drop 1 slots)
  owned-rest [] first c owned = tt
  owned-rest (x ∷ xs) first c owned =
      let same : x ≡ slot = cc in
      AreOwned-kept old new slot stored c xs (subst (λ (k : ℕ). AreOther k xs) same owned.1.0) owned.1.1

  lies-rest : (slots : List ℕ) (reports : List Report) → slice_get slots 0 ≡ Some slot → ChangesSlot old new slot stored → Lies old slots reports → Lies new (drop 1 slots) (drop 1 reports)
  lies-rest [] [] first c lies = record { owned = tt; stored = tt }
  lies-rest (x ∷ xs) (report ∷ reports) first c lies =
      let same : x ≡ slot = cc in
      let apart = subst (λ (k : ℕ). AreOther k xs) same lies.owned.1.0 in
      record {
        owned = AreOwned-kept old new slot stored c xs apart lies.owned.1.1;
        stored = AreStored-kept old new slot stored c xs reports apart lies.stored.1;
      }
  lies-rest [] (report ∷ reports) first c lies = absurd lies.stored
  lies-rest (x ∷ xs) [] first c lies = absurd lies.stored

  -- the same of the ring's items, which are the slots
  module _ (items slots left : List ℕ) (same : items ≡ slots) (first : slice_get items 0 ≡ Some slot) (rest : left ≡ drop 1 items) where
    pub owned-popped : ChangesSlot old new slot stored → AreOwned old slots → AreOwned new left
    owned-popped c owned =
        subst (λ (xs : List ℕ). AreOwned new xs) (sym rest)
        (owned-rest items first c (subst (λ (xs : List ℕ). AreOwned old xs) (sym same) owned))

    pub lies-popped : (reports : List Report) → ChangesSlot old new slot stored → Lies old slots reports → Lies new left (drop 1 reports)
    lies-popped reports c lies =
        subst (λ (xs : List ℕ). Lies new xs (drop 1 reports)) (sym rest)
        (lies-rest items reports first c (subst (λ (xs : List ℕ). Lies old xs reports) (sym same) lies))
