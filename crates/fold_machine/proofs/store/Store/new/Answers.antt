use Rattle.std.proofs.Common.{◌≡◌, ℕ, Some, replicate, refl, ap, ◌∙◌, subst}
use Rattle.slot_pool.specs.Pool.{PoolState, ChangesSlot}
use Rattle.fold_machine.specs.Store.{slot_words}
use Rattle.fold_machine.proofs.StoreLemmas.{fresh-taken}
use Rattle.fold_machine.proofs.store.Store.new.Goals as goal

pub returns : goal.returns
returns c =
    let p = c.in_ok-pool.pool in
    let q = c.take_free_slot-registers.new.pool in
    let r = c.take_free_slot-report.new.pool in
    let begun : p.words ≡ slot_words = ap (λ (t : PoolState). t.words) c.in_ok-pool.ensures.unused in
    let first = subst (λ n. ChangesSlot p q c.take_free_slot-registers.result (Some (replicate {A = ℕ} n 0))) begun c.take_free_slot-registers.ensures.zeros in
    let later : q.words ≡ slot_words = c.take_free_slot-registers.ensures.zeros.words ∙ begun in
    let second = subst (λ n. ChangesSlot q r c.take_free_slot-report.result (Some (replicate {A = ℕ} n 0))) later c.take_free_slot-report.ensures.zeros in
    fresh-taken c.args.slots p q r c.take_free_slot-registers.result c.take_free_slot-report.result (replicate slot_words 0) c.in_ok-pool.ensures.unused refl c.take_free_slot-registers.ensures.was_free first c.take_free_slot-report.ensures.was_free second
