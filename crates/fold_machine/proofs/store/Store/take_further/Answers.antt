use Rattle.std.proofs.Common.{◌≡◌, ℕ, ◌+◌, Some, None, IsErr, replicate, sym, ap, ◌∙◌, subst}
use Rattle.slot_pool.specs.Pool.{words_at, free_of, ChangesSlot}
use Rattle.fold_machine.specs.Store.{StoreState, further_of, IsOwned}
use Rattle.fold_machine.proofs.StoreLemmas.{free_slot, words_at-further, free_of-further, further-changes, IsOwned-kept, IfOk-with, OnOk-with}
use Rattle.fold_machine.proofs.store.Store.take_further.Goals as goal

-- as many are free
free : (c : goal.After-take) → free_of c.self.inside.pool ≡ free_of c.args.self.now.further
free c =
    let inside = c.self.inside in
    sym (free_of-further inside.pool inside.registers inside.report c.self.invariant) ∙ ap (λ (s : StoreState). free_of s.further) c.self.view_is

pub returns-clause-full : goal.returns-clause-full
returns-clause-full c = subst (λ (n : ℕ). (IsErr c.take.result → n ≡ 0) × (n ≡ 0 → IsErr c.take.result)) (free c) c.take.ensures.full

pub returns-clause-was_free : goal.returns-clause-was_free
returns-clause-was_free c =
    let inside = c.self.inside in
    IfOk-with c.take.result _ _ (λ slot. words_at c.args.self.now.further slot ≡ None) c.take.ensures.was_free c.take.ensures.was_free (λ slot none also.
    ap (λ (s : StoreState). words_at s.further slot) (sym c.self.view_is)
    ∙ words_at-further inside.pool inside.registers inside.report slot (free_slot inside.pool inside.registers inside.report slot c.self.invariant none)
    ∙ none)

pub returns-clause-zeros : goal.returns-clause-zeros
returns-clause-zeros c =
    let inside = c.self.inside in
    let now = further_of c.take.new.self inside.registers inside.report in
    IfOk-with c.take.result _ _ (λ slot. ChangesSlot c.args.self.now.further now slot (Some (replicate {A = ℕ} c.args.self.now.further.words 0))) c.take.ensures.was_free c.take.ensures.zeros (λ slot none took.
    subst (λ (s : StoreState). ChangesSlot s.further now slot (Some (replicate {A = ℕ} s.further.words 0))) c.self.view_is
    (further-changes inside.pool c.take.new.self inside.registers inside.report slot (Some (replicate {A = ℕ} inside.pool.words 0))
    (free_slot inside.pool inside.registers inside.report slot c.self.invariant none) took))

pub returns-clause-counted : goal.returns-clause-counted
returns-clause-counted c =
    let inside = c.self.inside in
    let now = further_of c.take.new.self inside.registers inside.report in
    let owned = IfOk-with c.take.result _ _ (λ slot. IsOwned c.take.new.self inside.registers inside.report) c.take.ensures.was_free c.take.ensures.zeros (λ slot none took.
    IsOwned-kept inside.pool c.take.new.self inside.registers inside.report slot (Some (replicate {A = ℕ} inside.pool.words 0)) c.self.invariant
    (free_slot inside.pool inside.registers inside.report slot c.self.invariant none) took) in
    OnOk-with c.take.result (λ slot. IsOwned c.take.new.self inside.registers inside.report) _ (free_of now + 1 ≡ free_of c.args.self.now.further) owned c.take.ensures.counted (λ slot is counted.
    ap (λ n. n + 1) (free_of-further c.take.new.self inside.registers inside.report is) ∙ counted ∙ free c)
