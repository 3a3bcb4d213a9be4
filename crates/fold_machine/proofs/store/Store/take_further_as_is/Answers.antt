use Rattle.std.proofs.Common.{◌≡◌, ℕ, ◌+◌, List, length, Some, None, option_map, IsErr, sym, ap, ◌∙◌, subst}
use Rattle.slot_pool.specs.Pool.{words_at, free_of, ChangesSlot}
use Rattle.fold_machine.specs.Store.{StoreState, further_of, IsOwned}
use Rattle.fold_machine.proofs.StoreLemmas.{free_slot, words_at-further, free_of-further, further-changes, IsOwned-kept, IfOk-with, OnOk-with}
use Rattle.fold_machine.proofs.store.Store.take_further_as_is.Goals as goal

-- as many are free
free : (c : goal.After-take_as_is) → free_of c.self.inside.pool ≡ free_of c.args.self.now.further
free c =
    let inside = c.self.inside in
    sym (free_of-further inside.pool inside.registers inside.report c.self.invariant) ∙ ap (λ (s : StoreState). free_of s.further) c.self.view_is

pub returns-clause-full : goal.returns-clause-full
returns-clause-full c = subst (λ (n : ℕ). (IsErr c.take_as_is.result → n ≡ 0) × (n ≡ 0 → IsErr c.take_as_is.result)) (free c) c.take_as_is.ensures.full

pub returns-clause-was_free : goal.returns-clause-was_free
returns-clause-was_free c =
    let inside = c.self.inside in
    IfOk-with c.take_as_is.result _ _ (λ slot. words_at c.args.self.now.further slot ≡ None) c.take_as_is.ensures.was_free c.take_as_is.ensures.was_free (λ slot none also.
    ap (λ (s : StoreState). words_at s.further slot) (sym c.self.view_is)
    ∙ words_at-further inside.pool inside.registers inside.report slot (free_slot inside.pool inside.registers inside.report slot c.self.invariant none)
    ∙ none)

pub returns-clause-taken : goal.returns-clause-taken
returns-clause-taken c =
    let inside = c.self.inside in
    let new = c.take_as_is.new.self in
    let now = further_of new inside.registers inside.report in
    IfOk-with c.take_as_is.result _ _ (λ slot. ChangesSlot c.args.self.now.further now slot (words_at now slot)) c.take_as_is.ensures.was_free c.take_as_is.ensures.taken (λ slot none took.
    let apart = free_slot inside.pool inside.registers inside.report slot c.self.invariant none in
    subst (λ (s : StoreState). ChangesSlot s.further now slot (words_at now slot)) c.self.view_is
    (subst (ChangesSlot (further_of inside.pool inside.registers inside.report) now slot) (sym (words_at-further new inside.registers inside.report slot apart))
    (further-changes inside.pool new inside.registers inside.report slot (words_at new slot) apart took)))

pub returns-clause-len : goal.returns-clause-len
returns-clause-len c =
    let inside = c.self.inside in
    let new = c.take_as_is.new.self in
    let now = further_of new inside.registers inside.report in
    IfOk-with c.take_as_is.result _ _ (λ slot. option_map (λ (words : List ℕ). length words) (words_at now slot) ≡ Some c.args.self.now.further.words) c.take_as_is.ensures.was_free c.take_as_is.ensures.len (λ slot none long.
    ap (option_map (λ (words : List ℕ). length words))
    (words_at-further new inside.registers inside.report slot (free_slot inside.pool inside.registers inside.report slot c.self.invariant none))
    ∙ long
    ∙ ap (λ (s : StoreState). Some s.further.words) c.self.view_is)

pub returns-clause-counted : goal.returns-clause-counted
returns-clause-counted c =
    let inside = c.self.inside in
    let new = c.take_as_is.new.self in
    let now = further_of new inside.registers inside.report in
    let owned = IfOk-with c.take_as_is.result _ _ (λ slot. IsOwned new inside.registers inside.report) c.take_as_is.ensures.was_free c.take_as_is.ensures.taken (λ slot none took.
    IsOwned-kept inside.pool new inside.registers inside.report slot (words_at new slot) c.self.invariant
    (free_slot inside.pool inside.registers inside.report slot c.self.invariant none) took) in
    OnOk-with c.take_as_is.result (λ slot. IsOwned new inside.registers inside.report) _ (free_of now + 1 ≡ free_of c.args.self.now.further) owned c.take_as_is.ensures.counted (λ slot is counted.
    ap (λ n. n + 1) (free_of-further new inside.registers inside.report is) ∙ counted ∙ free c)
