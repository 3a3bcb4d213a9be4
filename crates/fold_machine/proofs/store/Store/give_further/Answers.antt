use Rattle.std.proofs.Common.{None, sym, ap, ◌∙◌, ◌+◌, subst}
use Rattle.slot_pool.specs.Pool.{IsOut, free_of, ChangesSlot}
use Rattle.fold_machine.specs.Store.{StoreState, further_of}
use Rattle.fold_machine.proofs.StoreLemmas.{IsApart, further_apart, further_out, free_of-further, further-changes, IsOwned-kept, own-kept}
use Rattle.fold_machine.proofs.store.Store.give_further.Goals as goal

apart : (c : goal.After-give) → IsApart c.self.inside.registers c.self.inside.report c.args.slot
apart c =
    let inside = c.self.inside in
    further_apart inside.pool inside.registers inside.report c.args.slot
    (subst (λ (s : StoreState). IsOut s.further c.args.slot) (sym c.self.view_is) c.requires)

pub give-requires : goal.give-requires
give-requires c =
    let inside = c.self.inside in
    further_out inside.pool inside.registers inside.report c.args.slot
    (subst (λ (s : StoreState). IsOut s.further c.args.slot) (sym c.self.view_is) c.requires)

pub invariant_of-self : goal.invariant_of-self
invariant_of-self c =
    let inside = c.self.inside in
    IsOwned-kept inside.pool c.give.new.self inside.registers inside.report c.args.slot None c.self.invariant (apart c) c.give.ensures.given

pub returns-clause-given : goal.returns-clause-given
returns-clause-given c =
    let inside = c.self.inside in
    subst (λ (s : StoreState). ChangesSlot s.further (further_of c.give.new.self inside.registers inside.report) c.args.slot None) c.self.view_is
    (further-changes inside.pool c.give.new.self inside.registers inside.report c.args.slot None (apart c) c.give.ensures.given)

pub returns-clause-counted : goal.returns-clause-counted
returns-clause-counted c =
    let inside = c.self.inside in
    free_of-further c.give.new.self inside.registers inside.report (invariant_of-self c)
    ∙ c.give.ensures.counted
    ∙ ap (λ n. n + 1) (sym (free_of-further inside.pool inside.registers inside.report c.self.invariant) ∙ ap (λ (s : StoreState). free_of s.further) c.self.view_is)

pub returns-clause-own : goal.returns-clause-own
returns-clause-own c =
    let inside = c.self.inside in
    own-kept inside.pool c.give.new.self inside.registers inside.report c.args.slot None c.args.self.now c.self.view_is (apart c) c.give.ensures.given
