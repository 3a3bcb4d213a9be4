use Rattle.std.proofs.Common.{sym, ap, ◌∙◌, subst}
use Rattle.slot_pool.specs.Pool.{words_at, IsOut}
use Rattle.fold_machine.specs.Store.{StoreState}
use Rattle.fold_machine.proofs.StoreLemmas.{further_apart, further_out, words_at-further}
use Rattle.fold_machine.proofs.store.Store.further_words.Goals as goal

pub words-requires : goal.words-requires
words-requires c =
    let inside = c.self.inside in
    further_out inside.pool inside.registers inside.report c.args.slot.now
    (subst (λ (s : StoreState). IsOut s.further c.args.slot.now) (sym c.self.view_is) c.requires)

pub returns-clause-words : goal.returns-clause-words
returns-clause-words c =
    let inside = c.self.inside in
    let apart = further_apart inside.pool inside.registers inside.report c.args.slot.now
    (subst (λ (s : StoreState). IsOut s.further c.args.slot.now) (sym c.self.view_is) c.requires) in
    ap (λ (s : StoreState). words_at s.further c.args.slot.now) (sym c.self.view_is)
    ∙ words_at-further inside.pool inside.registers inside.report c.args.slot.now apart
    ∙ c.words.ensures.words
