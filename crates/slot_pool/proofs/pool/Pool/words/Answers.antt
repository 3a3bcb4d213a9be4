use Rattle.std.proofs.Common.{Some, sym, ap, ◌∙◌}
use Rattle.slot_pool.proofs.PoolLemmas.{out_below, out_has_words}
use Rattle.slot_pool.proofs.pool.Pool.words.Goals as goal

pub words_of-requires : goal.words_of-requires
words_of-requires c =
    out_below c.self.inside.region c.self.inside.first_free c.self.inside.free c.number.result c.args.slot.now c.args.self.now c.self.view_is c.requires c.number.ensures

pub returns-clause-words : goal.returns-clause-words
returns-clause-words c =
    out_has_words c.self.inside.region c.self.inside.first_free c.self.inside.free c.number.result c.args.slot.now c.args.self.now c.self.view_is c.requires c.number.ensures
    ∙ ap Some (sym c.words_of.ensures.words)
