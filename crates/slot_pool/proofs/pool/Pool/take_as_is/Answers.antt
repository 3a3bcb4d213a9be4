use Rattle.std.proofs.Common.{◌-◌}
use Rattle.slot_pool.proofs.AsIsLemmas.{TakesAsIs, as_is_step}
use Rattle.slot_pool.proofs.pool.Pool.take_as_is.Goals as goal

-- the first free slot is taken
step : (c : goal.After-with_number) → TakesAsIs c.self.inside.region c.first_word.result (c.self.inside.free - 1) c.args.self.now c.with_number.result
step c =
    as_is_step c.self.inside.region c.self.inside.first_free c.self.inside.free c.first_word.result c.with_number.result c.args.self.now
    c.if-self-eq0.false c.self.invariant c.self.view_is c.first_word.ensures c.with_number.ensures

pub invariant_of-self : goal.invariant_of-self
invariant_of-self c = (step c).linked

pub returns-clause-was_free : goal.returns-clause-was_free
returns-clause-was_free c = (step c).was_free

pub returns-clause-taken : goal.returns-clause-taken
returns-clause-taken c = (step c).changes

pub returns-clause-len : goal.returns-clause-len
returns-clause-len c = (step c).len

pub returns-clause-counted : goal.returns-clause-counted
returns-clause-counted c = (step c).counted
