use Rattle.std.proofs.Common.{◌-◌}
use Rattle.slot_pool.proofs.PoolLemmas.{TakesSlot, take_step}
use Rattle.slot_pool.proofs.pool.Pool.take.Goals as goal

-- the first free slot is taken
step : (c : goal.After-with_number) → TakesSlot c.clear.new.self c.first_word.result (c.self.inside.free - 1) c.args.self.now c.with_number.result
step c =
    take_step c.self.inside.region c.clear.new.self c.self.inside.first_free c.self.inside.free c.first_word.result c.with_number.result c.args.self.now
    c.if-self-eq0.false c.self.invariant c.clear.ensures c.self.view_is c.first_word.ensures c.with_number.ensures

pub invariant_of-self : goal.invariant_of-self
invariant_of-self c = (step c).linked

pub returns-clause-was_free : goal.returns-clause-was_free
returns-clause-was_free c = (step c).was_free

pub returns-clause-zeros : goal.returns-clause-zeros
returns-clause-zeros c = (step c).changes

pub returns-clause-counted : goal.returns-clause-counted
returns-clause-counted c = (step c).counted
