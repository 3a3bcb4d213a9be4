use Rattle.std.proofs.Common.{◌+◌}
use Rattle.slot_pool.proofs.PoolLemmas.{GivesSlot, give_step, out_below}
use Rattle.slot_pool.proofs.pool.Pool.give.Goals as goal

-- the slot that is given back is the first free one
step : (c : goal.After-self-2-1) → GivesSlot c.write.new.self c.number-number.result (c.self.inside.free + 1) c.args.self.now c.args.slot
step c =
    give_step c.self.inside.region c.write.new.self c.self.inside.first_free c.self.inside.free c.number-number.result c.args.slot c.args.self.now
    c.self.invariant c.self.view_is c.requires c.number-number.ensures c.write.ensures

pub write-requires-clause-slot_in : goal.write-requires-clause-slot_in
write-requires-clause-slot_in c =
    out_below c.self.inside.region c.self.inside.first_free c.self.inside.free c.number-number.result c.args.slot c.args.self.now c.self.view_is c.requires c.number-number.ensures

pub invariant_of-self : goal.invariant_of-self
invariant_of-self c = (step c).linked

pub returns-clause-given : goal.returns-clause-given
returns-clause-given c = (step c).changes

pub returns-clause-counted : goal.returns-clause-counted
returns-clause-counted c = (step c).counted
