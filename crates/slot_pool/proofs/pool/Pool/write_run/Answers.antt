use Rattle.slot_pool.specs.Pool.{with_run}
use Rattle.slot_pool.proofs.PoolLemmas.{WritesSlot, write_step, out_below}
use Rattle.slot_pool.proofs.pool.Pool.write_run.Goals as goal

-- the list of free slots stays
step : (c : goal.After-write_run) → WritesSlot c.write_run.new.self c.self.inside.first_free c.self.inside.free c.args.self.now c.args.slot.now (λ words. with_run words c.args.at c.args.run.now)
step c =
    write_step c.self.inside.region c.write_run.new.self c.self.inside.first_free c.self.inside.free c.number.result c.args.slot.now (λ words. with_run words c.args.at c.args.run.now) c.args.self.now
    c.self.invariant c.self.view_is c.requires.out c.number.ensures c.write_run.ensures

pub write_run-requires-clause-slot_in : goal.write_run-requires-clause-slot_in
write_run-requires-clause-slot_in c =
    out_below c.self.inside.region c.self.inside.first_free c.self.inside.free c.number.result c.args.slot.now c.args.self.now c.self.view_is c.requires.out c.number.ensures

pub invariant_of-self : goal.invariant_of-self
invariant_of-self c = (step c).linked

pub returns-clause-written : goal.returns-clause-written
returns-clause-written c = (step c).changes

pub returns-clause-out : goal.returns-clause-out
returns-clause-out c = (step c).out

pub returns-clause-counted : goal.returns-clause-counted
returns-clause-counted c = (step c).counted
