use Rattle.std.proofs.Common.{◌<◌, ◌∙◌, arith}
use Rattle.slot_pool.proofs.PoolLemmas.{LinksOn, LinksOn-more, fresh_linked, fresh_unused, free_of-state}
use Rattle.slot_pool.proofs.pool.Pool.new.Goals as goal

pub loop-slot-preserved : goal.loop-slot-preserved
loop-slot-preserved c =
    let below : c.loop-slot.slot < c.loop-slot.region.slots = omega (arith, c.loop-slot.invariant.slots) in
    record {
      slots = c.write.ensures.slots ∙ c.loop-slot.invariant.slots;
      words = c.write.ensures.words ∙ c.loop-slot.invariant.words;
      links = LinksOn-more c.loop-slot.region c.write.new.self c.loop-slot.slot below c.loop-slot.invariant.links c.write.ensures;
    }

-- at the end all slots link on
all_link : (c : goal.After-loop-slot) → LinksOn c.loop-slot.region c.args.slots
all_link c = λ slot h. c.loop-slot.invariant.links slot (omega arith)

pub invariant_of-result : goal.invariant_of-result
invariant_of-result c = fresh_linked c.loop-slot.region c.args.slots c.loop-slot.invariant.slots (all_link c)

pub returns-clause-unused : goal.returns-clause-unused
returns-clause-unused c =
    fresh_unused c.loop-slot.region c.args.slots c.args.words c.loop-slot.invariant.slots c.loop-slot.invariant.words (all_link c)

pub returns-clause-free : goal.returns-clause-free
returns-clause-free c = free_of-state c.loop-slot.region 0 c.args.slots (fresh_linked c.loop-slot.region c.args.slots c.loop-slot.invariant.slots (all_link c))
