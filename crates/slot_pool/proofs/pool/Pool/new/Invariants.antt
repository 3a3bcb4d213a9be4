-- the slots so far link on
use Rattle.std.proofs.Common.{◌≡◌}
use Rattle.slot_pool.proofs.PoolLemmas.{LinksOn}
use Rattle.slot_pool.proofs.pool.Pool.new.Given as goal

abbrev pub invariant-loop-slot : goal.invariant-loop-slot
invariant-loop-slot l = record {
  slots : l.region.slots ≡ l.free;
  words : l.region.words ≡ l.words;
  links : LinksOn l.region l.slot;
}
