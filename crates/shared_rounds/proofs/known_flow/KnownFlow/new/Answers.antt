use Rattle.std.proofs.Common.{arith}
use Rattle.shared_rounds.proofs.RoundsLemmas.{rests-none}
use Rattle.shared_rounds.proofs.known_flow.KnownFlow.new.Goals as goal

pub invariant_of-result : goal.invariant_of-result
invariant_of-result g c = record {
  asks = c.requires;
  before = omega arith;
  rests = rests-none g.C.Course.link g.C.Course.asks c.args.number c.args.round;
}
