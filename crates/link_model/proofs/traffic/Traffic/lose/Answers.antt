use Rattle.std.proofs.Common.{arith}
use Rattle.link_model.specs.LinkMoves.{standing_in}
use Rattle.link_model.specs.Rings.{arrivals_in}
use Rattle.link_model.proofs.HorizonLemmas.{length_le_count, count-lost, is_timely-lost}
use Rattle.link_model.proofs.traffic.Traffic.lose.Goals as goal

pub overflow_add-self : goal.overflow_add-self
overflow_add-self c =
    let old = c.args.self.now in
    omega (arith, length_le_count (arrivals_in old.flight) old.lost, c.requires.kept.count, c.requires.room)

pub returns-clause-kept : goal.returns-clause-kept
returns-clause-kept c =
    let old = c.args.self.now in
    let kept = c.requires.kept in
    record {
      valid = kept.valid;
      ring = kept.ring;
      put = omega (arith, kept.put);
      line = kept.line;
      order = kept.order;
      count = omega (arith, kept.count, count-lost (arrivals_in old.flight) old.lost c.args.more);
      few = c.requires.room;
      passed = λ i below. omega (arith, kept.passed i below);
      next_loss = kept.next_loss;
      timely = is_timely-lost c.args.case.now c.args.more (standing_in c.args.case.now.trace old) kept.timely;
    }
