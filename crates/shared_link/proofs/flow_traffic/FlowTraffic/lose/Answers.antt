use Rattle.std.proofs.Common.{◌≤◌, eqb, subst, sym, arith}
use Rattle.link_model.proofs.HorizonLemmas.{length_le_count, count-lost}
use Rattle.shared_link.specs.Kept.{horizon}
use Rattle.shared_link.proofs.TimeLemmas.{since_within}
use Rattle.shared_link.proofs.flow_traffic.FlowTraffic.lose.Goals as goal

pub overflow_add-self : goal.overflow_add-self
overflow_add-self c =
    let old = c.args.self.now in
    omega (arith, length_le_count old.flight.items old.lost, c.requires.kept.count, c.requires.kept.allowance, c.requires.room)

pub returns-clause-kept : goal.returns-clause-kept
returns-clause-kept c =
    let old = c.args.self.now in
    let kept = c.requires.kept in
    let now : c.args.now ≤ horizon = omega (arith, c.requires.now) in
    record {
      places = kept.places;
      count = omega (arith, kept.count, count-lost old.flight.items old.lost 1);
      few = omega (arith, kept.allowance, c.requires.room);
      allowance = kept.allowance;
      passed = λ i below. omega (arith, kept.passed i below);
      arrivals = kept.arrivals;
      time = kept.time;
      since = subst (λ x. x ≤ horizon) (sym c.first_since-self.ensures) (since_within (eqb old.lost 0) c.args.now old.since horizon now kept.since);
      sum = omega (arith, kept.sum);
    }
