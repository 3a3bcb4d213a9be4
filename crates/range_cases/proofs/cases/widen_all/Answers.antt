use Rattle.std.proofs.Common.{◌<◌, ◌≤◌, length, ◌∙◌, arith}
use Rattle.std.proofs.Math.ListN.{length-set}
use Rattle.range_cases.proofs.RangeLemmas.{widened_own, widened_others, widened_all}
use Rattle.range_cases.proofs.cases.widen_all.Goals as goal

pub loop-i-preserved : goal.loop-i-preserved
loop-i-preserved c =
    let within : c.loop-i.i < length c.args.others.now = c.loop-i-test.true in
    let there : c.loop-i.i < length c.loop-i.ranges = omega arith in
    record {
      long = length-set c.loop-i.ranges c.loop-i.i c.hull.result ∙ c.loop-i.invariant.long;
      own = λ j past n has. widened_own c.loop-i.ranges c.loop-i.i c.index-ranges-i.result c.hull.result j past n there c.index-ranges-i.is c.hull.ensures.left (c.loop-i.invariant.own j past n has);
      others = λ j past n reached has. widened_others c.loop-i.ranges c.args.others.now c.loop-i.i c.index-others-i.result c.hull.result j past n there within c.index-others-i.is c.hull.ensures.right (λ before h. c.loop-i.invariant.others j past n before h) reached has;
    }

pub returns-clause-own : goal.returns-clause-own
returns-clause-own c value are = record { each = λ j past zero. c.loop-i.invariant.own j past (value j) (are.each j past zero) }

pub returns-clause-others : goal.returns-clause-others
returns-clause-others c value are =
    let done : length c.args.others.now ≤ c.loop-i.i = c.loop-i-test.false in
    widened_all c.loop-i.ranges c.args.others.now value c.loop-i.invariant.long (λ j past n within has. c.loop-i.invariant.others j past n (omega arith) has) are
