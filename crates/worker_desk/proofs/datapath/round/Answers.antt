use Rattle.std.proofs.Common.{rules, arith}
use Rattle.worker_desk.proofs.ServingLemmas.{place-then}
use Rattle.worker_desk.proofs.datapath.round.Goals as goal

pub loop-place-preserved : goal.loop-place-preserved
loop-place-preserved g c = record {
  within = search rules;
  free = search rules;
  flows = λ k below.
      let here = c.keep-kept.ensures.below (g.D.LockDesk.flows c.loop-place.desk) c.args.count
      (c.loop-place.invariant.flows c.loop-place.place (omega arith)) c.loop-place.invariant.flows k below in
      omega (arith, here, c.acknowledge-answer.ensures.flows);
  same = search rules;
  coming = search rules;
  rest = λ end serves. c.loop-place.invariant.rest end
      (place-then _ c.args.count c.loop-place.place c.loop-place.kept c.keep-kept.result c.loop-place.row c.keep-kept.new.row _ _ _ end
      (omega arith) (omega arith) c.keep-kept.ensures.front (search rules) c.acknowledge-answer.ensures.log serves);
}
