use Rattle.std.proofs.Common.{rules, arith}
use Rattle.worker_desk.proofs.EquippingLemmas.{place-then}
use Rattle.worker_desk.proofs.installer.install_row.Goals as goal

pub loop-place-preserved : goal.loop-place-preserved
loop-place-preserved g c = record {
  free = search rules;
  same = search rules;
  equips = place-then c.args.worker c.args.step c.loop-place.place _ _ _ _ (omega arith) c.loop-place.invariant.equips c.install_step.ensures.equips;
}
