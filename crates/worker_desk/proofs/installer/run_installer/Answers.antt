use Rattle.std.proofs.Common.{rules}
use Rattle.worker_desk.proofs.EquippingLemmas.{step-then}
use Rattle.worker_desk.proofs.installer.run_installer.Goals as goal

pub loop-step-preserved : goal.loop-step-preserved
loop-step-preserved g c = record {
  free = search rules;
  same = search rules;
  equips = step-then c.args.worker c.loop-step.step _ _ _ _ _ c.row_of-count.ensures.row c.loop-step.invariant.equips c.install_row.ensures.equips;
}
