use Rattle.worker_desk.proofs.EquippingLemmas.{unbuilt-then, late-then, installed-then, changed-then}
use Rattle.worker_desk.proofs.installer.install_step.Goals as goal

pub returns-in_default-clause-equips : goal.returns-in_default-clause-equips
returns-in_default-clause-equips g c = unbuilt-then c.args.worker c.args.flow c.args.step _ _ c.in_default.ensures.log

pub returns-then-not-install-clause-equips : goal.returns-then-not-install-clause-equips
returns-then-not-install-clause-equips g c =
    late-then c.args.worker c.args.flow c.args.step _ _ _ _ c.in-Some.ensures.step c.in-Some.ensures.log c.if-not-install.ensures.log

pub returns-then-change-clause-equips : goal.returns-then-change-clause-equips
returns-then-change-clause-equips g c =
    changed-then c.args.worker c.args.flow c.args.step _ _ _ _ _ _ _ c.in-Some.ensures.step c.in-Some.ensures.log c.if-not-install.ensures.log
    c.pass.ensures.log c.if-change.ensures.log c.pass-then-change.ensures.log

pub returns-else-change-clause-equips : goal.returns-else-change-clause-equips
returns-else-change-clause-equips g c =
    installed-then c.args.worker c.args.flow c.args.step _ _ _ _ _ _ c.in-Some.ensures.step c.in-Some.ensures.log c.if-not-install.ensures.log
    c.pass.ensures.log c.if-change.ensures.log
