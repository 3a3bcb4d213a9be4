use Rattle.std.proofs.Common.{◌-◌, ◌^◌, arith}
use Rattle.link_model.proofs.LossLemmas.{is_listed-before}
use Rattle.link_model.proofs.traffic.Traffic.is_next_listed.Goals as goal

pub returns-then-self-clause-listed : goal.returns-then-self-clause-listed
returns-then-self-clause-listed c =
    let case = c.args.case.now in
    let old = c.args.self.now in
    is_listed-before old.sent case.losses old.passed (2 ^ 64 - 1) case.losses_rise c.requires.kept.passed (omega (arith, c.if-self.true, c.requires.kept.next_loss))
