use Rattle.std.proofs.Common.{slice_set}
use Rattle.fold_machine.proofs.StoreLemmas.{registers-written}
use Rattle.fold_machine.proofs.store.Store.set_register.Goals as goal

pub returns : goal.returns
returns c =
    let inside = c.self.inside in
    registers-written inside.pool c.write.new.self inside.registers inside.report (λ words. slice_set words c.args.at c.args.word) c.args.self.now c.self.invariant c.self.view_is c.write.ensures.written
