use Rattle.std.proofs.Common.{sym, ap, ◌∙◌}
use Rattle.reg_code.specs.AcceptedCode.{sizes_of}
use Rattle.fold_machine.proofs.RunnableLemmas.{IsRunnable-accepted}
use Rattle.fold_machine.proofs.MachineLemmas.{sizes-fit}
use Rattle.fold_machine.proofs.machine.Machine.ack.Goals as goal

pub work-ran-requires-clause-runnable : goal.work-ran-requires-clause-runnable
work-ran-requires-clause-runnable g c = IsRunnable-accepted c.code-code.result.now c.code-code.ensures.accepted

pub work-ran-requires-clause-sizes : goal.work-ran-requires-clause-sizes
work-ran-requires-clause-sizes g c =
    let inside = c.self.inside in
    sizes-fit c.args.code.now.code inside.store inside.sizes inside.reported inside.started inside.stopped inside.ran c.args.self.now c.self.view_is c.requires
    ∙ ap sizes_of (sym c.code-code.ensures.code)
