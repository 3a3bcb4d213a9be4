use Rattle.std.proofs.Common.{◌∙◌, ap}
use Rattle.fold_machine.specs.MachineState.{MachineState}
use Rattle.fold_machine.proofs.MachineLemmas.{Fits-sizes, sizes-fit}
use Rattle.fold_machine.proofs.machine.Machine.update.Goals as goal

pub returns-clause-fits : goal.returns-clause-fits
returns-clause-fits c =
    let inside = c.self.inside in
    Fits-sizes c.args.code.now.code c.write_values.new.store inside.sizes inside.reported inside.started inside.stopped inside.ran
    (ap (λ (m : MachineState). m.is_started) c.self.view_is ∙ c.requires.started)
    (sizes-fit c.args.code.now.code inside.store inside.sizes inside.reported inside.started inside.stopped inside.ran c.args.self.now c.self.view_is c.requires)
