use Rattle.std.proofs.Common.{◌≡◌, sym, subst, ap, ◌∙◌}
use Rattle.reg_code.specs.AcceptedCode.{sizes_of}
use Rattle.fold_machine.specs.MachineState.{MachineState, Fits}
use Rattle.fold_machine.proofs.MachineLemmas.{Fits-sizes, sizes-fit}
use Rattle.fold_machine.proofs.machine.Machine.fits.Goals as goal

pub returns-then-self : goal.returns-then-self
returns-then-self c =
    let inside = c.self.inside in
    let code = c.args.code.now.code in
    let there : sizes_of c.code.result.now ≡ sizes_of code = ap sizes_of c.code.ensures.code in (
      λ same. subst (λ (m : MachineState). Fits m code) c.self.view_is (Fits-sizes code inside.store inside.sizes inside.reported inside.started inside.stopped inside.ran c.if-self.true (c.has_sizes.ensures.0 same ∙ there)),
      λ fits. c.has_sizes.ensures.1 (sizes-fit code inside.store inside.sizes inside.reported inside.started inside.stopped inside.ran c.args.self.now c.self.view_is fits ∙ sym there),
    )
