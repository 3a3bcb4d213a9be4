use Rattle.std.proofs.Common.{◌≡◌, ◌∙◌, ap, ap₂}
use Rattle.portus_core.specs.ProgramForm.{form_of}
use Rattle.reg_code.specs.CodeStart.{started}
use Rattle.fold_machine.specs.MachineState.{MachineState}
use Rattle.reg_compiler.specs.Simulation.{env_of}
use Rattle.fold_run.proofs.MachineMeans.{start_shape}
use Rattle.fold_run.proofs.folding.Folding.begin.Goals as goal

pub returns-clause-track : goal.returns-clause-track
returns-clause-track c =
    let built = c.args.built.now in
    let env : env_of c.start.new.self.kept ≡ _ =
    ap (λ (m : MachineState). env_of m.kept) c.in-Ok.ensures.started
    ∙ ap₂ (λ values (m : MachineState). env_of (started built.code.code values m.kept.cwnd m.kept.rate 0)) c.new-2.ensures c.in_ok-machine.ensures
    ∙ start_shape (form_of built.program) built.code.code built.places built.simulates in
    let going = ap (λ (m : MachineState). m.is_stopped) c.in-Ok.ensures.started in
    λ i. record { env = env i; is_stopped = going i; first = (c.opening.ensures i).first; count = 0 }
