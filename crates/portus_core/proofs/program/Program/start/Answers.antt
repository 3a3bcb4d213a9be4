use Rattle.portus_core.specs.ProgramForm.{form_of}
use Rattle.portus_core.specs.Epoch.{declared_env}
use Rattle.portus_core.proofs.EnvShapes.{IsEnvOf-declared_env, IsEnvOf-with_values}
use Rattle.portus_core.proofs.program.Program.start.Goals as goal

pub returns-clause-shape : goal.returns-clause-shape
returns-clause-shape c =
    let form = form_of c.args.self.now in
    let declared = declared_env form c.args.cwnd c.args.rate c.args.now in
    rw (c.write_all.ensures, c.in_ok-env.ensures)
    (IsEnvOf-with_values form c.args.values.now declared (IsEnvOf-declared_env form c.args.cwnd c.args.rate c.args.now))
