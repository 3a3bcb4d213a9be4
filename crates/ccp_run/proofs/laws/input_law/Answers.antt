use Rattle.ccp_run.proofs.WorkerModes.{is_mode}
use Rattle.ccp_run.proofs.laws.input_law.Goals as goal

pub returns : goal.returns
returns c = λ task bytes. (is_mode task).settled bytes
