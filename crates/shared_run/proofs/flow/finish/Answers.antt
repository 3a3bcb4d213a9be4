use Rattle.shared_run.proofs.LiftedFlowLemmas.{lifted}
use Rattle.shared_run.proofs.flow.finish.Goals as goal

pub returns-clause-lifted : goal.returns-clause-lifted
returns-clause-lifted c = lifted c.args.flow.flow.case
