use Rattle.ccp_run.proofs.AcksBackLemmas.{read_back}
use Rattle.ccp_run.proofs.laws.acks_read_back_law.Goals as goal

pub returns : goal.returns
returns c = read_back
