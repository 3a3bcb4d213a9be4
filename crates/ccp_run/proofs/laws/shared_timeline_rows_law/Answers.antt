use Rattle.ccp_run.proofs.RowLaw.{shared_rows_told}
use Rattle.ccp_run.proofs.laws.shared_timeline_rows_law.Goals as goal

pub returns : goal.returns
returns c = shared_rows_told
