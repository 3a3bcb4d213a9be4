use Rattle.campaign_gate.proofs.LiftedRowLemmas.{lifted}
use Rattle.campaign_gate.proofs.calls.rows.Goals as goal

pub returns-clause-lifted : goal.returns-clause-lifted
returns-clause-lifted g c case = lifted case
