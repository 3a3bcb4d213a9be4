use Rattle.campaign_gate.proofs.LiftedRowLemmas.{source-plan}
use Rattle.campaign_gate.proofs.calls.acks.Goals as goal

pub returns-clause-source : goal.returns-clause-source
returns-clause-source g c case = source-plan case
