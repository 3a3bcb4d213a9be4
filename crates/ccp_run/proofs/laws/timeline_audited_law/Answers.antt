use Rattle.ccp_run.proofs.AuditedLemmas.{audited}
use Rattle.ccp_run.proofs.laws.timeline_audited_law.Goals as goal

pub returns : goal.returns
returns c = audited
