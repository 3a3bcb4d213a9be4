use Rattle.ccp_run.proofs.DriveLawLemmas.{drive-writes-fronts, drive-ends-for-good}
use Rattle.ccp_run.proofs.laws.drive_law.Goals as goal

pub returns-clause-fronts : goal.returns-clause-fronts
returns-clause-fronts c = drive-writes-fronts

pub returns-clause-ended : goal.returns-clause-ended
returns-clause-ended c = drive-ends-for-good
