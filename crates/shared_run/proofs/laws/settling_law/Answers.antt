use Rattle.flow_core.specs.Readings.{over_codes}
use Rattle.shared_run.proofs.TurnLemmas.{settled-ends}
use Rattle.shared_run.proofs.laws.settling_law.Goals as goal

pub returns-clause-codes : goal.returns-clause-codes
returns-clause-codes c = settled-ends over_codes

pub returns-clause-sources : goal.returns-clause-sources
returns-clause-sources c sources = settled-ends sources
