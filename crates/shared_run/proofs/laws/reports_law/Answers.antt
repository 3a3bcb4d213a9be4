use Rattle.flow_core.specs.Readings.{over_codes}
use Rattle.shared_run.proofs.ReportLemmas.{rows-count-reports}
use Rattle.shared_run.proofs.laws.reports_law.Goals as goal

pub returns-clause-codes : goal.returns-clause-codes
returns-clause-codes c = rows-count-reports over_codes

pub returns-clause-sources : goal.returns-clause-sources
returns-clause-sources c sources = rows-count-reports sources
