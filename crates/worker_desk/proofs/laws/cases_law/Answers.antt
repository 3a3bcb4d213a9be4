use Rattle.worker_desk.proofs.CasesLawLemmas.{worker-law, workers-law}
use Rattle.worker_desk.proofs.laws.cases_law.Goals as goal

pub returns-clause-worker : goal.returns-clause-worker
returns-clause-worker c = worker-law

pub returns-clause-workers : goal.returns-clause-workers
returns-clause-workers c = workers-law
