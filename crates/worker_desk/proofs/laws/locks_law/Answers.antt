use Rattle.worker_desk.proofs.LocksLawLemmas.{serving-keeps, attending-keeps, equipping-keeps}
use Rattle.worker_desk.proofs.laws.locks_law.Goals as goal

pub returns-clause-serving : goal.returns-clause-serving
returns-clause-serving c = serving-keeps

pub returns-clause-attending : goal.returns-clause-attending
returns-clause-attending c = attending-keeps

pub returns-clause-equipping : goal.returns-clause-equipping
returns-clause-equipping c = equipping-keeps
