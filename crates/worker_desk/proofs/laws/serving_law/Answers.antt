use Rattle.worker_desk.proofs.ServingLawLemmas.{serving-law}
use Rattle.worker_desk.proofs.laws.serving_law.Goals as goal

pub returns : goal.returns
returns c = serving-law
