use Rattle.worker_desk.proofs.EquippingLawLemmas.{equipping-law}
use Rattle.worker_desk.proofs.laws.equipping_law.Goals as goal

pub returns : goal.returns
returns c = equipping-law
