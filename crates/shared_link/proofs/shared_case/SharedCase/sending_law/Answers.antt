use Rattle.shared_link.proofs.SendingLemmas.{none_lacks-round}
use Rattle.shared_link.proofs.shared_case.SharedCase.sending_law.Goals as goal

pub returns : goal.returns
returns c = λ rounds asks. none_lacks-round c.args.self.now c.as_slice.ensures.valid asks rounds
