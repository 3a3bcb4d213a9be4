use Rattle.shared_link.proofs.RoundLemmas.{settled-run}
use Rattle.shared_link.proofs.shared_case.SharedCase.packets_law.Goals as goal

pub returns-clause-once : goal.returns-clause-once
returns-clause-once c = λ rounds. (settled-run c.args.self.now c.as_slice.ensures.valid rounds).once.rise

pub returns-clause-sum : goal.returns-clause-sum
returns-clause-sum c = λ rounds flow. ((settled-run c.args.self.now c.as_slice.ensures.valid rounds).flows flow).counts
