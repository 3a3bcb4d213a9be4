use Rattle.shared_link.proofs.RoundLemmas.{settled-run}
use Rattle.shared_link.proofs.shared_case.SharedCase.order_law.Goals as goal

pub returns-clause-order : goal.returns-clause-order
returns-clause-order c = λ rounds flow. ((settled-run c.args.self.now c.as_slice.ensures.valid rounds).flows flow).order

pub returns-clause-samples : goal.returns-clause-samples
returns-clause-samples c = λ rounds flow. ((settled-run c.args.self.now c.as_slice.ensures.valid rounds).flows flow).samples
