use Rattle.link_model.proofs.Refinement.{settled-run_of}
use Rattle.link_model.proofs.link_case.LinkCase.order_law.Goals as goal

pub returns-clause-order : goal.returns-clause-order
returns-clause-order c = λ windows. (settled-run_of c.args.self.now c.as_slice.ensures.valid windows).in_order

pub returns-clause-samples : goal.returns-clause-samples
returns-clause-samples c = λ windows. (settled-run_of c.args.self.now c.as_slice.ensures.valid windows).sampled
