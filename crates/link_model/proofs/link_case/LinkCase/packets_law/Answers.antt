use Rattle.link_model.proofs.Refinement.{settled-run_of}
use Rattle.link_model.proofs.link_case.LinkCase.packets_law.Goals as goal

pub returns-clause-once : goal.returns-clause-once
returns-clause-once c = λ windows. (settled-run_of c.args.self.now c.as_slice.ensures.valid windows).once.rise

pub returns-clause-sum : goal.returns-clause-sum
returns-clause-sum c = λ windows. (settled-run_of c.args.self.now c.as_slice.ensures.valid windows).counts
