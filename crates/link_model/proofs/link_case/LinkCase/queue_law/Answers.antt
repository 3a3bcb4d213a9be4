use Rattle.link_model.proofs.Refinement.{settled-run_of}
use Rattle.link_model.proofs.link_case.LinkCase.queue_law.Goals as goal

pub returns : goal.returns
returns c = λ windows. (settled-run_of c.args.self.now c.as_slice.ensures.valid windows).room
