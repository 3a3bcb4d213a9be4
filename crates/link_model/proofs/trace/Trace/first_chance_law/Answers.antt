use Rattle.link_model.proofs.ChanceLemmas.{is_first_chance}
use Rattle.link_model.proofs.trace.Trace.first_chance_law.Goals as goal

pub returns : goal.returns
returns c = λ at start. is_first_chance c.args.self.now c.as_slice.ensures.valid at start
