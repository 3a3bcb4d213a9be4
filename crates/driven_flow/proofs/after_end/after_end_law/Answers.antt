use Rattle.driven_flow.proofs.AfterEndLemmas.{refuses-after-end}
use Rattle.driven_flow.proofs.after_end.after_end_law.Goals as goal

pub returns : goal.returns
returns c = refuses-after-end
