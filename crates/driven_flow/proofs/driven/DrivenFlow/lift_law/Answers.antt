use Rattle.driven_flow.proofs.DrivenLiftLemmas.{reads-alike}
use Rattle.driven_flow.proofs.driven.DrivenFlow.lift_law.Goals as goal

pub returns : goal.returns
returns c = reads-alike c.args.self.now
