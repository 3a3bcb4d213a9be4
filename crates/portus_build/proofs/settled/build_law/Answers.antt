use Rattle.portus_build.proofs.SettledTexts.{settled_text}
use Rattle.portus_build.proofs.settled.build_law.Goals as goal

pub returns : goal.returns
returns c = settled_text
