use Rattle.portus_build.proofs.WalkLemmas.{walks_exact}
use Rattle.portus_build.proofs.settled.walk_law.Goals as goal

pub returns : goal.returns
returns c = walks_exact
