use Rattle.portus_build.proofs.BuiltinLemmas.{are_built_in}
use Rattle.portus_build.proofs.settled.builtin_law.Goals as goal

pub returns : goal.returns
returns c = are_built_in
