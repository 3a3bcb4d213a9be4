-- The number that the loop ends at is a cube root, and a number has only one.
use Rattle.std.proofs.Common.{rules}
use Rattle.int_roots.proofs.RootLemmas.{IsCubeRoot-is_root}
use Rattle.int_roots.proofs.cbrt.Goals as goal

pub returns-clause-value : goal.returns-clause-value
returns-clause-value c = IsCubeRoot-is_root c.args.n c.loop-bit.k (search rules)
