use Rattle.std.proofs.Common.{length}
use Rattle.range_cases.proofs.steps.+blocks.Given as goal

abbrev pub decreases-blocks : goal.decreases-blocks
decreases-blocks l = length l.parts.now
