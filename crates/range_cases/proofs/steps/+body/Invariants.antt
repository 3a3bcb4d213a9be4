use Rattle.std.proofs.Common.{length}
use Rattle.range_cases.proofs.steps.+body.Given as goal

abbrev pub decreases-body : goal.decreases-body
decreases-body l = length l.cmds.now
