use Rattle.std.proofs.Common.{take}
use Rattle.source_flow.specs.SourceWalks.{StandsAfterWord}
use Rattle.source_flow.proofs.walk.walk.Given as goal

abbrev pub invariant-loop-letter : goal.invariant-loop-letter
invariant-loop-letter l = StandsAfterWord l.source (take l.letter-index l.word) l.state
