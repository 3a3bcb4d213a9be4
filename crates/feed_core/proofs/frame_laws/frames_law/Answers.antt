use Rattle.feed_core.proofs.FrameLawLemmas.{answers-fronts, goes-on-after-frames}
use Rattle.feed_core.proofs.frame_laws.frames_law.Goals as goal

pub returns-clause-fronts : goal.returns-clause-fronts
returns-clause-fronts c begins = answers-fronts _

pub returns-clause-goes_on : goal.returns-clause-goes_on
returns-clause-goes_on c begins = goes-on-after-frames _ c.A.Answerer.is_waiting
