use Rattle.reply_frames.proofs.FrameLaws.{frame_alone}
use Rattle.reply_frames.proofs.NeededLaw.{needed, longest}
use Rattle.reply_frames.proofs.laws.frame_laws.Goals as goal

pub returns-clause-prefix_free : goal.returns-clause-prefix_free
returns-clause-prefix_free c = λ bytes more one other. frame_alone bytes more one other

pub returns-clause-needed : goal.returns-clause-needed
returns-clause-needed c = needed

pub returns-clause-longest : goal.returns-clause-longest
returns-clause-longest c = longest
