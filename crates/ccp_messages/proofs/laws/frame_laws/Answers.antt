use Rattle.ccp_messages.proofs.DecodeLaws.{one_frame, no_other, prefix_free, both_versions}
use Rattle.reply_frames.proofs.NeededLaw.{needed}
use Rattle.ccp_messages.proofs.laws.frame_laws.Goals as goal

pub returns-clause-one_frame : goal.returns-clause-one_frame
returns-clause-one_frame c = one_frame

pub returns-clause-no_other : goal.returns-clause-no_other
returns-clause-no_other c = no_other

pub returns-clause-prefix_free : goal.returns-clause-prefix_free
returns-clause-prefix_free c = prefix_free

pub returns-clause-both_versions : goal.returns-clause-both_versions
returns-clause-both_versions c = both_versions

pub returns-clause-needed : goal.returns-clause-needed
returns-clause-needed c = needed
