use Rattle.mode_laws.proofs.FeedLawLemmas.{answers-as-fold, answers-frames, starts-at-window-zero}
use Rattle.mode_laws.proofs.laws.fold_feed_law.Goals as goal

pub returns-clause-answers : goal.returns-clause-answers
returns-clause-answers c = answers-as-fold

pub returns-clause-starts : goal.returns-clause-starts
returns-clause-starts c = starts-at-window-zero

pub returns-clause-frames : goal.returns-clause-frames
returns-clause-frames c = answers-frames
