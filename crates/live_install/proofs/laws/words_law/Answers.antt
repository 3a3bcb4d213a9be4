use Rattle.live_install.proofs.WordsShownLemmas.{words-shown}
use Rattle.live_install.proofs.laws.words_law.Goals as goal

pub returns : goal.returns
returns c = words-shown
