use Rattle.run_audit.proofs.NameLemmas.{names_plain}
use Rattle.run_audit.proofs.WordsLemmas.{same_words}
use Rattle.run_audit.proofs.laws.words_law.Goals as goal

pub returns : goal.returns
returns c = λ words others rest more. same_words _ (names_plain c.args._scene.now.programs) c.args._scene.now.cases words others rest more
