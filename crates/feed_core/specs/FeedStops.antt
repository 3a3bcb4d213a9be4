-- Why a feed stops before its input's end.
use Rattle.std.specs.Prelude.{◌≡◌, ℕ, List}
use Rattle.ccp_base.specs.Outside.{Known, Rose, AppendsPrefix}
use Rattle.feed_core.specs.declared.answering.Unanswered.{Unanswered}
use Rattle.feed_core.specs.declared.answering.Unanswered.TheVariants.{Write, NoMemory}

-- a write failed after a front of the answer, or nothing of it was written
abbrev pub StopsAnswer : ℕ → ℕ → Known → Known → List ℕ → Unanswered → Type 0
StopsAnswer before now old new answer Write = Rose before now × AppendsPrefix old new answer
StopsAnswer before now old new answer (NoMemory _) = new ≡ old
