-- When a text is the live text of flows, and else with how many flows it begins.
use Rattle.std.specs.Prelude.{◌≡◌, ◌≤◌, ℕ, true, List, [], ◌∷◌, length, take, ⊤, Result, IfOk}
use Rattle.ccp_base.specs.Text.{◌⧺◌}
use Rattle.ccp_base.specs.declared.outside.NoMemory.{NoMemory}
use Rattle.flow_core.specs.declared.case.Case.{Case}
use Rattle.flow_core.specs.declared.letter.Letter.{Letter}
use Rattle.flow_core.specs.Words.{world, legal, is_complete}
use Rattle.reg_compiler.specs.Sources.{Sources}
use Rattle.flow_core.specs.LiveText.{flow_from, live_text}
use Rattle.run_audit.specs.declared.verdict.Verdict.{Verdict}
use Rattle.run_audit.specs.declared.verdict.Verdict.TheVariants.{Yes, No}

-- the word is legal and complete for the case, read over the sources of its programs
pub record IsWordOf (sources : Sources) (case : Case) (word : List Letter) : Type 0 where
  pub legal : legal (flow_from sources case) case.link word ≡ true
  pub complete : is_complete (flow_from sources case) (world (flow_from sources case) case.link word) ≡ true

-- one such word a case, in order
abbrev pub AreWordsOf : Sources → List Case → List (List Letter) → Type 0
AreWordsOf sources [] [] = ⊤
AreWordsOf sources [] (word ∷ words) = ⊥
AreWordsOf sources (case ∷ cases) [] = ⊥
AreWordsOf sources (case ∷ cases) (word ∷ words) = IsWordOf sources case word × AreWordsOf sources cases words

-- each case with its word
abbrev pub with_words : List Case → List (List Letter) → List (Case × List Letter)
with_words [] words = []
with_words (case ∷ cases) [] = []
with_words (case ∷ cases) (word ∷ words) = (case, word) ∷ with_words cases words

-- the live text of the cases for these words
abbrev pub text_for_words : Sources → List Case → List (List Letter) → List ℕ
text_for_words sources cases words = live_text sources (with_words cases words)

-- a text is the live text of one history of each flow at most, whatever follows it
abbrev pub HaveOneHistory : Sources → List Case → Type 0
HaveOneHistory sources cases =
    (words others : List (List Letter)) (rest more : List ℕ)
    → AreWordsOf sources cases words → AreWordsOf sources cases others
    → text_for_words sources cases words ⧺ rest ≡ text_for_words sources cases others ⧺ more → words ≡ others

-- the text is the live text of the cases for some legal and complete words
pub record IsLiveText (sources : Sources) (cases : List Case) (text : List ℕ) : Type 0 where
  pub words : List (List Letter)
  pub are : AreWordsOf sources cases words
  pub whole : text ≡ text_for_words sources cases words

-- the text begins with the live text of the cases for some legal and complete words
pub record BeginsWithLiveText (sources : Sources) (cases : List Case) (text : List ℕ) : Type 0 where
  pub words : List (List Letter)
  pub are : AreWordsOf sources cases words
  pub rest : List ℕ
  pub whole : text ≡ text_for_words sources cases words ⧺ rest

-- the text isn't the live text of the cases, and this is the greatest number of them, from the first one on, with whose
-- parts it begins
pub record IsNot (sources : Sources) (cases : List Case) (text : List ℕ) (count : ℕ) : Type 0 where
  pub other : IsLiveText sources cases text → ⊥
  pub within : count ≤ length cases
  pub begins : BeginsWithLiveText sources (take count cases) text
  pub greatest : (more : ℕ) → more ≤ length cases → BeginsWithLiveText sources (take more cases) text → more ≤ count

-- the verdict is true of a text as the live text of cases
abbrev pub IsVerdict : Sources → List Case → List ℕ → Verdict → Type 0
IsVerdict sources cases text Yes = IsLiveText sources cases text
IsVerdict sources cases text (No flow) = IsNot sources cases text flow

-- the verdict, if there is memory for one, is this
abbrev pub IsVerdictOf : Result Verdict NoMemory → Verdict → Type 0
IsVerdictOf answer verdict = IfOk answer (λ said. said ≡ verdict)
