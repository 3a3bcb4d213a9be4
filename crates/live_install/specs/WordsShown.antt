-- What the text of a rollout shows of its flows' words: all but the order of entries and changes at one count of
-- acknowledgements.
use Rattle.std.specs.Prelude.{◌≡◌, ◌↔◌, ℕ, List, [], ◌∷◌, ⊤}
use Rattle.scene_members.specs.declared.open_case.OpenCase.{OpenCase}
use Rattle.open_flow.specs.declared.letter.OpenLetter.{OpenLetter}
use Rattle.open_flow.specs.declared.letter.OpenLetter.TheVariants.{A, I, G}
use Rattle.live_install.specs.RolloutText.{rollout_text}
use Rattle.live_install.specs.WholeBooks.{IsHistory}

abbrev pub without_changes : List OpenLetter → List OpenLetter
without_changes [] = []
without_changes (A ∷ rest) = A ∷ without_changes rest
without_changes (I ∷ rest) = I ∷ without_changes rest
without_changes (G ∷ rest) = without_changes rest

abbrev pub without_entries : List OpenLetter → List OpenLetter
without_entries [] = []
without_entries (A ∷ rest) = A ∷ without_entries rest
without_entries (I ∷ rest) = without_entries rest
without_entries (G ∷ rest) = G ∷ without_entries rest

-- two words differ at most in the order of entries and changes at one count of acknowledgements: without their changes
-- they are equal, and so they are without their entries
pub record AreAlike (word other : List OpenLetter) : Type 0 where
  pub entries : without_changes word ≡ without_changes other
  pub changes : without_entries word ≡ without_entries other

abbrev pub AreAllAlike : List (List OpenLetter) → List (List OpenLetter) → Type 0
AreAllAlike [] [] = ⊤
AreAllAlike [] (other ∷ others) = ⊥
AreAllAlike (word ∷ words) [] = ⊥
AreAllAlike (word ∷ words) (other ∷ others) = AreAlike word other × AreAllAlike words others

-- a legal and complete word for each case, in order
abbrev pub AreHistories : List OpenCase → List (List OpenLetter) → Type 0
AreHistories [] [] = ⊤
AreHistories [] (word ∷ words) = ⊥
AreHistories (case ∷ cases) [] = ⊥
AreHistories (case ∷ cases) (word ∷ words) = IsHistory (case, word) × AreHistories cases words

-- each case with its word
abbrev pub with_words : List OpenCase → List (List OpenLetter) → List (OpenCase × List OpenLetter)
with_words [] words = []
with_words (case ∷ cases) [] = []
with_words (case ∷ cases) (word ∷ words) = (case, word) ∷ with_words cases words

-- the text of the cases for these words
abbrev pub text_for_words : List OpenCase → List (List OpenLetter) → List ℕ
text_for_words cases words = rollout_text (with_words cases words)

-- two rollouts of the same cases have one text if and only if their words are alike
abbrev pub TextShowsWords : Type 0
TextShowsWords = (cases : List OpenCase) (words others : List (List OpenLetter))
    → AreHistories cases words → AreHistories cases others
    → (text_for_words cases words ≡ text_for_words cases others) ↔ AreAllAlike words others
