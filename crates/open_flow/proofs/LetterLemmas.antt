-- A word and then a letter.
use Rattle.std.specs.Prelude.{◌≡◌, Bool, ◌&&◌, List, [], ◌∷◌, ◌++◌, refl}
use Rattle.std.proofs.Common.{ap, sym, ◌∙◌}
use Rattle.std.proofs.Math.Bool.{and_assoc, and-true}
use Rattle.scene_members.specs.declared.open_case.OpenCase.{OpenCase}
use Rattle.open_flow.specs.declared.letter.OpenLetter.{OpenLetter}
use Rattle.open_flow.specs.OpenWorld.{OpenWorld, opening}
use Rattle.open_flow.specs.OpenWords.{after_letter, world_from, install_world, is_legal, legal_from, legal}

module _ (case : OpenCase) where
  world_from-append : (w : OpenWorld) (word more : List OpenLetter)
      → world_from case w (word ++ more) ≡ world_from case (world_from case w word) more
  world_from-append w [] more = refl
  world_from-append w (letter ∷ rest) more = world_from-append (after_letter case w letter) rest more

  legal_from-append : (w : OpenWorld) (word more : List OpenLetter)
      → legal_from case w (word ++ more) ≡ (legal_from case w word && legal_from case (world_from case w word) more)
  legal_from-append w [] more = refl
  legal_from-append w (letter ∷ rest) more =
      let next = after_letter case w letter in
      ap (λ (b : Bool). is_legal case w letter && b) (legal_from-append next rest more)
      ∙ sym (and_assoc (is_legal case w letter) (legal_from case next rest) (legal_from case (world_from case next rest) more))

  -- the state after one more letter is that letter's step
  pub world-append : (word : List OpenLetter) (letter : OpenLetter)
      → install_world case (word ++ letter ∷ []) ≡ after_letter case (install_world case word) letter
  world-append word letter = world_from-append opening word (letter ∷ [])

  -- a word with one more letter is legal if the word is and the letter is legal after it
  pub legal-append : (word : List OpenLetter) (letter : OpenLetter)
      → legal case (word ++ letter ∷ []) ≡ (legal case word && is_legal case (install_world case word) letter)
  legal-append word letter =
      legal_from-append opening word (letter ∷ [])
      ∙ ap (λ (b : Bool). legal case word && b) (and-true (is_legal case (install_world case word) letter))

-- the state of a case after a word with one more letter is that letter's step
pub grown : (case other : OpenCase) (word more : List OpenLetter) (letter : OpenLetter) → other ≡ case → more ≡ word ++ letter ∷ []
    → install_world other more ≡ after_letter case (install_world case word) letter
grown case other word more letter same longer =
    (λ i. install_world (same i) (longer i)) ∙ world-append case word letter
