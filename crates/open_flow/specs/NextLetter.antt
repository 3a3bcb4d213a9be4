-- Which letter the caller makes next of a flow whose word isn't complete.
use Rattle.std.specs.Prelude.{◌≡◌, ℕ, ◌-◌, ◌≤◌, Bool, true, false, [], ◌∷◌, ◌++◌, length}
use Rattle.open_flow.specs.declared.letter.OpenLetter.{OpenLetter}
use Rattle.open_flow.specs.declared.letter.OpenLetter.TheVariants as letters
use Rattle.open_flow.specs.OpenCells.{OpenState, is_legal_at, most_letters}

-- the next letter, by whether a change and whether an entry may come
abbrev pub next_letter : Bool → Bool → OpenLetter
next_letter true entry = letters.G
next_letter false true = letters.I
next_letter false false = letters.A

-- the letter that the caller makes next: a change if one may come, else an entry if one may come, else an
-- acknowledgement
abbrev pub next_letter_at : OpenState → OpenLetter
next_letter_at cell = next_letter (is_legal_at cell letters.G) (is_legal_at cell letters.I)

-- the same flow with this letter more, and still within its letters
pub record HasNext (old new : OpenState) : Type 0 where
  pub case : new.case ≡ old.case
  pub word : new.word ≡ old.word ++ next_letter_at old ∷ []
  pub within : length new.word ≤ most_letters new.case

-- how many letters may come yet, at most
abbrev pub letters_left : OpenState → ℕ
letters_left cell = most_letters cell.case - length cell.word
