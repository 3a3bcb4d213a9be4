-- Which letter may come, by what a cell answers, and that it is the one that the caller makes next.
use Rattle.std.specs.Prelude.{◌≡◌, ◌≤◌, ◌<◌, Bool, true, false, is_some, Option, Some, None, option_map, List, [], ◌∷◌, ◌++◌, ℕ, ◌+◌, length, refl}
use Rattle.std.proofs.Common.{arith, ap, sym, ◌∙◌, length-append}
use Rattle.portus_core.specs.Programs.{Form}
use Rattle.open_flow.specs.declared.letter.OpenLetter.{OpenLetter}
use Rattle.open_flow.specs.declared.letter.OpenLetter.TheVariants as letters
use Rattle.open_flow.specs.OpenCells.{OpenState, is_legal_at, most_letters}
use Rattle.open_flow.specs.NextLetter.{next_letter, next_letter_at, HasNext, letters_left}

pub some-next : (next : Option (ℕ × Form)) (step : ℕ) → option_map (λ (n : ℕ × Form). n.0) next ≡ Some step → is_some next ≡ true
some-next None step is = absurd (let wrong : None ≡ Some step = is in (cc))
some-next (Some n) step is = refl

next-G : (change entry : Bool) → change ≡ true → next_letter change entry ≡ letters.G
next-G true entry is = refl
next-G false entry is = absurd (let wrong : false ≡ true = is in (cc))

next-I : (change entry : Bool) → change ≡ false → entry ≡ true → next_letter change entry ≡ letters.I
next-I true entry none is = absurd (let wrong : true ≡ false = none in (cc))
next-I false true none is = refl
next-I false false none is = absurd (let wrong : false ≡ true = is in (cc))

next-A : (change entry : Bool) → change ≡ false → entry ≡ false → next_letter change entry ≡ letters.A
next-A true entry none is = absurd (let wrong : true ≡ false = none in (cc))
next-A false true none is = absurd (let wrong : true ≡ false = is in (cc))
next-A false false none is = refl

module _ (old new : OpenState) where
  pub fewer-left : HasNext old new → letters_left new < letters_left old
  fewer-left has =
      let letter = next_letter_at old in
      let longer : length new.word ≡ length old.word + 1 =
      ap (λ (w : List OpenLetter). length w) has.word ∙ length-append old.word (letter ∷ []) in
      let most : most_letters new.case ≡ most_letters old.case = ap most_letters has.case in
      let within = has.within in
      omega (arith, longer, most, within)

  has-next : (letter : OpenLetter) → new.case ≡ old.case → new.word ≡ old.word ++ letter ∷ [] → length new.word ≤ most_letters new.case
      → next_letter_at old ≡ letter → HasNext old new
  has-next letter case word within next = record {
    case = case;
    word = word ∙ ap (λ (l : OpenLetter). old.word ++ l ∷ []) (sym next);
    within = within;
  }

  pub has-G : new.case ≡ old.case → new.word ≡ old.word ++ letters.G ∷ [] → length new.word ≤ most_letters new.case
      → is_legal_at old letters.G ≡ true → HasNext old new
  has-G case word within may = has-next letters.G case word within
      (next-G (is_legal_at old letters.G) (is_legal_at old letters.I) may)

  pub has-I : new.case ≡ old.case → new.word ≡ old.word ++ letters.I ∷ [] → length new.word ≤ most_letters new.case
      → is_legal_at old letters.G ≡ false
      → is_legal_at old letters.I ≡ true → HasNext old new
  has-I case word within none may = has-next letters.I case word within
      (next-I (is_legal_at old letters.G) (is_legal_at old letters.I) none may)

  pub has-A : new.case ≡ old.case → new.word ≡ old.word ++ letters.A ∷ [] → length new.word ≤ most_letters new.case
      → (is_legal_at old letters.G ≡ false) × (is_legal_at old letters.I ≡ false)
      → HasNext old new
  has-A case word within none = has-next letters.A case word within
      (next-A (is_legal_at old letters.G) (is_legal_at old letters.I) none.0 none.1)
