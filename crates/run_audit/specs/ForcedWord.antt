-- The word that the letters of tickets force if each stands at a number of acknowledgements.
use Rattle.std.specs.Prelude.{ℕ, ◌-◌, ◌&&◌, nat_le, Option, Some, None, if◌then◌else◌, List, [], ◌∷◌, ◌++◌, replicate}
use Rattle.flow_core.specs.declared.letter.Letter.{Letter}
use Rattle.flow_core.specs.declared.letter.Letter.TheVariants.{A}
use Rattle.run_audit.specs.declared.mark.Mark.{Mark}

-- the letters with this many acknowledgements after them
abbrev pub with_acks : List Letter → ℕ → List Letter
with_acks letters count = letters ++ replicate count A

-- the letters, of `at` acknowledgements so far, with those that the marks add, to the end of all acknowledgements; None
-- if the marks fall, or pass that number
abbrev pub word_after : ℕ → List Letter → ℕ → List Mark → Option (List Letter)
word_after acks letters at [] = Some (with_acks letters (acks - at))
word_after acks letters at (mark ∷ rest) =
    if nat_le at mark.at && nat_le mark.at acks
    then word_after acks (with_acks letters (mark.at - at) ++ mark.letter ∷ []) mark.at rest else None

abbrev pub forced_word : ℕ → List Mark → Option (List Letter)
forced_word acks marks = word_after acks [] 0 marks
