-- The first part of a text, which a separator ends, what follows it, and the equals sign of the first word.
use Rattle.std.specs.Prelude.{ℕ, ◌+◌, ◌==◌, Option, Some, None, if◌then◌else◌, List, [], ◌∷◌}
use Rattle.ccp_base.specs.declared.parts.Separator.{Separator}
use Rattle.ccp_base.specs.declared.parts.Separator.TheVariants.{Blank}
use Rattle.ccp_base.specs.Parts.{separates}

abbrev pub first_of : Separator → List ℕ → List ℕ
first_of separator [] = []
first_of separator (byte ∷ rest) = if separates separator byte then [] else byte ∷ first_of separator rest

abbrev pub after_separator : Separator → List ℕ → List ℕ
after_separator separator [] = []
after_separator separator (byte ∷ rest) = if separates separator byte then rest else after_separator separator rest

-- the place of the equals sign of the first word, counted from `at` at the text's front
abbrev pub equals_from : ℕ → List ℕ → Option ℕ
equals_from at [] = None
equals_from at (byte ∷ rest) =
    if byte == 61 then Some at else if separates Blank byte then None else equals_from (at + 1) rest
