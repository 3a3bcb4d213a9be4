-- The place after bytes of a text.
use Rattle.std.specs.Prelude.{ℕ, ◌+◌, ◌==◌, if◌then◌else◌, List, [], ◌∷◌}
use Rattle.ccp_base.specs.declared.place.Place.{Place}

-- the place of a text's first byte
abbrev pub first_place : Place
first_place = record { line = 1; column = 1 }

-- the place after a byte: a line ends after LF
abbrev pub place_past_byte : Place → ℕ → Place
place_past_byte at b =
    if b == 10 then record { line = at.line + 1; column = 1 } else record { line = at.line; column = at.column + 1 }

-- the place after these bytes
abbrev pub place_after : Place → List ℕ → Place
place_after at [] = at
place_after at (b ∷ rest) = place_after (place_past_byte at b) rest
