-- The parts of a text between separators.
use Rattle.std.specs.Prelude.{◌≡◌, ℕ, Bool, true, ◌||◌, ◌==◌, if◌then◌else◌, List, [], ◌∷◌, ◌++◌}
use Rattle.ccp_base.specs.declared.parts.Separator.{Separator}
use Rattle.ccp_base.specs.declared.parts.Separator.TheVariants.{LineFeed, Blank}

-- the bytes that separate lines, and those that separate words
abbrev pub separates : Separator → ℕ → Bool
separates LineFeed byte = byte == 10
separates Blank byte = (byte == 32) || (byte == 9)

-- one more byte at the front of the first part
abbrev pub with_first : ℕ → List (List ℕ) → List (List ℕ)
with_first byte [] = (byte ∷ []) ∷ []
with_first byte (part ∷ rest) = (byte ∷ part) ∷ rest

-- the parts of a text, each ended by a separator; the last part may have none
abbrev pub parts_of : Separator → List ℕ → List (List ℕ)
parts_of separator [] = []
parts_of separator (byte ∷ rest) =
    if separates separator byte then [] ∷ parts_of separator rest else with_first byte (parts_of separator rest)

-- a text is this part, a separator and the rest
pub record IsSplit (separator : Separator) (text part rest : List ℕ) : Type 0 where
  pub byte : ℕ
  pub separated : separates separator byte ≡ true
  pub whole : text ≡ part ++ byte ∷ rest

-- a list without its last item, if that is this byte
abbrev pub without_last : ℕ → List ℕ → List ℕ
without_last byte [] = []
without_last byte (x ∷ []) = if x == byte then [] else x ∷ []
without_last byte (x ∷ y ∷ rest) = x ∷ without_last byte (y ∷ rest)
