-- What start values make of words of registers: those of the slot, and the working words.
use Rattle.std.specs.Prelude.{ℕ, ◌+◌, if◌then◌else◌, List, [], ◌∷◌, slice_set}
use Rattle.reg_code.specs.declared.code.Start.{Start}

-- each start value is written, from a place on
abbrev pub declared_words : List Start → ℕ → List ℕ → List ℕ
declared_words [] at words = words
declared_words (start ∷ rest) at words = declared_words rest (at + 1) (slice_set words at start.value)

-- the start value of each volatile register is written, from a place on
abbrev pub reset_words : List Start → ℕ → List ℕ → List ℕ
reset_words [] at words = words
reset_words (start ∷ rest) at words =
    reset_words rest (at + 1) (if start.volatile then slice_set words at start.value else words)
