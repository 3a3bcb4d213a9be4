-- Texts, as lists of their bytes.
use Rattle.std.specs.Prelude.{ℕ, List, ◌++◌}

infixr 10 ◌⧺◌
-- one text after another
abbrev pub ◌⧺◌ : List ℕ → List ℕ → List ℕ
a ⧺ b = a ++ b
