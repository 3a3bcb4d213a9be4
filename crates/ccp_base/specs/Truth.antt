-- A number as a condition.
use Rattle.std.specs.Prelude.{ℕ, Bool, not, ◌==◌}

-- a number that isn't 0 is true
abbrev pub is_true : ℕ → Bool
is_true n = not (n == 0)
