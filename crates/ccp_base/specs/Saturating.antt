-- Numbers from 0 to 2^64-1 whose sums and products stop at the end of that range.
use Rattle.std.specs.Prelude.{ℕ, ◌+◌, ◌-◌, ◌*◌, ◌/◌, ◌^◌, min, max}

infixl 6 ◌+ˢ◌
infixl 7 ◌*ˢ◌
-- the sum, or 2^64-1 if that is less
abbrev pub ◌+ˢ◌ : ℕ → ℕ → ℕ
a +ˢ b = min (a + b) (2 ^ 64 - 1)

-- the product, or 2^64-1 if that is less
abbrev pub ◌*ˢ◌ : ℕ → ℕ → ℕ
a *ˢ b = min (a * b) (2 ^ 64 - 1)

-- the cut quotient of the exact product, or 2^64-1 if that is less
abbrev pub muldiv : ℕ → ℕ → ℕ → ℕ
muldiv a b c = min (a * b / c) (2 ^ 64 - 1)

-- n clamped from `least` to `most`
abbrev pub clamped : ℕ → ℕ → ℕ → ℕ
clamped least most n = max least (min n most)
