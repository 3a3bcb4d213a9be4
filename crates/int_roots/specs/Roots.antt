-- The cube root of a number, cut to a whole number.
use Rattle.std.specs.Prelude.{ℕ, ◌+◌, ◌*◌, ◌<◌, ◌≤◌, nat_le, if◌then◌else◌}
use Rattle.std.proofs.Common.{zero, suc}

-- k is the greatest number whose cube is at most n
pub record IsCubeRoot (n k : ℕ) : Type 0 where
  pub within : k * k * k ≤ n
  pub greatest : n < (k + 1) * (k + 1) * (k + 1)

-- the greatest of the numbers up to `top` whose cube is at most n
unfoldable pub root_up_to : ℕ → ℕ → ℕ
root_up_to n zero = 0
root_up_to n (suc top) = if nat_le (suc top * suc top * suc top) n then suc top else root_up_to n top

-- the cube root of n: each number above n has a cube above n
unfoldable pub root : ℕ → ℕ
root n = root_up_to n n
