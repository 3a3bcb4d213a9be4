-- Each number has one cube root, and `root` is it.
use Rattle.std.proofs.Common.{◌≡◌, ℕ, zero, suc, ◌+◌, ◌*◌, ◌<◌, ◌≤◌, arith, inl, inr, add-one}
use Rattle.std.proofs.lemmas.Bool.{cases_lt}
use Rattle.std.proofs.lemmas.Bool.Decides.{leb_tells}
use Rattle.std.proofs.Math.Nat.{mul-le-mul}
use Rattle.int_roots.specs.Roots.{IsCubeRoot, root_up_to, root}

-- a greater number has no lesser cube
cube_grows : (a b : ℕ) → a ≤ b → a * a * a ≤ b * b * b
cube_grows a b h = mul-le-mul (mul-le-mul h h) h

-- the search down from `top` finds the root if the next cube is above n
IsCubeRoot-root_up_to : (n top : ℕ) → n < (top + 1) * (top + 1) * (top + 1) → IsCubeRoot n (root_up_to n top)
unfolding root_up_to
IsCubeRoot-root_up_to n zero h = record { within = omega arith; greatest = h }
IsCubeRoot-root_up_to n (suc top) h =
    elim (leb_tells (suc top * suc top * suc top) n) [
      | inl w ↦ rw w.0 (record { within = w.1; greatest = h })
      | inr w ↦ rw w.0 (IsCubeRoot-root_up_to n top (rw add-one w.1))
    ]

-- `root n` is a cube root of n
pub IsCubeRoot-root : (n : ℕ) → IsCubeRoot n (root n)
unfolding root
IsCubeRoot-root n = IsCubeRoot-root_up_to n n (omega arith)

-- a root whose next cube is above n is at least each other root
root_ge_root : (n a b : ℕ) → IsCubeRoot n a → IsCubeRoot n b → b ≤ a
root_ge_root n a b p q =
    elim (cases_lt a b) [
      | inl below ↦ let more = cube_grows (a + 1) b (omega arith) in omega arith
      | inr h ↦ h
    ]

-- two cube roots of one number are equal
pub IsCubeRoot-unique : (n a b : ℕ) → IsCubeRoot n a → IsCubeRoot n b → a ≡ b
IsCubeRoot-unique n a b p q =
    let low : a ≤ b = root_ge_root n b a q p in
    let high : b ≤ a = root_ge_root n a b p q in
    omega arith

-- a cube root of n is `root n`
pub IsCubeRoot-is_root : (n k : ℕ) → IsCubeRoot n k → k ≡ root n
IsCubeRoot-is_root n k p = IsCubeRoot-unique n k (root n) p (IsCubeRoot-root n)
