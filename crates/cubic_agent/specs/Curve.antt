-- The window increase function of CUBIC (RFC 9438, section 4.2). Windows are in thousandths of a segment, times
-- in milliseconds. The RFC's C is 0.4, in segments per second cubed, so it is 4 / 10,000,000 in these units.
use Rattle.std.specs.Prelude.{ℕ, ◌-◌, ◌/◌, nat_le, min, if◌then◌else◌}
use Rattle.std.specs.Int.{abs_diff}
use Rattle.ccp_base.specs.Saturating.{◌+ˢ◌, ◌*ˢ◌}
use Rattle.int_roots.specs.Roots.{root}

-- how far a time is from the time K, at most 1,000 seconds
abbrev pub distance_to : ℕ → ℕ → ℕ
distance_to k t = min (abs_diff t k) 1000000

-- what the curve is above or below its middle at this distance from it: C times the distance cubed
abbrev pub rise_of : ℕ → ℕ
rise_of distance = (4 *ˢ distance *ˢ distance *ˢ distance) / 10000000

-- W_cubic(t), by W_max and K
abbrev pub w_cubic : ℕ → ℕ → ℕ → ℕ
w_cubic w_max k t =
    let rise = rise_of (distance_to k t) in
    if nat_le k t then w_max +ˢ rise else w_max - rise

-- K, the time that the curve takes from a window to W_max: the cube root of their difference over C
abbrev pub k_of : ℕ → ℕ → ℕ
k_of w_max window = root ((w_max - window) *ˢ 2500000)
