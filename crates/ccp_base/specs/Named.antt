-- Names: texts of at least one byte and not too long.
use Rattle.std.specs.Prelude.{◌≡◌, ℕ, ◌≤◌, ◌&&◌, nat_le, Option, Some, None, if◌then◌else◌, List, length, take}
use Rattle.ccp_base.specs.Limits.{most_name_bytes}
use Rattle.ccp_base.specs.InPlace.{IsPadded, pad, pad-held, length-held}

-- a text if it is a name, which has 1 to 64 bytes
abbrev pub as_name : List ℕ → Option (List ℕ)
as_name text = if nat_le 1 (length text) && nat_le (length text) most_name_bytes then Some text else None

-- 64 bytes hold a name of this length
pub record IsHeld (bytes : List ℕ) (count : ℕ) : Type 0 where
  pub some : 1 ≤ count
  pub held : IsPadded most_name_bytes 0 bytes count

pub bytes-held : (bytes : List ℕ) (count : ℕ) → IsHeld bytes count → pad most_name_bytes 0 (take count bytes) ≡ bytes
bytes-held bytes count h = pad-held most_name_bytes 0 bytes count h.held

pub count-held : (bytes : List ℕ) (count : ℕ) → IsHeld bytes count → length (take count bytes) ≡ count
count-held bytes count h = length-held most_name_bytes 0 bytes count h.held
