-- Which bytes a text may have outside comments, and which belong to atoms.
use Rattle.std.specs.Prelude.{ℕ, Bool, not, ◌&&◌, ◌||◌, ◌==◌, nat_lt, nat_le}

-- a byte that may stand outside comments: tab, LF, CR, or one of 0x20 to 0x7E
abbrev pub is_allowed : ℕ → Bool
is_allowed b = b == 9 || b == 10 || b == 13 || (nat_le 32 b && nat_le b 126)

-- a byte of an atom: an allowed one that is no space, tab, CR, LF, parenthesis or `#`
abbrev pub is_atom_byte : ℕ → Bool
is_atom_byte b = nat_lt 32 b && nat_le b 126 && not (b == 40) && not (b == 41) && not (b == 35)
