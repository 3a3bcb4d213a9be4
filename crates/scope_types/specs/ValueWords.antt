-- The words that are values.
use Rattle.std.specs.Prelude.{ℕ, ◌-◌, ◌^◌, Bool, true, false, List, Option, Some, None, codes, if◌then◌else◌, bytes_eq}
use Rattle.portus_core.specs.Programs.{Term, number, truth}

-- the value of a word
abbrev pub constant_of : List ℕ → Option Term
constant_of w =
    if bytes_eq w (codes "true") then Some (truth true)
    else if bytes_eq w (codes "false") then Some (truth false)
    else if bytes_eq w (codes "+infinity") then Some (number (2 ^ 64 - 1))
    else None

-- whether a value is a Bool
abbrev pub constant_truth : Term → Bool
constant_truth (truth b) = true
constant_truth _ = false
