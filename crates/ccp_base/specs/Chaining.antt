-- One step after another; the first fault is the result.
use Rattle.std.specs.Prelude.{Result, Ok, Err}

-- the result of a step that continues from the result of another
abbrev pub then_do : {A B F : Type 0} → Result A F → (A → Result B F) → Result B F
then_do (Ok a) next = next a
then_do (Err fault) next = Err fault
