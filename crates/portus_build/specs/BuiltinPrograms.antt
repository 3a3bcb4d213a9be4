-- The programs of the built-in texts.
use Rattle.std.specs.Prelude.{◌≡◌, ℕ, Option, Some, List, [], ◌∷◌}
use Rattle.std.specs.List.{AllByRecursion}
use Rattle.portus_core.specs.Programs.{Form}
use Rattle.portus_build.specs.Builtins.{BuiltIn, builtins}
use Rattle.portus_build.specs.Looks.{look_of}
use Rattle.portus_build.specs.Texts.{IsBuiltFrom}

-- the numbers of the fields that agents read
abbrev pub field_numbers : Form → List (Option ℕ)
field_numbers form =
    (look_of form).acked ∷ (look_of form).loss ∷ (look_of form).timeout ∷ (look_of form).rtt ∷ (look_of form).inflight
    ∷ (look_of form).ecn ∷ []

-- those numbers in a built-in program
abbrev pub known_fields : List (Option ℕ)
known_fields = Some 0 ∷ Some 2 ∷ Some 3 ∷ Some 4 ∷ Some 5 ∷ Some 6 ∷ []

-- the numbers of the control variables that agents write
abbrev pub control_numbers : Form → List (Option ℕ)
control_numbers form = (look_of form).cap ∷ (look_of form).mss ∷ []

-- a built-in text is a program that is compiled, with all fields that agents read; its control variables that they
-- write have the numbers that its row says
pub record IsBuiltIn (program : BuiltIn) : Type 0 where
  pub form : Form
  pub built : IsBuiltFrom program.text form
  pub fields : field_numbers form ≡ known_fields
  pub controls : control_numbers form ≡ program.written

abbrev pub AreBuiltIn : Type 0
AreBuiltIn = AllByRecursion IsBuiltIn builtins
