-- That the built-in texts are programs, by the walks over them.
use Rattle.std.proofs.Common.{◌≡◌, ℕ, zero, suc, ◌<◌, Bool, true, false, Result, Ok, Err, List, [], ◌∷◌, length, map, get_or, refl, ap, arith}
use Rattle.std.specs.List.{AllByRecursion}
use Rattle.portus_core.specs.Programs.{Form}
use Rattle.portus_build.specs.Builtins.{BuiltIn, builtins, builtin_text}
use Rattle.portus_build.specs.BuiltinPrograms.{field_numbers, known_fields, control_numbers, IsBuiltIn, AreBuiltIn}
use Rattle.portus_build.specs.Texts.{IsBuiltFrom}
use Rattle.portus_build.specs.TextWalk.{program_of, ComesTo}
use Rattle.portus_build.specs.declared.fault.BuildFault.{BuildFault}
use Rattle.portus_build.proofs.WalkLemmas.{walks_exact}

abbrev pub is_built : Result Form BuildFault → Bool
is_built (Ok form) = true
is_built (Err fault) = false

abbrev no_form : Form
no_form = record { fields = []; controls = []; blocks = [] }

abbrev form_or : Result Form BuildFault → Form
form_or (Ok form) = form
form_or (Err fault) = no_form

built_from : (text : List ℕ) (came : Result Form BuildFault) → ComesTo text came → is_built came ≡ true → IsBuiltFrom text (form_or came)
built_from text (Ok form) comes is = comes
built_from text (Err fault) comes is = absurd (cc)

-- the walks find a program of this text, with what its row says
record IsFound (program : BuiltIn) : Type 0 where
  is : is_built (program_of program.text) ≡ true
  fields : field_numbers (form_or (program_of program.text)) ≡ known_fields
  controls : control_numbers (form_or (program_of program.text)) ≡ program.written

are_found : AllByRecursion IsFound builtins
unfolding program_of
are_found = (
  record { is = refl; fields = refl; controls = refl },
  (
    record { is = refl; fields = refl; controls = refl },
    (record { is = refl; fields = refl; controls = refl }, tt),
  ),
)

each_built : (programs : List BuiltIn) → AllByRecursion IsFound programs → AllByRecursion IsBuiltIn programs
each_built [] found = tt
each_built (program ∷ rest) found = (
  record {
    form = form_or (program_of program.text);
    built = built_from program.text (program_of program.text) (walks_exact program.text) found.0.is;
    fields = found.0.fields;
    controls = found.0.controls;
  },
  each_built rest found.1,
)

pub are_built_in : AreBuiltIn
are_built_in = each_built builtins are_found

each_read : (programs : List BuiltIn) (number : ℕ) → AllByRecursion IsFound programs → number < length programs
    → is_built (program_of (get_or (map (λ program. program.text) programs) number [])) ≡ true
each_read [] number found below = absurd (omega (arith, below))
each_read (program ∷ rest) zero found below = found.0.is
each_read (program ∷ rest) (suc number) found below = each_read rest number found.1 (omega (arith, below))

-- no built-in text is refused
pub never_refused : (number : ℕ) (fault : BuildFault) → number < length builtins → program_of (builtin_text number) ≡ Err fault → ⊥
never_refused number fault below refused =
    let built = each_read builtins number are_found below in let is = ap is_built refused in absurd (cc)
