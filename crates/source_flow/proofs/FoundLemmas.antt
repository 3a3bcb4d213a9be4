-- The source with a number is that of the program with that number.
use Rattle.std.specs.Prelude.{◌≡◌, ℕ, ◌==◌, Bool, true, false, if◌then◌else◌, Option, Some, List, [], ◌∷◌}
use Rattle.std.proofs.Common.{ap}
use Rattle.std.proofs.lemmas.Option.{none-some, same_Some}
use Rattle.portus_core.specs.Programs.{Form}
use Rattle.portus_core.specs.ProgramForm.{form_of}
use Rattle.reg_compiler.specs.declared.built.Built.{Built}
use Rattle.flow_core.specs.LiveText.{source_at, sources_of}
use Rattle.source_flow.specs.Sourced.{built_numbered}

found-by : (test : Bool) (one built : Built) (later : Option Built) (rest : Form)
    → (if test then Some one else later) ≡ Some built → (later ≡ Some built → rest ≡ form_of built.program)
    → (if test then form_of one.program else rest) ≡ form_of built.program
found-by true one built later rest is next = ap (λ (b : Built). form_of b.program) (same_Some one built is)
found-by false one built later rest is next = next is

pub source-found : (programs : List (ℕ × Built)) (number : ℕ) (built : Built) → built_numbered programs number ≡ Some built
    → source_at (sources_of programs) number ≡ form_of built.program
source-found [] number built is = absurd (none-some built is)
source-found (one ∷ rest) number built is =
    found-by (one.0 == number) one.1 built (built_numbered rest number) (source_at (sources_of rest) number) is (source-found rest number built)
