-- Programs by their numbers.
use Rattle.std.specs.Prelude.{ℕ, List, map}
use Rattle.portus_core.specs.Programs.{Form}
use Rattle.portus_core.specs.ProgramForm.{form_of}
use Rattle.reg_compiler.specs.declared.built.Built.{Built}

-- programs, each with its number
abbrev pub Sources : Type 0
Sources = List (ℕ × Form)

-- the sources of built programs, each with its number
abbrev pub sources_of : List (ℕ × Built) → Sources
sources_of programs = map (λ (program : ℕ × Built). (program.0, form_of program.1.program)) programs
