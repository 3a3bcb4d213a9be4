-- Programs with the code that the compiler makes of them.
use Rattle.std.specs.Prelude.{◌≡◌, ℕ, List}
use Rattle.std.specs.List.{All}
use Rattle.portus_core.specs.ProgramForm.{form_of}
use Rattle.reg_compiler.specs.CompiledCode.{code_of, places_of}
use Rattle.reg_compiler.specs.declared.built.Built.{Built}

-- a built program's code, and the places of its instructions, are those that are defined for the program
pub record IsCompiled (built : Built) : Type 0 where
  pub code : built.code.code ≡ code_of (form_of built.program)
  pub places : built.places ≡ places_of (form_of built.program)

-- each of the programs is compiled
abbrev pub AreCompiled : List (ℕ × Built) → Type 0
AreCompiled programs = All (λ program. IsCompiled program.1) programs
