-- That the programs of a case's roles are among numbered programs.
use Rattle.std.specs.Prelude.{ℕ, ◌==◌, if◌then◌else◌, Option, Some, None, List, [], ◌∷◌}
use Rattle.portus_core.specs.ProgramForm.{form_of}
use Rattle.reg_compiler.specs.declared.built.Built.{Built}
use Rattle.reg_compiler.specs.Simulation.{Simulates}
use Rattle.flow_core.specs.declared.case.Case.{Case}
use Rattle.flow_core.specs.declared.case.Coded.{Coded}

-- the first program with this number, or none
abbrev pub built_numbered : List (ℕ × Built) → ℕ → Option Built
built_numbered [] number = None
built_numbered (one ∷ rest) number = if one.0 == number then Some one.1 else built_numbered rest number

-- the role's code, with the places there, simulates this program
abbrev pub SimulatedBy : Coded → Option Built → Type 0
SimulatedBy coded None = ⊥
SimulatedBy coded (Some built) = Simulates (form_of built.program) coded.code.code built.places

-- each program that the case's roles name is one of these, and the role's code simulates it
pub record IsSourced (programs : List (ℕ × Built)) (case : Case) : Type 0 where
  pub ss : SimulatedBy case.ss (built_numbered programs case.ss.role.number)
  pub ca : SimulatedBy case.ca (built_numbered programs case.ca.role.number)
