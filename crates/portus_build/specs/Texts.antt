-- What texts stand for.
use Rattle.std.specs.Prelude.{◌≡◌, ℕ, None, Some, Err, List}
use Rattle.portus_core.specs.Programs.{Form}
use Rattle.portus_core.specs.Trees.{Nodes}
use Rattle.portus_parser.specs.Spelling.{Spells}
use Rattle.portus_parser.specs.Refusals.{IsRefused}
use Rattle.scope_types.specs.declared.fault.ScopeFault.{ScopeFault}
use Rattle.scope_types.specs.ProgramWalk.{source_walk}
use Rattle.scope_types.specs.WellScoped.{IsScoped}
use Rattle.reg_compiler.specs.declared.fault.CompileFault.{CompileFault}
use Rattle.reg_compiler.specs.Refusal.{refusal_of}
use Rattle.portus_build.specs.declared.fault.BuildFault.{BuildFault}
use Rattle.portus_build.specs.declared.fault.BuildFault.TheVariants.{Parse, Scope, Compile, NoMemory}

-- a text stands for a program: it spells forms, and they are well scoped and that program
pub record StandsFor (text : List ℕ) (form : Form) : Type 0 where
  pub forms : Nodes
  pub spelled : Spells text forms
  pub scoped : IsScoped forms form

-- a text spells forms, and this is their first refusal
pub record IsMisscoped (text : List ℕ) (fault : ScopeFault) : Type 0 where
  pub forms : Nodes
  pub spelled : Spells text forms
  pub refused : source_walk forms ≡ Err fault

-- a text stands for a program, and it isn't compiled for this cause
pub record IsNotCompiled (text : List ℕ) (fault : CompileFault) : Type 0 where
  pub form : Form
  pub program : StandsFor text form
  pub refused : refusal_of form ≡ Some fault

-- a text is built into no code, and this is its first refusal, in the order of reading, scoping and compiling
abbrev pub IsNoProgram : List ℕ → BuildFault → Type 0
IsNoProgram text (Parse fault) = IsRefused text fault
IsNoProgram text (Scope fault) = IsMisscoped text fault
IsNoProgram text (Compile fault) = IsNotCompiled text fault
IsNoProgram text (NoMemory _) = ⊥

-- a text stands for a program that is compiled
pub record IsBuiltFrom (text : List ℕ) (form : Form) : Type 0 where
  pub program : StandsFor text form
  pub compiled : refusal_of form ≡ None
