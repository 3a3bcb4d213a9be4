-- Each text stands for one program that is compiled, or has one first refusal.
use Rattle.std.specs.Prelude.{◌≡◌, ◌⊎◌, ℕ, Bool, true, false, List}
use Rattle.portus_core.specs.Programs.{Form}
use Rattle.portus_parser.specs.declared.fault.ParseFault.TheVariants as parse
use Rattle.scope_types.specs.declared.fault.ScopeFault.TheVariants as scope
use Rattle.reg_compiler.specs.declared.fault.CompileFault.TheVariants as compile
use Rattle.portus_build.specs.declared.fault.BuildFault.{BuildFault}
use Rattle.portus_build.specs.declared.fault.BuildFault.TheVariants.{Parse, Scope, Compile, NoMemory}
use Rattle.portus_build.specs.Texts.{IsNoProgram, IsBuiltFrom}

-- whether memory ran out, in building or in one of its steps
abbrev pub runs_out_of_memory : BuildFault → Bool
runs_out_of_memory (NoMemory _) = true
runs_out_of_memory (Parse (parse.NoMemory _)) = true
runs_out_of_memory (Parse fault) = false
runs_out_of_memory (Scope (scope.NoMemory _)) = true
runs_out_of_memory (Scope fault) = false
runs_out_of_memory (Compile (compile.NoMemory _)) = true
runs_out_of_memory (Compile fault) = false

-- a text stands for one program that is compiled or has one first refusal, which isn't out of memory, and not both
pub record IsSettled (text : List ℕ) : Type 0 where
  pub one : (left right : Form) → IsBuiltFrom text left → IsBuiltFrom text right → left ≡ right
  pub one_refusal : (left right : BuildFault) → IsNoProgram text left → IsNoProgram text right → left ≡ right
  pub by_rule : (refusal : BuildFault) → IsNoProgram text refusal → runs_out_of_memory refusal ≡ false
  pub apart : (form : Form) (refusal : BuildFault) → IsBuiltFrom text form → IsNoProgram text refusal → ⊥
  pub some : ((form : Form) × IsBuiltFrom text form) ⊎ ((refusal : BuildFault) × IsNoProgram text refusal)

-- every text is settled
abbrev pub AreSettled : Type 0
AreSettled = (text : List ℕ) → IsSettled text
