-- The program of forms, or their first refusal.
use Rattle.std.specs.Prelude.{◌≡◌, ◌⊎◌, Result, Err, MatchResult}
use Rattle.ccp_base.specs.Outside.{no_memory}
use Rattle.portus_core.specs.Trees.{Nodes}
use Rattle.portus_core.specs.Programs.{Form}
use Rattle.portus_core.specs.ProgramForm.{form_of}
use Rattle.portus_core.specs.declared.program.Program.{Program}
use Rattle.scope_types.specs.declared.fault.ScopeFault.{ScopeFault}
use Rattle.scope_types.specs.declared.fault.ScopeFault.TheVariants.{NoMemory}
use Rattle.scope_types.specs.ProgramWalk.{source_walk}
use Rattle.scope_types.specs.WellScoped.{IsScoped}

-- the answer is the program of this form, or out of memory
abbrev pub ScopesAs : Result Program ScopeFault → Form → Type 0
ScopesAs result form = MatchResult result (λ program. form_of program ≡ form) (λ fault. fault ≡ NoMemory no_memory)

-- the first refusal of forms, in the order of their text
abbrev pub IsRefused : Nodes → ScopeFault → Type 0
IsRefused nodes refusal = source_walk nodes ≡ Err refusal

-- forms have one program or one first refusal, which is by a rule, and not both
pub record IsSettled (nodes : Nodes) : Type 0 where
  pub one : (left right : Form) → IsScoped nodes left → IsScoped nodes right → left ≡ right
  pub one_refusal : (left right : ScopeFault) → IsRefused nodes left → IsRefused nodes right → left ≡ right
  pub by_rule : IsRefused nodes (NoMemory no_memory) → ⊥
  pub apart : (form : Form) (refusal : ScopeFault) → IsScoped nodes form → IsRefused nodes refusal → ⊥
  pub some : ((form : Form) × IsScoped nodes form) ⊎ ((refusal : ScopeFault) × IsRefused nodes refusal)
