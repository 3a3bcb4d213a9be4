-- The outcome of reading against what a text spells; each text spells forms or has a refusal.
use Rattle.std.specs.Prelude.{◌≡◌, ◌≢◌, ℕ, ◌⊎◌, Result, Ok, Err, IfOk, IfErr, List}
use Rattle.ccp_base.specs.Outside.{no_memory}
use Rattle.portus_core.specs.declared.tree.Source.{Source}
use Rattle.portus_core.specs.Trees.{Nodes, nodes_of}
use Rattle.portus_parser.specs.declared.fault.ParseFault.{ParseFault}
use Rattle.portus_parser.specs.declared.fault.ParseFault.TheVariants.{NoMemory}
use Rattle.portus_parser.specs.Spelling.{Spells}
use Rattle.portus_parser.specs.Refusals.{IsRefused}

-- the outcome is these forms, or out of memory
abbrev pub ReadsAs : Result Source ParseFault → Nodes → Type 0
ReadsAs (Ok source) forms = nodes_of source.forms.items ≡ forms
ReadsAs (Err fault) forms = fault ≡ NoMemory no_memory

-- the outcome is this refusal, or out of memory
abbrev pub RefusesAs : Result Source ParseFault → ParseFault → Type 0
RefusesAs (Ok source) refusal = ⊥
RefusesAs (Err fault) refusal = (fault ≡ refusal) ⊎ (fault ≡ NoMemory no_memory)

-- the outcome is what the text spells if it spells something, and its first refusal if it has one, both ways
pub record IsExact (text : List ℕ) (outcome : Result Source ParseFault) : Type 0 where
  pub found : IfOk outcome (λ source. Spells text (nodes_of source.forms.items))
  pub only : (forms : Nodes) → Spells text forms → ReadsAs outcome forms
  pub refused : IfErr outcome (λ fault. fault ≢ NoMemory no_memory → IsRefused text fault)
  pub first : (refusal : ParseFault) → IsRefused text refusal → RefusesAs outcome refusal

-- a text spells one list of forms or has one first refusal, and not both
pub record IsSettled (text : List ℕ) : Type 0 where
  pub one : (left right : Nodes) → Spells text left → Spells text right → left ≡ right
  pub one_refusal : (left right : ParseFault) → IsRefused text left → IsRefused text right → left ≡ right
  pub apart : (forms : Nodes) (refusal : ParseFault) → Spells text forms → IsRefused text refusal → ⊥
  pub some : ((forms : Nodes) × Spells text forms) ⊎ ((refusal : ParseFault) × IsRefused text refusal)
