-- Forms stand for one program or have one first refusal.
use Rattle.std.proofs.Common.{◌≡◌, ◌⊎◌, inl, inr, ◌∙◌, sym, refl, Result, Ok, Err}
use Rattle.portus_core.specs.Programs.{Form}
use Rattle.portus_core.specs.Trees.{Nodes}
use Rattle.scope_types.specs.declared.fault.ScopeFault.{ScopeFault}
use Rattle.scope_types.specs.ProgramWalk.{source_walk}
use Rattle.scope_types.specs.WellScoped.{IsScoped}
use Rattle.scope_types.specs.Outcomes.{IsRefused, IsSettled}
use Rattle.scope_types.proofs.Agreement.{scoped_from}
use Rattle.scope_types.proofs.GivenSource.{source_given, scoped_once}
use Rattle.scope_types.proofs.RuleRefusals.{never_memory}

abbrev made : ScopeFault → Result Form ScopeFault
made refusal = Err refusal

refused_once : (nodes : Nodes) (left right : ScopeFault) → IsRefused nodes left → IsRefused nodes right → left ≡ right
refused_once nodes left right h k =
    let same : made left ≡ made right = sym h ∙ k in cc

scoped_apart : (nodes : Nodes) (form : Form) (refusal : ScopeFault) → IsScoped nodes form → IsRefused nodes refusal → ⊥
scoped_apart nodes form refusal h k = let same : Ok form ≡ Err refusal = sym (source_given nodes form h) ∙ k in cc

either : (nodes : Nodes) (outcome : Result Form ScopeFault) → source_walk nodes ≡ outcome → ((form : Form) × IsScoped nodes form) ⊎ ((refusal : ScopeFault) × IsRefused nodes refusal)
either nodes (Ok form) e = inl (form, scoped_from nodes form e)
either nodes (Err refusal) e = inr (refusal, e)

pub IsSettled-always : (nodes : Nodes) → IsSettled nodes
IsSettled-always nodes = record {
  one = scoped_once nodes;
  one_refusal = refused_once nodes;
  by_rule = never_memory nodes;
  apart = scoped_apart nodes;
  some = either nodes (source_walk nodes) refl;
}
