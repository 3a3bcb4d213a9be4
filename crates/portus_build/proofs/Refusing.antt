-- A text whose forms are refused has no other refusal.
use Rattle.std.proofs.Common.{◌≡◌, ◌≢◌, ◌⊎◌, inl, inr, ℕ, List, Result, Ok, Err, refl, sym, ap, subst}
use Rattle.std.specs.Result.{IsErr, IsErrAnd}
use Rattle.ccp_base.specs.Outside.{no_memory}
use Rattle.reg_compiler.specs.declared.built.Built.{Built}
use Rattle.portus_core.specs.Programs.{Form}
use Rattle.portus_core.specs.Trees.{Nodes}
use Rattle.portus_parser.specs.declared.fault.ParseFault.{ParseFault}
use Rattle.portus_parser.specs.Spelling.{Spells}
use Rattle.portus_parser.specs.Refusals.{IsRefused}
use Rattle.scope_types.specs.declared.fault.ScopeFault.{ScopeFault}
use Rattle.scope_types.specs.declared.fault.ScopeFault.TheVariants as scope
use Rattle.scope_types.specs.ProgramWalk.{source_walk}
use Rattle.scope_types.specs.WellScoped.{IsScoped}
use Rattle.portus_build.specs.declared.fault.BuildFault.{BuildFault}
use Rattle.portus_build.specs.declared.fault.BuildFault.TheVariants.{Parse, Scope, Compile, NoMemory}
use Rattle.portus_build.specs.Outcomes.{RefusesAs}
use Rattle.portus_build.specs.StepFaults.{scope_fault}
use Rattle.portus_build.specs.Texts.{IsNoProgram}

-- the refusal is reported, unless memory ran out
told : (e fault : ScopeFault) → (e ≢ scope.NoMemory no_memory → e ≡ fault) → (scope_fault e ≡ Scope fault) ⊎ (scope_fault e ≡ NoMemory no_memory)
told (scope.NoMemory _) fault h = inr refl
told e fault h = inl (ap Scope (h (λ q. cc)))

module _ (text : List ℕ) (nodes : Nodes) (e : ScopeFault)
    (read : (fault : ParseFault) → IsRefused text fault → ⊥) (only : (forms : Nodes) → Spells text forms → nodes ≡ forms)
    (no_form : (form : Form) → IsScoped nodes form → e ≡ scope.NoMemory no_memory) (walk : e ≢ scope.NoMemory no_memory → source_walk nodes ≡ Err e) where
  pub scope_refuses : (refusal : BuildFault) → IsNoProgram text refusal → (scope_fault e ≡ refusal) ⊎ (scope_fault e ≡ NoMemory no_memory)
  scope_refuses (Parse fault) h = absurd (read fault h)
  scope_refuses (Scope fault) h =
      let same : nodes ≡ h.forms = only h.forms h.spelled in
      told e fault (λ n. let p = walk n in let q = h.refused in let r = ap source_walk same in cc)
  scope_refuses (Compile fault) h =
      let same : nodes ≡ h.program.forms = only h.program.forms h.program.spelled in
      inr (ap scope_fault (no_form h.form (subst (λ (ns : Nodes). IsScoped ns h.form) (sym same) h.program.scoped)))
  scope_refuses (NoMemory _) h = absurd h

pub refuses_as : (result : Result Built BuildFault) (fault refusal : BuildFault) → IsErr result → IsErrAnd result (λ e. e ≡ fault) → (fault ≡ refusal) ⊎ (fault ≡ NoMemory no_memory) → RefusesAs result refusal
refuses_as (Ok built) fault refusal is_err same h = cc
refuses_as (Err e) fault refusal is_err same h = subst (λ (f : BuildFault). (f ≡ refusal) ⊎ (f ≡ NoMemory no_memory)) (sym same) h
