-- An answer that agrees with the walk over the forms agrees with what the forms stand for.
use Rattle.std.proofs.Common.{◌≡◌, ◌≢◌, ◌∙◌, sym, subst, refl, Result, Ok, Err, IfOk, IfErr, MatchResult}
use Rattle.std.proofs.lemmas.Result.{IfOk-weaker}
use Rattle.ccp_base.specs.Outside.{no_memory}
use Rattle.portus_core.specs.Programs.{Form}
use Rattle.portus_core.specs.Trees.{Nodes}
use Rattle.scope_types.specs.declared.fault.ScopeFault.{ScopeFault}
use Rattle.scope_types.specs.declared.fault.ScopeFault.TheVariants.{Unknown, Twice, NotWritable, Kind, Misplaced, Micros, TooMany, NoMemory}
use Rattle.scope_types.specs.ProgramWalk.{source_walk}
use Rattle.scope_types.specs.WellScoped.{IsScoped}
use Rattle.scope_types.proofs.ScopedSource.{source_scoped}
use Rattle.scope_types.proofs.GivenSource.{source_given}

-- forms stand for what their walk gives
pub scoped_from : (nodes : Nodes) (form : Form) → source_walk nodes ≡ Ok form → IsScoped nodes form
scoped_from nodes form e = subst (λ (r : Result Form ScopeFault). IfOk r (IsScoped nodes)) e (source_scoped nodes)

refused_only : (nodes : Nodes) (e : ScopeFault) → (e ≢ NoMemory no_memory → source_walk nodes ≡ Err e) → (form : Form) → source_walk nodes ≡ Ok form → e ≡ NoMemory no_memory
refused_only nodes (NoMemory _) h form g = refl
refused_only nodes (Unknown at) h form g = absurd (let f : Ok form ≡ Err (Unknown at) = sym g ∙ h (λ k. cc) in cc)
refused_only nodes (Twice at) h form g = absurd (let f : Ok form ≡ Err (Twice at) = sym g ∙ h (λ k. cc) in cc)
refused_only nodes (NotWritable at) h form g = absurd (let f : Ok form ≡ Err (NotWritable at) = sym g ∙ h (λ k. cc) in cc)
refused_only nodes (Kind at) h form g = absurd (let f : Ok form ≡ Err (Kind at) = sym g ∙ h (λ k. cc) in cc)
refused_only nodes (Misplaced at) h form g = absurd (let f : Ok form ≡ Err (Misplaced at) = sym g ∙ h (λ k. cc) in cc)
refused_only nodes (Micros at) h form g = absurd (let f : Ok form ≡ Err (Micros at) = sym g ∙ h (λ k. cc) in cc)
refused_only nodes (TooMany at what) h form g = absurd (let f : Ok form ≡ Err (TooMany at what) = sym g ∙ h (λ k. cc) in cc)

-- if forms stand for a program, the answer is that program, or there was no memory
pub only_that : {P : Type 0} (nodes : Nodes) (answer : Result P ScopeFault) (shape : P → Form) → IfOk answer (λ p. source_walk nodes ≡ Ok (shape p)) → IfErr answer (λ e. e ≢ NoMemory no_memory → source_walk nodes ≡ Err e) → (form : Form) → IsScoped nodes form → MatchResult answer (λ p. shape p ≡ form) (λ e. e ≡ NoMemory no_memory)
only_that nodes (Ok p) shape ok err form h = let f : Ok (shape p) ≡ Ok form = sym ok ∙ source_given nodes form h in cc
only_that nodes (Err e) shape ok err form h = refused_only nodes e err form (source_given nodes form h)

-- the same, if the nodes are named twice
pub found_over : {P : Type 0} (answer : Result P ScopeFault) (shape : P → Form) (nodes same : Nodes) → nodes ≡ same → IfOk answer (λ p. source_walk nodes ≡ Ok (shape p)) → IfOk answer (λ p. IsScoped same (shape p))
found_over answer shape nodes same e ok =
    IfOk-weaker answer _ _ (λ p f. subst (λ ns. IsScoped ns (shape p)) e (scoped_from nodes (shape p) f)) ok

pub only_over : {P : Type 0} (answer : Result P ScopeFault) (shape : P → Form) (nodes same : Nodes) → nodes ≡ same → IfOk answer (λ p. source_walk nodes ≡ Ok (shape p)) → IfErr answer (λ e. e ≢ NoMemory no_memory → source_walk nodes ≡ Err e) → (form : Form) → IsScoped same form → MatchResult answer (λ p. shape p ≡ form) (λ e. e ≡ NoMemory no_memory)
only_over answer shape nodes same e ok err form h = only_that nodes answer shape ok err form (subst (λ ns. IsScoped ns form) (sym e) h)
