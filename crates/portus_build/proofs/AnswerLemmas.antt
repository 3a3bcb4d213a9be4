-- What a text is built into, or its refusal, is what the walks over the text find.
use Rattle.std.proofs.Common.{◌≡◌, ◌≢◌, List, ℕ, Result, Ok, Err, IfOk, IfErr, ap}
use Rattle.ccp_base.specs.Outside.{no_memory}
use Rattle.portus_core.specs.Programs.{Form}
use Rattle.portus_core.specs.ProgramForm.{form_of}
use Rattle.reg_compiler.specs.declared.built.Built.{Built}
use Rattle.portus_build.specs.Settled.{IsSettled}
use Rattle.portus_build.specs.Texts.{IsNoProgram, IsBuiltFrom}
use Rattle.portus_build.specs.TextWalk.{program_of, ComesTo}
use Rattle.portus_build.specs.declared.fault.BuildFault.{BuildFault}
use Rattle.portus_build.specs.declared.fault.BuildFault.TheVariants.{NoMemory}
use Rattle.portus_build.proofs.WalkLemmas.{walks_exact}

same_ok : (text : List ℕ) → IsSettled text → (came : Result Form BuildFault) → ComesTo text came → (form : Form) → IsBuiltFrom text form → came ≡ Ok form
same_ok text settled (Ok other) comes form built = ap Ok (settled.one other form comes built)
same_ok text settled (Err fault) comes form built = absurd (settled.apart form fault built comes)

same_err : (text : List ℕ) → IsSettled text → (came : Result Form BuildFault) → ComesTo text came → (fault : BuildFault) → IsNoProgram text fault → came ≡ Err fault
same_err text settled (Ok form) comes fault refused = absurd (settled.apart form fault comes refused)
same_err text settled (Err other) comes fault refused = ap Err (settled.one_refusal other fault comes refused)

pub built_ok : (text : List ℕ) → IsSettled text → (result : Result Built BuildFault) → IfOk result (λ b. IsBuiltFrom text (form_of b.program))
    → IfOk result (λ b. program_of text ≡ Ok (form_of b.program))
built_ok text settled (Ok b) found = same_ok text settled (program_of text) (walks_exact text) (form_of b.program) found
built_ok text settled (Err e) found = tt

pub built_err : (text : List ℕ) → IsSettled text → (result : Result Built BuildFault) → IfErr result (λ e. e ≢ NoMemory no_memory → IsNoProgram text e)
    → IfErr result (λ e. e ≢ NoMemory no_memory → program_of text ≡ Err e)
built_err text settled (Ok b) refused = tt
built_err text settled (Err e) refused = λ other. same_err text settled (program_of text) (walks_exact text) e (refused other)
