-- What is built of a text is what the text stands for.
use Rattle.std.specs.Prelude.{◌≡◌, ◌≢◌, ℕ, true, false, Result, Ok, Err, IfOk, IfErr, List, refl}
use Rattle.std.proofs.Common.{ap}
use Rattle.ccp_base.specs.Outside.{no_memory}
use Rattle.portus_core.specs.ProgramForm.{form_of}
use Rattle.reg_compiler.specs.declared.built.Built.{Built}
use Rattle.portus_build.specs.Settled.{IsSettled}
use Rattle.portus_build.specs.Texts.{IsNoProgram, IsBuiltFrom}
use Rattle.portus_build.specs.declared.fault.BuildFault.{BuildFault}
use Rattle.portus_build.specs.declared.fault.BuildFault.TheVariants.{NoMemory}
use Rattle.portus_build.proofs.AnswerLemmas.{built_ok, built_err}
use Rattle.open_flow.specs.BuiltTexts.{is_no_memory, IsEntry}

pub is_entry : (text : List ℕ) → IsSettled text → (answer : Result Built BuildFault) → IfErr answer (λ e. is_no_memory e ≡ false)
    → IfOk answer (λ b. IsBuiltFrom text (form_of b.program)) → IfErr answer (λ e. e ≢ NoMemory no_memory → IsNoProgram text e)
    → IsEntry text answer
is_entry text settled (Ok built) some found refused = record {
  answers = built_ok text settled (Ok built) found;
  ruled = refl;
}
is_entry text settled (Err e) some found refused =
    let is : is_no_memory e ≡ false = some in
    let other : e ≢ NoMemory no_memory = λ same. let no : is_no_memory e ≡ true = ap is_no_memory same in (cc) in
    record {
      answers = built_err text settled (Err e) refused other;
      ruled = settled.by_rule e (refused other);
    }
