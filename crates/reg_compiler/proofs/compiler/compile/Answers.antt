use Rattle.std.proofs.Common.{◌≤◌, arith, length, sym, ◌∙◌, subst}
use Rattle.reg_code.specs.declared.code.Code.{Code}
use Rattle.portus_core.specs.ProgramForm.{form_of}
use Rattle.reg_code.specs.AcceptedCode.{IsAccepted}
use Rattle.reg_compiler.specs.Counts.{form_count, lean}
use Rattle.reg_compiler.proofs.NumberedPrograms.{numbered-valid}
use Rattle.reg_compiler.proofs.FittingNeeds.{fits-form}
use Rattle.reg_compiler.proofs.Accepted.{IsAccepted-compiled}
use Rattle.reg_compiler.proofs.Sizes.{length-lines, lean-count}
use Rattle.reg_compiler.proofs.CompiledSimulates.{Simulates-emitted, length-lean, length-count}
use Rattle.reg_compiler.proofs.compiler.compile.Goals as goal

pub emit-requires-clause-names : goal.emit-requires-clause-names
emit-requires-clause-names c = numbered-valid (form_of c.args.program) c.args.program.valid

pub emit-requires-clause-fits : goal.emit-requires-clause-fits
emit-requires-clause-fits c = fits-form (form_of c.args.program) (cc)

pub emit-requires-clause-size : goal.emit-requires-clause-size
emit-requires-clause-size c =
    let form = form_of c.args.program in
    let few : form_count form ≤ 256 = omega arith in
    omega (arith, length-lines form, lean-count form)

pub new-requires : goal.new-requires
new-requires c =
    let form = form_of c.args.program in
    let few : form_count form ≤ 256 = omega arith in
    subst (λ (code : Code). IsAccepted code) (sym c.in_ok-code.ensures.code) (IsAccepted-compiled form c.args.program.valid (cc) few)

pub invariant_of-result-clause-simulates : goal.invariant_of-result-clause-simulates
invariant_of-result-clause-simulates c =
    let form = form_of c.args.program in
    let few : form_count form ≤ 256 = omega arith in
    Simulates-emitted form c.new.result.code c.in_ok-code.field-0.places c.args.program.valid (cc) few (c.new.ensures ∙ c.in_ok-code.ensures.code) c.in_ok-code.ensures.places

pub returns-clause-within : goal.returns-clause-within
returns-clause-within c =
    let form = form_of c.args.program in
    subst (λ (code : Code). length code.instrs ≤ form_count form) (sym (c.new.ensures ∙ c.in_ok-code.ensures.code)) (length-count form)

pub returns-clause-lean : goal.returns-clause-lean
returns-clause-lean c =
    let form = form_of c.args.program in
    subst (λ (code : Code). length code.instrs ≤ lean form) (sym (c.new.ensures ∙ c.in_ok-code.ensures.code)) (length-lean form)
