use Rattle.portus_core.specs.Trees.{nodes_of}
use Rattle.portus_build.specs.StepFaults.{scope_fault}
use Rattle.portus_build.proofs.Refusing.{refuses_as, scope_refuses}
use Rattle.portus_build.proofs.SettledTexts.{settled_text}
use Rattle.portus_build.proofs.building.build.Goals as goal

pub returns-in_err-program-clause-first : goal.returns-in_err-program-clause-first
returns-in_err-program-clause-first c =
    let source = c.in_ok-source in
    let refused = c.in_err-program in
    let fault = refused.field-0.0 in
    λ refusal is_refusal. refuses_as c.from_residual-in_err-program.result (scope_fault fault) refusal c.from_residual-in_err-program.ensures.0 c.from_residual-in_err-program.ensures.1
    (scope_refuses c.args.text.now (nodes_of source.source.forms.items) fault source.ensures.first source.ensures.only refused.ensures.only refused.ensures.refused refusal is_refusal)

pub returns-in_err-source-clause-settled : goal.returns-in_err-source-clause-settled
returns-in_err-source-clause-settled c = settled_text c.args.text.now

pub returns-in_err-program-clause-settled : goal.returns-in_err-program-clause-settled
returns-in_err-program-clause-settled c = settled_text c.args.text.now

pub returns-in_err-compile-clause-settled : goal.returns-in_err-compile-clause-settled
returns-in_err-compile-clause-settled c = settled_text c.args.text.now
