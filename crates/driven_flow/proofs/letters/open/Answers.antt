use Rattle.std.proofs.Common.{◌≡◌, None, length, sym, subst}
use Rattle.ccp_base.specs.FieldReg.{first_bad_pair}
use Rattle.reg_code.specs.declared.code.Code.{Code}
use Rattle.driven_flow.proofs.StepLemmas.{summary-open, is-open}
use Rattle.driven_flow.proofs.letters.open.Goals as goal

pub open-requires-clause-good : goal.open-requires-clause-good
open-requires-clause-good c =
    subst (λ (k : Code). first_bad_pair (length k.controls) c.args.values.now ≡ None) (sym c.code_of-code.ensures) c.requires.good

pub returns-clause-driven : goal.returns-clause-driven
returns-clause-driven c =
    let opened = c.in_ok-running.ensures in
    is-open c.args.programs.now c.args.case.now c.args.program c.args.values.now c.code_of-code.result.now.code c.initial_window-window.result
    c.in_ok-running.running c.code_of-code.ensures opened.start opened.running opened.fits opened.size c.requires.known

pub returns-clause-summary : goal.returns-clause-summary
returns-clause-summary c =
    summary-open c.args.programs.now c.args.case.now c.args.program c.args.values.now c.code_of-code.result.now.code c.initial_window-window.result
    c.in_ok-running.running c.code_of-code.ensures c.in_ok-running.ensures.start c.initial_window-window.ensures
