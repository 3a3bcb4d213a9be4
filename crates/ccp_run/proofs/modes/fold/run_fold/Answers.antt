use Rattle.std.proofs.Common.{◌≡◌, List, ℕ, subst}
use Rattle.std.specs.Prelude.{IfOk}
use Rattle.ccp_run.proofs.modes.fold.run_fold.Goals as goal

pub returns-in-Ok-clause-text : goal.returns-in-Ok-clause-text
returns-in-Ok-clause-text c =
    subst (λ (text : List ℕ). IfOk c.fold_made.result (λ output. output.text ≡ text)) c.in-Ok.ensures.text c.fold_made.ensures.text

pub returns-in-Ok-clause-ran : goal.returns-in-Ok-clause-ran
returns-in-Ok-clause-ran c =
    subst (λ (ran : ℕ). IfOk c.fold_made.result (λ output. output.ran ≡ ran)) c.in-Ok.ensures.ran c.fold_made.ensures.ran
