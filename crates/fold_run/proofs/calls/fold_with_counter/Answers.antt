use Rattle.std.proofs.Common.{ℕ, ap, sym, subst}
use Rattle.report_lines.specs.declared.end_line.End.{End}
use Rattle.fold_run.specs.Fold.{IsFoldNotice}
use Rattle.fold_run.proofs.calls.fold_with_counter.Goals as goal

pub returns-clause-notice : goal.returns-clause-notice
returns-clause-notice g c notice is =
    subst (λ (window : ℕ). IsFoldNotice c.args.acks.now c.args.built.now.places window notice)
    (sym (ap (λ (end : End). end.cwnd) c.end-end.ensures))
    (c.in_ok-folding.ensures.notice notice is)
