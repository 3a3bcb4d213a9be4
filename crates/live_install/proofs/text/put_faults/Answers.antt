use Rattle.std.proofs.Common.{◌++◌, ℕ, List, ap, sym, ◌∙◌, append_assoc}
use Rattle.ccp_base.specs.declared.exchange.Notice.{Notice}
use Rattle.open_flow.specs.Entries.{step_place}
use Rattle.live_install.specs.RolloutText.{fault_lines}
use Rattle.report_lines.specs.FaultLine.{placed_line}
use Rattle.live_install.specs.BookText.{failures_in}
use Rattle.live_install.proofs.BookLemmas.{placed-line}
use Rattle.live_install.proofs.text.put_faults.Goals as goal

pub loop-notice-preserved : goal.loop-notice-preserved
loop-notice-preserved c =
    let l = c.loop-notice in
    let entries = c.args.entries.now in
    let notice = c.in-Some.notice.now in
    let rest = c.in-Some.rest.now in
    ap (λ (text : List ℕ). text ++ fault_lines (failures_in entries rest)) c.in_ok-put_notice.ensures
    ∙ append_assoc l.text (placed_line notice (step_place entries notice.program notice.index)) (fault_lines (failures_in entries rest))
    ∙ ap (λ (lines : List ℕ). l.text ++ lines) (placed-line notice (step_place entries notice.program notice.index) (failures_in entries rest))
    ∙ ap (λ (notices : List Notice). l.text ++ fault_lines (failures_in entries notices)) (sym c.in-Some.ensures.cases.0)
    ∙ l.invariant
