use Rattle.std.proofs.Common.{◌∙◌, ◌++◌, ℕ, List, length, ap, sym, subst}
use Rattle.std.specs.List.{All}
use Rattle.ccp_base.specs.declared.exchange.Report.{Report}
use Rattle.portus_core.specs.Programs.{Form}
use Rattle.portus_core.specs.ProgramForm.{form_of}
use Rattle.report_lines.specs.declared.end_line.End.{End}
use Rattle.report_lines.specs.EndLine.{end_line}
use Rattle.report_lines.specs.ReportLine.{report_lines}
use Rattle.campaign_report.specs.FoldText.{ShowsAll, fold_text}
use Rattle.fold_run.specs.Fold.{fold_reports, fold_fault}
use Rattle.ccp_run.specs.Fold.{stopping_line}
use Rattle.ccp_run.proofs.FoldLemmas.{reports_show_all, end_shows_all, line_of_notice}
use Rattle.ccp_run.proofs.modes.fold.shown.Goals as goal

pub fold_text-requires-clause-reports : goal.fold_text-requires-clause-reports
fold_text-requires-clause-reports c =
    let form = form_of c.args.built.now.program in
    subst (λ (reports : List Report). All (ShowsAll form.fields) reports) (sym c.in_ok-folded.ensures.reports) (reports_show_all form c.args.acks.now)

pub fold_text-requires-clause-fault : goal.fold_text-requires-clause-fault
fold_text-requires-clause-fault c = λ notice is. (c.in_ok-folded.ensures.notice notice is).placed

pub fold_text-requires-clause-end : goal.fold_text-requires-clause-end
fold_text-requires-clause-end c =
    ap (λ (end : End). length end.fields) c.in_ok-folded.ensures.end ∙ end_shows_all (form_of c.args.built.now.program) c.args.acks.now

pub returns-clause-text : goal.returns-clause-text
returns-clause-text c =
    let form : Form = form_of c.args.built.now.program in
    let acks = c.args.acks.now in
    let places = c.args.built.now.places in
    let folded = c.in_ok-folded.folded in
    let reports = fold_reports form acks in
    c.in_ok-text.ensures
    ∙ (ap (λ (r : List Report). fold_text form.fields places r folded.fault folded.end) c.in_ok-folded.ensures.reports
    ∙ (ap (λ (line : List ℕ). report_lines form.fields reports ++ (line ++ end_line form.fields (length reports) folded.end)) (line_of_notice acks places folded.end.cwnd folded.fault (fold_fault form acks) c.in_ok-folded.ensures.notice c.in_ok-folded.ensures.fault)
    ∙ ap (λ (end : End). report_lines form.fields reports ++ (stopping_line (fold_fault form acks) ++ end_line form.fields (length reports) end)) c.in_ok-folded.ensures.end))
