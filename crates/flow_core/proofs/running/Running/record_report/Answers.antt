use Rattle.std.proofs.Common.{ap, ◌∙◌, ◌+◌}
use Rattle.ccp_base.specs.RunningEpochs.{report_at, reported_epoch}
use Rattle.flow_core.specs.Runnings.{reports_in}
use Rattle.flow_lists.specs.ReportWords.{with_fields}
use Rattle.flow_core.proofs.RunningLemmas.{noted-report}
use Rattle.flow_core.proofs.running.Running.record_report.Goals as goal

pub returns : goal.returns
returns c =
    let s = c.args.self.now in
    let put = c.put_last_report.ensures in
    let report =
    ap (with_fields s.machine.report) c.report-report.ensures.report
    ∙ (λ i. report_at s.epoch c.args.flow (c.from-end.ensures i + 1) c.args.ack.now.now (c.cwnd-cwnd.ensures i) (c.rate-rate.ensures i) s.machine.report) in
    noted-report c.args.flow s c.args.ack.now c.put_last_report.new.machine c.put_last_report.new.outbox (with_fields s.machine.report c.report-report.result) c.report-report.new.self
    put.machine
    (put.gained (reports_in s.machine.further s.outbox.slots) c.requires.can.lies)
    put.untold
    report
    (c.report-report.ensures.span ∙ (λ i. reported_epoch (c.from-end.ensures i + 1) s.epoch))
    put.words put.as_many put.size
