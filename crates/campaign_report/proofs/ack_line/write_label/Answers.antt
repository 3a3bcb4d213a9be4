use Rattle.std.proofs.Common.{◌∙◌, ◌-◌, ℕ, List, drop, ap, arith}
use borrow.Rule.Slice.PartMut.{put_mid}
use Rattle.campaign_report.proofs.LabelLemmas.{pasted}
use Rattle.campaign_report.proofs.ack_line.write_label.Goals as goal

pub returns-clause-written : goal.returns-clause-written
returns-clause-written c =
    let end = c.args.end in
    let line : List ℕ = c.args.line.now in
    ap (λ (bytes : List ℕ). drop (end - c.args.count) (put_mid (end - 20) (end - (end - 20)) line bytes)) c.copy_from_slice.ensures.after
    ∙ pasted line c.args.row.now c.args.count end (omega arith) (omega arith) (omega arith) (omega arith)
