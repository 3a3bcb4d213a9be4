use Rattle.std.proofs.Common.{rules, ◌≡◌, length, ap, ◌∙◌}
use Rattle.portus_core.specs.ProgramForm.{form_of}
use Rattle.campaign_report.specs.WireText.{version_for}
use Rattle.campaign_report.proofs.InstallLemmas.{install_meets}
use Rattle.campaign_report.proofs.wire.install_frame.Goals as goal

pub frame_of-requires : goal.frame_of-requires
frame_of-requires c =
    let built = c.args.built.now in
    let fields : c.len.result ≡ length (form_of built.program).fields = search rules in
    install_meets c.args.number built c.in_ok-copy.field-0 c.version_for.result (c.in_ok-copy.ensures ∙ c.code.ensures.code)
    (c.version_for.ensures ∙ ap version_for fields)
