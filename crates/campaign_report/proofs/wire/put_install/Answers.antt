use Rattle.std.proofs.Common.{◌≡◌, ◌∙◌, ◌++◌, rules, ap, append_assoc}
use Rattle.campaign_report.specs.WireText.{hex_line, install_head}
use Rattle.campaign_report.proofs.wire.put_install.Goals as goal

pub returns : goal.returns
returns c =
    let text = c.args.text.now in
    let frame = c.in_ok-frame.frame in
    let head : c.put_head.new.text ≡ text ++ install_head c.args.number = search rules in
    let digits : c.put_digits.new.text ≡ c.put_head.new.text ++ hex_line frame = search rules in
    digits
    ∙ ap (λ front. front ++ hex_line frame) head
    ∙ append_assoc text (install_head c.args.number) (hex_line frame)
    ∙ ap (λ bytes. text ++ (install_head c.args.number ++ hex_line bytes)) c.in_ok-frame.ensures
