use Rattle.std.proofs.Common.{◌∙◌, ◌++◌, List, ℕ, codes, decimal, ap, append_assoc}
use Rattle.report_lines.proofs.fault_line.put_fault_head.Goals as goal

pub returns : goal.returns
returns c =
    let text = c.args.text.now in
    let epoch = codes "fault epoch=" ++ decimal c.from.result in
    let at = codes " ack=" ++ decimal c.args.at in
    c.in_ok-put_labelled-2.ensures
    ∙ ap (λ (t : List ℕ). t ++ at) c.in_ok-put_labelled.ensures
    ∙ append_assoc text epoch at
    ∙ ap (λ (n : ℕ). text ++ ((codes "fault epoch=" ++ decimal n) ++ at)) c.from.ensures
