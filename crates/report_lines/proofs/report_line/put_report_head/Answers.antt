use Rattle.std.proofs.Common.{◌∙◌, ◌++◌, List, ℕ, codes, decimal, ap, append_assoc}
use Rattle.report_lines.proofs.report_line.put_report_head.Goals as goal

pub returns : goal.returns
returns c =
    let report = c.args.report.now in
    let text = c.args.text.now in
    let program = λ (n : ℕ). codes "report program=" ++ decimal n in
    let epoch = λ (n : ℕ). codes " epoch=" ++ decimal n in
    let first = codes " span=" ++ decimal report.first in
    let end = codes ".." ++ decimal report.end in
    let p = c.from.result in
    let e = c.from-2.result in
    c.in_ok-put_labelled-4.ensures
    ∙ ap (λ (t : List ℕ). t ++ end) (c.in_ok-put_labelled-3.ensures
    ∙ ap (λ (t : List ℕ). t ++ first) (c.in_ok-put_labelled-2.ensures
    ∙ ap (λ (t : List ℕ). t ++ epoch e) c.in_ok-put_labelled.ensures))
    ∙ append_assoc ((text ++ program p) ++ epoch e) first end
    ∙ append_assoc (text ++ program p) (epoch e) (first ++ end)
    ∙ append_assoc text (program p) (epoch e ++ (first ++ end))
    ∙ ap (λ (n : ℕ). text ++ (program n ++ (epoch e ++ (first ++ end)))) c.from.ensures
    ∙ ap (λ (n : ℕ). text ++ (program report.program ++ (epoch n ++ (first ++ end)))) c.from-2.ensures
