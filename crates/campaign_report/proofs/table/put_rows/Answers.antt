use Rattle.std.proofs.Common.{rules, ◌≡◌, ◌∷◌, ◌++◌, map, sym, ap, ◌∙◌, append_assoc}
use Rattle.campaign_report.specs.TableText.{row_line, row_lines}
use Rattle.campaign_report.proofs.table.put_rows.Goals as goal

pub loop-row-preserved : goal.loop-row-preserved
loop-row-preserved g c =
    let l = c.loop-row in
    let word = g.L.Label.word in
    let row = c.in-Some.row.now in
    let rest = c.in-Some.rest.now in
    let name = c.in-Some-split_first.name.now in
    let names = c.in-Some-split_first.rest_names.now in
    let label = c.in-Some-split_first-2.label.now in
    let labels = c.in-Some-split_first-2.rest_labels.now in
    let one = row_line name (word label) row in
    let later = row_lines rest names (map word labels) in
    let here : l.left.now ≡ row ∷ rest = search rules in
    let named : l.left_names.now ≡ name ∷ names = search rules in
    let labelled : l.left_labels.now ≡ label ∷ labels = search rules in
    let put : c.put_row.new.text ≡ l.text ++ one = search rules in
    ap (λ text. text ++ later) put ∙ append_assoc l.text one later
    ∙ sym (ap (λ left. l.text ++ row_lines left l.left_names.now (map word l.left_labels.now)) here
    ∙ ap (λ left. l.text ++ row_lines (row ∷ rest) left (map word l.left_labels.now)) named
    ∙ ap (λ left. l.text ++ row_lines (row ∷ rest) (name ∷ names) (map word left)) labelled)
    ∙ l.invariant
