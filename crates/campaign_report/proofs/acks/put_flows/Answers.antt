use Rattle.std.proofs.Common.{rules, arith, ◌≡◌, ◌+◌, ◌∷◌, ◌++◌, length, map, sym, ap, ◌∙◌, append_assoc}
use Rattle.campaign_report.specs.AcksText.{flow_text, flows_text}
use Rattle.campaign_report.proofs.acks.put_flows.Goals as goal

pub loop-acks-preserved : goal.loop-acks-preserved
loop-acks-preserved g c =
    let l = c.loop-acks in
    let word = g.L.Label.word in
    let acks = c.in-Some.acks.now in
    let rest = c.in-Some.rest.now in
    let name = c.in-Some-split_first.name.now in
    let names = c.in-Some-split_first.rest_names.now in
    let label = c.in-Some-split_first-2.label.now in
    let labels = c.in-Some-split_first-2.rest_labels.now in
    let one = flow_text l.flow name (word label) acks in
    let later = flows_text (l.flow + 1) names (map word labels) rest in
    let here : l.left.now ≡ acks ∷ rest = search rules in
    let named : l.left_names.now ≡ name ∷ names = search rules in
    let labelled : l.left_labels.now ≡ label ∷ labels = search rules in
    let put : c.put_flow_text.new.text ≡ l.text ++ one =
    c.in_ok-put_flow_text.ensures ∙ ap (λ heard. l.text ++ flow_text l.flow name (word label) heard) c.as_slice.ensures in
    let shorter = ap length here in (
      ap (λ text. text ++ later) put ∙ append_assoc l.text one later
          ∙ sym (ap (λ left. l.text ++ flows_text l.flow l.left_names.now (map word l.left_labels.now) left) here
          ∙ ap (λ left. l.text ++ flows_text l.flow left (map word l.left_labels.now) (acks ∷ rest)) named
          ∙ ap (λ left. l.text ++ flows_text l.flow (name ∷ names) (map word left) (acks ∷ rest)) labelled)
          ∙ l.invariant.0,
      omega (arith, shorter, l.invariant.1),
    )
