use Rattle.std.proofs.Common.{◌≡◌, ◌∙◌, ◌++◌, ◌-◌, decimal, drop, [], slice_index_or, ℕ, List, sym, ap, arith, append_assoc}
use Rattle.std.proofs.lemmas.Fmt.{length-decimal-le}
use Rattle.campaign_report.specs.AckLabels.{label_at}
use Rattle.campaign_report.specs.declared.ack_line.TheConstants.{LABELS, LENGTHS}
use Rattle.campaign_report.proofs.LabelLemmas.{labels}
use Rattle.campaign_report.proofs.ack_line.write_shown.Goals as goal

pub write_digits-start-requires : goal.write_digits-start-requires
write_digits-start-requires c = omega (arith, length-decimal-le 20 c.args.value (omega arith) (omega arith) (omega arith))

pub write_label-requires : goal.write_label-requires
write_label-requires c = (
  (labels c.args.number c.requires.0).0,
  omega (arith, length-decimal-le 20 c.args.value (omega arith) (omega arith) (omega arith)),
  omega arith,
)

pub returns-clause-within : goal.returns-clause-within
returns-clause-within c = omega (arith, (labels c.args.number c.requires.0).0, length-decimal-le 20 c.args.value (omega arith) (omega arith) (omega arith))

pub returns-clause-written : goal.returns-clause-written
returns-clause-written c =
    let end = c.args.end in
    let line : List ℕ = c.args.line.now in
    let digits : List ℕ = decimal c.args.value in
    let rest : List ℕ = drop end line in
    let number = c.args.number in
    let label : List ℕ = drop (20 - slice_index_or LENGTHS number 0) (slice_index_or LABELS number []) in
    let after : List ℕ = drop c.write_digits-start.result c.write_digits-start.new.buf in
    let placed : drop c.write_label.result c.write_label.new.line ≡ label ++ after = c.write_label.ensures.written in
    placed
    ∙ ap (λ (bytes : List ℕ). bytes ++ after) (labels number c.requires.0).1
    ∙ ap (λ (bytes : List ℕ). label_at number ++ bytes) c.write_digits-start.ensures.written
    ∙ sym (append_assoc (label_at number) digits rest)
