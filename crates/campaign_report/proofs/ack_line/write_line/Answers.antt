use Rattle.std.proofs.Common.{◌≡◌, ◌∙◌, ◌-◌, ◌++◌, ◌∷◌, [], List, set, drop, slice_index, ℕ, sym, ap, arith, append_assoc}
use Rattle.std.proofs.lemmas.List.{drop-drop, drop-set, drop_all}
use Rattle.ccp_base.specs.Acknowledgement.{primitives}
use Rattle.campaign_report.specs.AckLabels.{first_items, item_of}
use Rattle.campaign_report.proofs.LineLemmas.{item-more, line-written}
use Rattle.campaign_report.proofs.ack_line.write_line.Goals as goal

pub loop-number-init : goal.loop-number-init
loop-number-init c =
    let line : List ℕ = c.args.line.now in
    let end : drop 600 (set line 600 10) ≡ 10 ∷ [] =
    drop-set line 600 10 (omega arith) ∙ ap (λ (bytes : List ℕ). 10 ∷ bytes) (drop_all 601 line (omega arith)) in
    (omega arith, omega arith, omega arith, ap (λ (bytes : List ℕ). first_items 15 c.primitives-values.result ++ bytes) end)

pub loop-number-preserved : goal.loop-number-preserved
loop-number-preserved c =
    let l = c.loop-number in
    let values : List ℕ = c.primitives-values.result in
    let at : ℕ = l.number - 1 in
    let item : List ℕ = item_of at (slice_index values at) in
    let before : List ℕ = first_items at values in
    let after : List ℕ = drop l.start l.line in
    let written : drop c.write_item-start.result c.write_item-start.new.line ≡ item ++ after = c.write_item-start.ensures.written in
    let more : first_items l.number values ≡ before ++ item = item-more l.number values c.loop-number-test.true in
    let same : before ++ drop c.write_item-start.result c.write_item-start.new.line ≡ first_items l.number values ++ after =
    ap (λ (bytes : List ℕ). before ++ bytes) written ∙ sym (append_assoc before item after) ∙ ap (λ (bytes : List ℕ). bytes ++ after) (sym more) in
    (omega arith, omega arith, omega arith, same ∙ l.invariant.3)

pub returns-clause-written : goal.returns-clause-written
returns-clause-written c =
    let l = c.loop-number in
    let values : List ℕ = c.primitives-values.result in
    let none : l.number ≡ 0 = omega arith in
    let all : drop l.start l.line ≡ first_items 15 values ++ 10 ∷ [] = ap (λ n. first_items n values ++ drop l.start l.line) (sym none) ∙ l.invariant.3 in
    let shown : values ≡ primitives c.args.ack.now = c.primitives-values.ensures.numbers in
    sym (drop-drop 1 l.start l.line)
    ∙ ap (drop 1) all
    ∙ ap (λ (bytes : List ℕ). drop 1 (first_items 15 bytes ++ 10 ∷ [])) shown
    ∙ line-written c.args.ack.now
