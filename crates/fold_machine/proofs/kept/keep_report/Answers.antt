use Rattle.std.proofs.Common.{◌≡◌, ℕ, ◌+◌, ◌-◌, ◌≤◌, List, length, take, drop, sym, ap, ◌∙◌, arith}
use Rattle.ccp_base.specs.Limits.{most_fields}
use Rattle.reg_code.specs.Places.{reports_place, all_places}
use Rattle.fold_machine.specs.Store.{StoreState, slot_words}
use Rattle.fold_machine.specs.Layout.{words_from}
use Rattle.fold_machine.proofs.LayoutLemmas.{from-slice, from-run, from-length}
use Rattle.fold_machine.proofs.kept.keep_report.Goals as goal

pub returns-clause-copied : goal.returns-clause-copied
returns-clause-copied c =
    let words : List ℕ = c.args.words.now in
    let count : ℕ = c.args.count in
    let full : length words ≡ all_places = c.requires.words in
    let few : count ≤ most_fields = c.requires.count in
    let room : length c.args.store.now.report ≡ slot_words = c.requires.full in
    let many : reports_place + count - reports_place ≡ count = omega arith in
    let run : List ℕ = take (reports_place + count - reports_place) (drop reports_place words) in
    let is : run ≡ words_from words reports_place count = ap (λ n. take n (drop reports_place words)) many ∙ from-slice words reports_place count (omega arith) in
    let long : length run ≡ count = ap length is ∙ from-length words reports_place count in
    ap (λ (s : StoreState). words_from s.report 0 count) c.set_report.ensures
    ∙ from-run c.args.store.now.report 0 run count (omega (arith, long)) (sym long)
    ∙ is
