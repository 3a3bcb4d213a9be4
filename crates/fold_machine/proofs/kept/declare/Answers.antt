use Rattle.std.proofs.Common.{◌≡◌, ◌+◌, List, length, slice_set, ap, ◌∙◌}
use Rattle.reg_code.specs.declared.code.Start.{Start}
use Rattle.reg_code.specs.AcceptedCode.{sizes_of}
use Rattle.fold_machine.specs.Store.{StoreState}
use Rattle.fold_machine.specs.Layout.{kept_in, zero_word, first_field_word}
use Rattle.fold_machine.specs.KeptWords.{declared_words}
use Rattle.fold_machine.proofs.KeptLemmas.{kept-declared, declared-twice, others-from}
use Rattle.fold_machine.proofs.kept.declare.Goals as goal

whole : (c : goal.After-declare_from-2) → let code = c.args.code.now in c.declare_from-2.new.store ≡ record c.args.store.now { registers = declared_words code.controls (first_field_word + length code.reports) (declared_words code.reports first_field_word (slice_set c.args.store.now.registers zero_word c.args.now)) }
whole c =
    let code = c.args.code.now in
    let second = c.declare_from.new.store in
    c.declare_from-2.ensures
    ∙ ap (λ (starts : List Start). record second { registers = declared_words starts (first_field_word + length c.reports-2.result.now) second.registers }) c.controls.ensures
    ∙ ap (λ n. record second { registers = declared_words code.controls (first_field_word + n) second.registers }) (ap length c.reports-2.ensures)
    ∙ ap (λ (s : StoreState). record s { registers = declared_words code.controls (first_field_word + length code.reports) s.registers })
    (c.declare_from.ensures
    ∙ ap (λ (starts : List Start). record c.set_register.new.self { registers = declared_words starts first_field_word c.set_register.new.self.registers }) c.reports.ensures
    ∙ ap (λ (s : StoreState). record s { registers = declared_words code.reports first_field_word s.registers }) c.set_register.ensures)

pub returns-clause-declared : goal.returns-clause-declared
returns-clause-declared c =
    ap (λ (s : StoreState). kept_in (sizes_of c.args.code.now) s.registers) (whole c) ∙ kept-declared c.args.code.now c.args.store.now.registers c.args.now c.requires

pub returns-clause-others : goal.returns-clause-others
returns-clause-others c = others-from c.args.store.now c.declare_from-2.new.store _ (whole c) (declared-twice c.args.code.now c.args.store.now.registers c.args.now)
