use Rattle.std.proofs.Common.{◌≡◌, ◌+◌, ◌<◌, ◌≤◌, length, slice_set, sym, ap, ◌∙◌, arith}
use Rattle.std.proofs.lemmas.List.{set_past}
use Rattle.ccp_base.specs.declared.fields.FieldReg.{FieldReg}
use Rattle.reg_code.specs.CodeStart.{with_value}
use Rattle.fold_machine.specs.Store.{StoreState}
use Rattle.fold_machine.specs.Layout.{words_from, kept_in, first_field_word}
use Rattle.fold_machine.proofs.LayoutLemmas.{from-length, kept-cwnd, kept-rate, kept-control}
use Rattle.fold_machine.proofs.kept.write_value.Goals as goal

pub returns-in-Cwnd-clause-written : goal.returns-in-Cwnd-clause-written
returns-in-Cwnd-clause-written c =
    let words = c.args.store.now.registers in
    ap (λ (s : StoreState). kept_in c.args.sizes s.registers) c.set_register.ensures
    ∙ kept-cwnd c.args.sizes words c.args.value c.requires
    ∙ ap (λ (r : FieldReg). with_value r c.args.value (kept_in c.args.sizes words)) (sym c.in-Cwnd.is)

pub returns-in-Rate-clause-written : goal.returns-in-Rate-clause-written
returns-in-Rate-clause-written c =
    let words = c.args.store.now.registers in
    ap (λ (s : StoreState). kept_in c.args.sizes s.registers) c.set_register-in-Rate.ensures
    ∙ kept-rate c.args.sizes words c.args.value c.requires
    ∙ ap (λ (r : FieldReg). with_value r c.args.value (kept_in c.args.sizes words)) (sym c.in-Rate.is)

pub returns-then-from-sizes-clause-written : goal.returns-then-from-sizes-clause-written
returns-then-from-sizes-clause-written c =
    let words = c.args.store.now.registers in
    let i = c.in-Control.i in
    let here : i < c.args.sizes.controls = omega (arith, c.if-from-sizes.true, c.from.ensures) in
    ap (λ (s : StoreState). kept_in c.args.sizes s.registers) c.set_register-then-from-sizes.ensures
    ∙ ap (λ n. kept_in c.args.sizes (slice_set words (first_field_word + c.args.sizes.reports + n) c.args.value)) c.from-then-from-sizes.ensures
    ∙ kept-control c.args.sizes words i (first_field_word + c.args.sizes.reports + i) c.args.value c.requires (λ k. first_field_word + c.args.sizes.reports + i) here
    ∙ ap (λ (r : FieldReg). with_value r c.args.value (kept_in c.args.sizes words)) (sym c.in-Control.is)

pub returns-else-from-sizes-clause-written : goal.returns-else-from-sizes-clause-written
returns-else-from-sizes-clause-written c =
    let words = c.args.store.now.registers in
    let sizes = c.args.sizes in
    let i = c.in-Control.i in
    let controls = words_from words (first_field_word + sizes.reports) sizes.controls in
    let many : length controls ≡ sizes.controls = from-length words (first_field_word + sizes.reports) sizes.controls in
    let past : length controls ≤ i = omega (arith, many, c.if-from-sizes.false, c.from.ensures) in
    ap (λ xs. record (kept_in sizes words) { controls = xs }) (sym (set_past controls i c.args.value past))
    ∙ ap (λ (r : FieldReg). with_value r c.args.value (kept_in sizes words)) (sym c.in-Control.is)
