use Rattle.std.proofs.Common.{◌≡◌, ℕ, ◌+◌, ◌-◌, ◌≤◌, List, length, take, drop, ap, ◌∙◌, arith}
use Rattle.ccp_base.specs.Limits.{most_fields}
use Rattle.fold_machine.specs.MachineState.{MachineState}
use Rattle.fold_machine.specs.Store.{slot_words}
use Rattle.fold_machine.specs.Layout.{first_field_word}
use Rattle.fold_machine.proofs.LayoutLemmas.{from-slice}
use Rattle.fold_machine.proofs.machine.Machine.fields.Goals as goal

pub returns : goal.returns
returns c =
    let reports = c.self.inside.sizes.reports in
    let words = c.self.inside.store.registers in
    let room = c.self.invariant.ready.room in
    let few : reports ≤ most_fields = room.few.reports in
    let full : length words ≡ slot_words = room.full in
    let count : first_field_word + reports - first_field_word ≡ reports = omega arith in
    c.from_slice.ensures
    ∙ ap (λ (ws : List ℕ). take (first_field_word + reports - first_field_word) (drop first_field_word ws)) c.registers.ensures.words
    ∙ ap (λ n. take n (drop first_field_word words)) count
    ∙ from-slice words first_field_word reports (omega arith)
    ∙ ap (λ (m : MachineState). m.kept.reports) c.self.view_is
