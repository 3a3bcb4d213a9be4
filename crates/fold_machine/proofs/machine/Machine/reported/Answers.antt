use Rattle.std.proofs.Common.{◌≡◌, ℕ, ◌≤◌, List, length, take, ap, ◌∙◌, arith}
use Rattle.ccp_base.specs.Limits.{most_fields}
use Rattle.fold_machine.specs.MachineState.{MachineState}
use Rattle.fold_machine.specs.Store.{slot_words}
use Rattle.fold_machine.proofs.LayoutLemmas.{from-slice}
use Rattle.fold_machine.proofs.machine.Machine.reported.Goals as goal

pub returns : goal.returns
returns c =
    let words = c.self.inside.store.report in
    let few : c.self.inside.reported ≤ most_fields = c.self.invariant.reported in
    let full : length words ≡ slot_words = c.self.invariant.ready.report in
    c.from_slice.ensures
    ∙ ap (λ (ws : List ℕ). take c.self.inside.reported ws) c.report.ensures.words
    ∙ from-slice words 0 c.self.inside.reported (omega arith)
    ∙ ap (λ (m : MachineState). m.report) c.self.view_is
