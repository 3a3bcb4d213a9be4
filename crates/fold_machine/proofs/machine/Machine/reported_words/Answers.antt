use Rattle.std.proofs.Common.{◌≡◌, ℕ, ◌≤◌, List, length, take, sym, ap, ◌∙◌, arith}
use Rattle.ccp_base.specs.Limits.{most_fields}
use Rattle.fold_machine.specs.MachineState.{MachineState}
use Rattle.fold_machine.specs.Store.{slot_words}
use Rattle.fold_machine.proofs.LayoutLemmas.{from-slice, from-length}
use Rattle.fold_machine.proofs.machine.Machine.reported_words.Goals as goal

pub returns-clause-words : goal.returns-clause-words
returns-clause-words c =
    let words = c.self.inside.store.report in
    let few : c.self.inside.reported ≤ most_fields = c.self.invariant.reported in
    let full : length words ≡ slot_words = c.self.invariant.ready.report in
    ap (λ (ws : List ℕ). take c.self.inside.reported ws) c.report.ensures.words
    ∙ from-slice words 0 c.self.inside.reported (omega arith)
    ∙ ap (λ (m : MachineState). m.report) c.self.view_is

pub returns-clause-within : goal.returns-clause-within
returns-clause-within c =
    let few : c.self.inside.reported ≤ most_fields = c.self.invariant.reported in
    let count : length c.args.self.now.report ≡ c.self.inside.reported =
    ap (λ (m : MachineState). length m.report) (sym c.self.view_is) ∙ from-length c.self.inside.store.report 0 c.self.inside.reported in
    omega (arith, few, count)
