use Rattle.std.proofs.Common.{◌≡◌, ℕ, ◌+◌, ◌≤◌, List, length, take, sym, ap, ◌∙◌, subst, arith}
use Rattle.ccp_base.specs.Limits.{most_fields}
use Rattle.slot_pool.specs.Pool.{ChangesSlot, words_with_run}
use Rattle.fold_machine.specs.Layout.{words_from}
use Rattle.fold_machine.specs.MachineState.{MachineState}
use Rattle.fold_machine.specs.Store.{slot_words}
use Rattle.fold_machine.proofs.LayoutLemmas.{from-slice, from-length}
use Rattle.fold_machine.proofs.machine.Machine.copy_report.Goals as goal

pub copy_report-requires-clause-within : goal.copy_report-requires-clause-within
copy_report-requires-clause-within c =
    let inside = c.self.inside in
    let count : length c.args.self.now.report ≡ inside.reported =
    ap (λ (m : MachineState). length m.report) (sym c.self.view_is) ∙ from-length inside.store.report 0 inside.reported in
    let words : inside.store.further.words ≡ c.args.self.now.further.words = ap (λ (m : MachineState). m.further.words) c.self.view_is in
    let within : c.args.at + length c.args.self.now.report ≤ c.args.self.now.further.words = c.requires.within in
    omega arith

pub returns-clause-written : goal.returns-clause-written
returns-clause-written c =
    let store = c.self.inside.store in
    let slot = c.args.slot.now in
    let new = c.copy_report.new.self.further in
    let few : c.self.inside.reported ≤ most_fields = c.self.invariant.reported in
    let full : length store.report ≡ slot_words = c.self.invariant.ready.report in
    let fields : take c.self.inside.reported store.report ≡ words_from store.report 0 c.self.inside.reported =
    from-slice store.report 0 c.self.inside.reported (omega arith) in
    subst (λ (m : MachineState). ChangesSlot m.further new slot (words_with_run m.further slot c.args.at m.report)) c.self.view_is
    (subst (λ (run : List ℕ). ChangesSlot store.further new slot (words_with_run store.further slot c.args.at run)) fields c.copy_report.ensures.written)
