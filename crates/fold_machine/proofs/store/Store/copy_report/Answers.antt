use Rattle.std.proofs.Common.{take, sym, ap, ◌∙◌, subst}
use Rattle.slot_pool.specs.Pool.{IsOut, free_of, ChangesSlot, words_with_run, front_at}
use Rattle.fold_machine.specs.Store.{StoreState, further_of, IsOwned}
use Rattle.fold_machine.proofs.StoreLemmas.{IsApart, further_apart, further_out, IsOut-further, run-further, free_of-further, further-changes, IsOwned-kept, own-kept}
use Rattle.fold_machine.proofs.store.Store.copy_report.Goals as goal

apart : (c : goal.After-copy_run) → IsApart c.self.inside.registers c.self.inside.report c.args.slot.now
apart c =
    let inside = c.self.inside in
    further_apart inside.pool inside.registers inside.report c.args.slot.now
    (subst (λ (s : StoreState). IsOut s.further c.args.slot.now) (sym c.self.view_is) c.requires.out)

owned : (c : goal.After-copy_run) → IsOwned c.copy_run.new.self c.self.inside.registers c.self.inside.report
owned c =
    let inside = c.self.inside in
    IsOwned-kept inside.pool c.copy_run.new.self inside.registers inside.report c.args.slot.now (words_with_run inside.pool c.args.slot.now c.args.at (front_at inside.pool inside.report c.args.count)) c.self.invariant (apart c) c.copy_run.ensures.written

pub copy_run-requires-clause-out : goal.copy_run-requires-clause-out
copy_run-requires-clause-out c =
    let inside = c.self.inside in
    further_out inside.pool inside.registers inside.report c.args.slot.now
    (subst (λ (s : StoreState). IsOut s.further c.args.slot.now) (sym c.self.view_is) c.requires.out)

pub returns-clause-written : goal.returns-clause-written
returns-clause-written c =
    let inside = c.self.inside in
    let slot = c.args.slot.now in
    let now = further_of c.copy_run.new.self inside.registers inside.report in
    let held = run-further inside.pool inside.registers inside.report slot c.args.at (front_at inside.pool inside.report c.args.count) (apart c) in
    let changes = further-changes inside.pool c.copy_run.new.self inside.registers inside.report slot (words_with_run inside.pool slot c.args.at (front_at inside.pool inside.report c.args.count)) (apart c) c.copy_run.ensures.written in
    subst (λ (s : StoreState). ChangesSlot s.further now slot (words_with_run s.further slot c.args.at (take c.args.count s.report))) c.self.view_is
    (subst (ChangesSlot (further_of inside.pool inside.registers inside.report) now slot) (sym held) changes)

pub returns-clause-out : goal.returns-clause-out
returns-clause-out c =
    let inside = c.self.inside in
    IsOut-further c.copy_run.new.self inside.registers inside.report c.args.slot.now (apart c) c.copy_run.ensures.out

pub returns-clause-counted : goal.returns-clause-counted
returns-clause-counted c =
    let inside = c.self.inside in
    free_of-further c.copy_run.new.self inside.registers inside.report (owned c)
    ∙ c.copy_run.ensures.counted
    ∙ sym (free_of-further inside.pool inside.registers inside.report c.self.invariant)
    ∙ ap (λ (s : StoreState). free_of s.further) c.self.view_is

pub returns-clause-own : goal.returns-clause-own
returns-clause-own c =
    let inside = c.self.inside in
    own-kept inside.pool c.copy_run.new.self inside.registers inside.report c.args.slot.now (words_with_run inside.pool c.args.slot.now c.args.at (front_at inside.pool inside.report c.args.count)) c.args.self.now c.self.view_is (apart c) c.copy_run.ensures.written
