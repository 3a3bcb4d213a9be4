use Rattle.std.proofs.Common.{◌≡◌, List, ℕ, length, sym, ap, ◌∙◌}
use Rattle.std.proofs.lemmas.Bool.{eqb-true}
use Rattle.slot_pool.specs.Pool.{with_run}
use Rattle.fold_machine.specs.Store.{StoreState}
use Rattle.fold_machine.proofs.StoreLemmas.{registers-written, run-nothing}
use Rattle.fold_machine.proofs.store.Store.set_registers.Goals as goal

pub returns-then-not-is_empty : goal.returns-then-not-is_empty
returns-then-not-is_empty c =
    let inside = c.self.inside in
    registers-written inside.pool c.write_run.new.self inside.registers inside.report (λ words. with_run words c.args.at c.args.run.now) c.args.self.now c.self.invariant c.self.view_is c.write_run.ensures.written

pub returns-else-not-is_empty : goal.returns-else-not-is_empty
returns-else-not-is_empty c =
    let old : StoreState = c.args.self.now in
    let run : List ℕ = c.args.run.now in
    let none : length run ≡ 0 = eqb-true (length run) 0 (sym c.is_empty.ensures ∙ c.if-not-is_empty.false) in
    ap (λ (words : List ℕ). record old { registers = words }) (sym (run-nothing old.registers c.args.at run none))
