use Rattle.std.proofs.Common.{◌≡◌, Some, Option, sym, subst, ◌∙◌}
use Rattle.std.specs.Sync.Mutex.{mutex_guard_value, mutex_guard_with_value}
use Rattle.std.specs.declared.sync.MutexGuard.{MutexGuard}
use Rattle.flow_core.specs.Cells.{CellState}
use Rattle.flow_table.specs.HeldFlows.{OfHeld}
use Rattle.agent_loop.specs.Answering.{HasSettled}
use Rattle.agent_loop.proofs.nudged_desk.NudgedDeskAgentDesk.settle.Goals as goal

-- a call under the lock made this of the flow
of-held : {F : Type 0} → (Made : F → F → Type 0) (old : Option (MutexGuard F)) (before after : MutexGuard F) → old ≡ Some before
    → Made (mutex_guard_value before) (mutex_guard_value after) → OfHeld Made old (Some after)
of-held {F} Made old before after is made = subst (λ (held : Option (MutexGuard F)). OfHeld Made held (Some after)) (sym is) made

pub returns-clause-settled : goal.returns-clause-settled
returns-clause-settled g c =
    let held = c.in-Some.guard in
    let answer = c.args.answer in
    let new = c.settle_at.new.cell in
    of-held (λ before after. HasSettled before after answer) c.args.self.now.held held
    (mutex_guard_with_value held new)
    (sym c.take.ensures.value ∙ c.in-Some.is)
    (subst (λ (state : CellState). HasSettled state new answer) c.deref_mut.ensures.value c.settle_at.ensures.settled)
