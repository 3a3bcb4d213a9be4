use Rattle.std.proofs.Common.{◌∷◌, [], ◌++◌, sym, subst}
use Rattle.slot_pool.specs.Pool.{words_at}
use Rattle.flow_lists.specs.Outbox.{OutboxState, Lies}
use Rattle.flow_lists.specs.ReportWords.{with_fields}
use Rattle.flow_lists.proofs.OutboxLemmas.{lies-pushed}
use Rattle.flow_core.proofs.machine_calls.put_last_report.Goals as goal

pub returns-clause-gained : goal.returns-clause-gained
returns-clause-gained c = λ reports lies.
    let old = c.args.machine.now.further in
    let new = c.store_last-slot.new.machine.further in
    let slot = c.store_last-slot.result in
    let report = with_fields c.args.machine.now.report c.args.report.now in
    subst (λ (o : OutboxState). Lies new o.slots (reports ++ report ∷ [])) (sym c.push_slot.ensures)
    (lies-pushed old new slot (words_at new slot) c.args.outbox.now.slots report reports
    c.store_last-slot.ensures.was_free c.store_last-slot.ensures.changed c.store_last-slot.ensures.stored lies)
