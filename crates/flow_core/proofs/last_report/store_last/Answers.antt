use Rattle.std.proofs.Common.{◌≡◌, List, ℕ, ap, ◌∙◌}
use Rattle.slot_pool.specs.Pool.{words_at}
use Rattle.fold_machine.specs.MachineState.{MachineState}
use Rattle.flow_lists.specs.ReportWords.{with_fields}
use Rattle.flow_lists.proofs.ReportWordLemmas.{written_report_as_is}
use Rattle.flow_core.proofs.last_report.store_last.Goals as goal

pub returns-clause-stored : goal.returns-clause-stored
returns-clause-stored c =
    let slot = c.take_free_slot-slot.result in
    let fields : List ℕ = c.args.machine.now.report in
    let kept : c.set_slot_run.new.self.report ≡ fields =
    ap (λ (m : MachineState). m.report) c.set_slot_run.ensures.own ∙ ap (λ (m : MachineState). m.report) c.take_free_slot-slot.ensures.machine in
    record {
      begins =
          written_report_as_is c.args.machine.now.further.words (with_fields fields c.args.report.now) c.last_head-head.result c.set_slot_run.new.self.report
          (words_at c.take_free_slot-slot.new.machine.further slot)
          (words_at c.set_slot_run.new.self.further slot)
          (words_at c.copy_report.new.self.further slot)
          c.last_head-head.ensures.words kept
          c.take_free_slot-slot.ensures.len c.set_slot_run.ensures.written.changed c.copy_report.ensures.written.changed;
      in_range = c.last_head-head.ensures.in_range;
    }
