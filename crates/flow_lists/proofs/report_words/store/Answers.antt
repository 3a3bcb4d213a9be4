use Rattle.slot_pool.specs.Pool.{words_at}
use Rattle.flow_lists.proofs.ReportWordLemmas.{written_report}
use Rattle.flow_lists.proofs.report_words.store.Goals as goal

pub returns-clause-stored : goal.returns-clause-stored
returns-clause-stored g c =
    let slot = c.in-Ok.slot in
    record {
      begins =
          written_report (g.P.Slots.pool c.args.slots.now).words c.args.report.now c.report_head.result c.as_slice.result.now
          (words_at (g.P.Slots.pool c.take_slot.new.self) slot)
          (words_at (g.P.Slots.pool c.write.new.slots) slot)
          (words_at (g.P.Slots.pool c.write-2.new.slots) slot)
          c.requires.words c.report_head.ensures.in_range c.report_head.ensures.words c.as_slice.ensures.items
          c.in-Ok.ensures.zeros.changed c.write.ensures.written.changed c.write-2.ensures.written.changed;
      in_range = c.report_head.ensures.in_range;
    }
