use Rattle.std.proofs.Common.{◌≡◌, ◌+◌, ◌≤◌, length}
use Rattle.slot_pool.specs.Pool.{words_at, IsOut, free_of, ChangesSlot}
use Rattle.flow_lists.specs.Outbox.{most_report_words}
use Rattle.flow_lists.specs.ReportWords.{written_over}
use Rattle.flow_lists.proofs.report_words.write.Given as goal

abbrev pub invariant-loop-word : goal.invariant-loop-word
invariant-loop-word g l = record {
  within : l.at + length l.left ≤ most_report_words;
  words : most_report_words ≤ (g.P.Slots.pool l.slots).words;
  out : IsOut (g.P.Slots.pool l.slots) l.slot;
  changed : ChangesSlot (g.P.Slots.pool l.initial.slots) (g.P.Slots.pool l.slots) l.slot (words_at (g.P.Slots.pool l.slots) l.slot);
  written :
      written_over (words_at (g.P.Slots.pool l.slots) l.slot) l.at l.left
      ≡ written_over (words_at (g.P.Slots.pool l.initial.slots) l.slot) l.initial.at l.initial.left;
  free : free_of (g.P.Slots.pool l.slots) ≡ free_of (g.P.Slots.pool l.initial.slots);
  rest : g.P.Slots.rest l.slots ≡ g.P.Slots.rest l.initial.slots;
}

abbrev pub decreases-loop-word : goal.decreases-loop-word
decreases-loop-word g l = length l.left
