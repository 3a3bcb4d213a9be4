use Rattle.std.proofs.Common.{◌≡◌, ◌≤◌, ◌*◌, ◌++◌, drop}
use Rattle.reg_code.specs.ListingText.{event_lines}
use Rattle.reg_code.proofs.text.put_events.Given as goal

abbrev pub invariant-loop-i : goal.invariant-loop-i
invariant-loop-i l = record {
  bounded : l.index ≤ 131070 * l.i;
  text : l.text ++ event_lines l.i l.index (drop l.i l.events) ≡ l.initial.text ++ event_lines 0 0 l.events;
}
