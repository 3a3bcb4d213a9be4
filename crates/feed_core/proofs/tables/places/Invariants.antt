use Rattle.std.proofs.Common.{◌≡◌, ◌≤◌, ◌-◌, None, length, replicate}
use Rattle.feed_core.proofs.tables.places.Given as goal

abbrev pub invariant-loop-places : goal.invariant-loop-places
invariant-loop-places g l = record {
  made : l.places.items ≡ replicate (length l.places.items) None;
  within : length l.places.items ≤ l.count;
}

abbrev pub decreases-loop-places : goal.decreases-loop-places
decreases-loop-places g l = l.count - length l.places.items
