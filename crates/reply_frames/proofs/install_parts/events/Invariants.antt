use Rattle.std.proofs.Common.{◌≡◌, ◌-◌}
use Rattle.reply_frames.specs.Parts.{passed, repeated_at}
use Rattle.reply_frames.specs.Frames.{event_at}
use Rattle.reply_frames.proofs.install_parts.events.Given as goal

abbrev pub invariant-loop : goal.invariant-loop
invariant-loop l = passed (repeated_at event_at (l.count - l.counter) l.rest) ≡ passed (repeated_at event_at l.count l.bytes)
