use Rattle.std.proofs.Common.{◌≡◌, ◌-◌}
use Rattle.reply_frames.specs.Parts.{repeated_at}
use Rattle.reply_frames.specs.Frames.{value_at}
use Rattle.std.proofs.Common.{length}
use Rattle.reply_frames.proofs.Loops.{with_front}
use Rattle.reply_frames.proofs.values.values.Given as goal

abbrev pub invariant-loop : goal.invariant-loop
invariant-loop l = record { read : with_front l.read (repeated_at value_at (l.count - l.counter) l.rest) ≡ repeated_at value_at l.count l.bytes; counted : length l.read ≡ l.counter }
