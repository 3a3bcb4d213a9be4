use Rattle.std.proofs.Common.{◌≡◌, ◌-◌}
use Rattle.reply_frames.specs.Parts.{passed, repeated_at}
use Rattle.reply_frames.specs.Frames.{instruction_at}
use Rattle.reply_frames.proofs.install_parts.instructions.Given as goal

abbrev pub invariant-loop : goal.invariant-loop
invariant-loop l = passed (repeated_at instruction_at (l.count - l.counter) l.rest) ≡ passed (repeated_at instruction_at l.count l.bytes)
