use Rattle.std.proofs.Common.{◌≡◌, ◌-◌}
use Rattle.reply_frames.specs.Parts.{repeated_at}
use Rattle.reply_frames.proofs.Loops.{with_front}
use Rattle.ccp_messages.specs.Decoding.{code_event_at}
use Rattle.ccp_messages.proofs.read_code.events.Given as goal

abbrev pub invariant-loop : goal.invariant-loop
invariant-loop l = with_front l.items (repeated_at code_event_at (l.count - l.counter) l.rest) ≡ repeated_at code_event_at l.count l.bytes
