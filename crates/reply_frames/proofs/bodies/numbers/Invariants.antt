use Rattle.std.proofs.Common.{◌≡◌, ◌-◌, length}
use Rattle.std.specs.Int.{w64}
use Rattle.reply_frames.specs.Parts.{number_at, repeated_at}
use Rattle.reply_frames.proofs.Loops.{with_front}
use Rattle.reply_frames.proofs.bodies.numbers.Given as goal

abbrev pub invariant-loop : goal.invariant-loop
invariant-loop l = record {
  read : with_front l.numbers (repeated_at (number_at w64) (l.count - l.counter) l.rest) ≡ repeated_at (number_at w64) l.count l.bytes;
  counted : length l.numbers ≡ l.counter;
}
