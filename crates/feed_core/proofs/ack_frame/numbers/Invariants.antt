use Rattle.std.proofs.Common.{◌≡◌, ◌+◌, ◌*◌, ◌++◌, length, take, drop}
use Rattle.ccp_base.specs.Limits.{primitive_count}
use Rattle.reply_frames.specs.FrameBytes.{numbers_bytes}
use Rattle.feed_core.proofs.ack_frame.numbers.Given as goal

abbrev pub invariant-loop-number : goal.invariant-loop-number
invariant-loop-number l = record {
  full : length l.numbers ≡ primitive_count;
  read : numbers_bytes (take l.number l.numbers) ++ drop (16 + 8 * l.number) l.frame ≡ drop 16 l.frame;
}
